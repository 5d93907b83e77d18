-- Two readers of the same input that agree (specs/Chunks.antt): their sizes, their steps and their ends agree where their states do. Then they
-- print the same.
use mathlib.Core.Path.{◌≡◌, refl, ap, ◌∙◌}
use mathlib.Core.Bool.{Bool, true, false}
use mathlib.Core.List.{List, [], ◌∷◌, ◌++◌}
use mathlib.Core.Logic.{◌⊎◌, ⊎_elim}
use Prim.Native.Nat.{ℕ, zero, suc}
use lib.ListN.{length, take, drop}
use Rattle.reader.specs.Chunks.{Front, Nothing, Unknown, Cut, Whole, front, on_front, Next, Stop, Goes, on_next, Reading, reading, complete, chunks_in, read_on, output_of}

-- both go on, with the same output
pub record GoBoth {S T : Type 0} (R : S → T → Type 0) (x : Next S) (y : Next T) : Type 0 where
  pub one : S
  pub other : T
  pub line : List ℕ
  pub first_goes : x ≡ Goes one line
  pub second_goes : y ≡ Goes other line
  pub agree : R one other

-- both stop, or both go on
abbrev pub NextAlike : {S T : Type 0} → (S → T → Type 0) → Next S → Next T → Type 0
NextAlike R x y = ((x ≡ Stop) × (y ≡ Stop)) ⊎ GoBoth R x y

record BothRead {S T : Type 0} (R : S → T → Type 0) (g : Reading S) (h : Reading T) : Type 0 where
  states : R g.state h.state
  outputs : g.output ≡ h.output
  rests : g.rest ≡ h.rest
  stops : g.stopped ≡ h.stopped

module _ {S T : Type 0} (sizeS : S → ℕ → ℕ) (stepS : S → List ℕ → Next S) (sizeT : T → ℕ → ℕ) (stepT : T → List ℕ → Next T) (R : S → T → Type 0)
    (same_size : (s : S) (t : T) (b : ℕ) → R s t → sizeS s b ≡ sizeT t b) (same_step : (s : S) (t : T) (chunk : List ℕ) → R s t → NextAlike R (stepS s chunk) (stepT t chunk)) where
  front_same : (s : S) (t : T) (bs : List ℕ) → R s t → front (sizeS s) bs ≡ front (sizeT t) bs
  unfolding front
  front_same s t [] r = refl
  front_same s t (b ∷ bs) r = rw (same_size s t b r)

  chunks_alike : (n : ℕ) (s : S) (t : T) (o bs : List ℕ) → R s t → BothRead R (chunks_in sizeS stepS n s o bs) (chunks_in sizeT stepT n t o bs)
  unfolding chunks_in
  chunks_alike zero s t o bs r = record { states = r; outputs = refl; rests = refl; stops = refl }
  chunks_alike (suc n) s t o bs r = rw (front_same s t bs r) (by (front (sizeT t) bs) (λ k u v l q. chunks_alike n u v (o ++ l) (drop k bs) q))
    where
      by : (f : Front)
          → ((k : ℕ) (u : S) (v : T) (l : List ℕ) → R u v → BothRead R (chunks_in sizeS stepS n u (o ++ l) (drop k bs)) (chunks_in sizeT stepT n v (o ++ l) (drop k bs)))
          → BothRead R
          (on_front f (reading s o [] false) (reading s o [] true) (reading s o bs false)
          (λ k. on_next (stepS s (take k bs)) (reading s o [] true) (λ u l. chunks_in sizeS stepS n u (o ++ l) (drop k bs))))
          (on_front f (reading t o [] false) (reading t o [] true) (reading t o bs false)
          (λ k. on_next (stepT t (take k bs)) (reading t o [] true) (λ u l. chunks_in sizeT stepT n u (o ++ l) (drop k bs))))
      by Nothing i = record { states = r; outputs = refl; rests = refl; stops = refl }
      by Unknown i = record { states = r; outputs = refl; rests = refl; stops = refl }
      by Cut i = record { states = r; outputs = refl; rests = refl; stops = refl }
      by (Whole k) i =
          ⊎_elim (λ p. rw (p.0, p.1) (record { states = r; outputs = refl; rests = refl; stops = refl }))
          (λ q. rw (q.first_goes, q.second_goes) (i k q.one q.other q.line q.agree))
          (same_step s t (take k bs) r)

  module _ (lastS : S → Bool → List ℕ) (lastT : T → Bool → List ℕ) (same-last : (s : S) (t : T) (b : Bool) → R s t → lastS s b ≡ lastT t b) where
    pub output_alike : (s : S) (t : T) (input : List ℕ) → R s t → output_of sizeS stepS lastS s input ≡ output_of sizeT stepT lastT t input
    unfolding output_of read_on
    output_alike s t input r =
        let b = chunks_alike (length input) s t [] input r in
        let g = chunks_in sizeS stepS (length input) s [] input in
        let h = chunks_in sizeT stepT (length input) t [] input in
        let c : complete g ≡ complete h = rw (b.rests, b.stops) in
        let e : lastS g.state (complete g) ≡ lastT h.state (complete h) = same-last g.state h.state (complete g) b.states ∙ ap (lastT h.state) c in
        ap (λ (x : List ℕ). x ++ lastS g.state (complete g)) b.outputs ∙ ap (λ (x : List ℕ). h.output ++ x) e
