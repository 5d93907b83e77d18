-- Pieces of any length, handed to calls one after the other, are read and printed as the whole (specs/Chunks.antt, specs/Feeding.antt).
use mathlib.Core.Path.{◌≡◌, refl, sym, ap, ◌∙◌}
use mathlib.Core.Bool.{Bool, true, false}
use mathlib.Core.List.{List, [], ◌++◌, append_assoc, append-nil}
use Prim.Native.Nat.{ℕ, zero, suc}
use lib.ListN.{length, take, drop}
use Rattle.reader.specs.Chunks.{Front, Nothing, Unknown, Cut, Whole, front, on_front, Next, Stop, Goes, on_next, Reading, reading, fresh, chunks_in, read_on, in_all, output_of}
use Rattle.reader.specs.Feeding.{Program, Hand, read_by, reading_of, finishing, Calls, none, then}
use Rattle.reader.proofs.Splitting.{split}

-- with output before its own
abbrev after : {S : Type 0} → List ℕ → Reading S → Reading S
after p g = reading g.state (p ++ g.output) g.rest g.stopped

module _ {S : Type 0} (size : S → ℕ → ℕ) (step : S → List ℕ → Next S) where
  -- the reading does not look at the output so far
  chunks_after : (p : List ℕ) (n : ℕ) (s : S) (o bs : List ℕ) → chunks_in size step n s (p ++ o) bs ≡ after p (chunks_in size step n s o bs)
  unfolding chunks_in
  chunks_after p zero s o bs = refl
  chunks_after p (suc n) s o bs =
      by (front (size s) bs) _ _
      (λ k. goes (step s (take k bs)) _ _ (λ t l. ap (λ (q : List ℕ). chunks_in size step n t q (drop k bs)) (append_assoc p o l) ∙ chunks_after p n t (o ++ l) (drop k bs)))
    where
      goes : (x : Next S) (f g : S → List ℕ → Reading S) → ((t : S) (l : List ℕ) → f t l ≡ after p (g t l)) → on_next x (reading s (p ++ o) [] true) f ≡ after p (on_next x (reading s o [] true) g)
      goes Stop f g h = refl
      goes (Goes t l) f g h = h t l

      by : (f : Front) (d e : ℕ → Reading S) → ((k : ℕ) → d k ≡ after p (e k))
          → on_front f (reading s (p ++ o) [] false) (reading s (p ++ o) [] true) (reading s (p ++ o) bs false) d ≡ after p (on_front f (reading s o [] false) (reading s o [] true) (reading s o bs false) e)
      by Nothing d e h = refl
      by Unknown d e h = refl
      by Cut d e h = refl
      by (Whole k) d e h = h k

  after_at : (p : List ℕ) (t : Bool) (s : S) (o r bs : List ℕ) → read_on size step (reading s (p ++ o) r t) bs ≡ after p (read_on size step (reading s o r t) bs)
  unfolding read_on
  after_at p true s o r bs = refl
  after_at p false s o r bs = chunks_after p (length (r ++ bs)) s o (r ++ bs)

  read_after : (p : List ℕ) (g : Reading S) (bs : List ℕ) → read_on size step (after p g) bs ≡ after p (read_on size step g bs)
  read_after p g bs = after_at p g.stopped g.state g.output g.rest bs

  -- nothing read of nothing
  fresh_none : (s : S) → read_on size step (fresh s) [] ≡ fresh s
  unfolding read_on chunks_in
  fresh_none s = refl

module _ {S : Type 0} {p : Program S} {s : S} {h : Hand S} (starts : reading_of p h [] ≡ fresh s) where
  -- what calls leave in hand and wrote is what reading the bytes that they used gives
  calls_read : {input lines : List ℕ} {k : Hand S} → Calls p h input lines k → reading_of p k lines ≡ read_by p (fresh s) input
  calls_read none = starts ∙ sym (fresh_none p.size p.step s)
  calls_read (then {k} {input} {lines} {piece} {out} {out'} {r} c f) =
      let used = take r.used piece in
      ap (after lines) f.reads ∙ sym (read_after p.size p.step lines (reading_of p k []) used) ∙ rw (append-nil lines, calls_read c) (split p.size p.step (fresh s) input used)

  -- any split of an input into pieces, handed to calls one after the other and finished, writes what is printed of the whole
  pub pieces_print_whole : {input lines : List ℕ} {k : Hand S} → Calls p h input lines k → lines ++ finishing p k ≡ output_of p.size p.step p.last s input
  unfolding output_of
  pieces_print_whole {input} {lines} {k} c = ap (in_all p.size p.step p.last) (calls_read c)
