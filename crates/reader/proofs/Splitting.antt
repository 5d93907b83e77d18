-- Laws of input that comes in chunks (specs/Chunks.antt): what one more piece does, and that it makes no difference how the input is split.
use mathlib.Core.Path.{◌≡◌, refl, sym, ap, ◌∙◌}
use mathlib.Core.Bool.{Bool, true, false, cond}
use mathlib.Core.List.{List, [], ◌∷◌, ◌++◌, append_assoc}
use Prim.Native.Nat.{ℕ, zero, suc, ◌-◌, ◌≤◌, ◌<◌}
use native.Mathlib.Omega.{arith}
use native.Mathlib.Nat.{not-suc-le-zero, le_refl, pos_of_ne-zero}
use lib.Dec.{eqb, leb}
use lib.ListN.{length, take, drop, get_or, length-append, length-drop, drop_of_length-le, get_or-append}
use lib.Seq.{take_all, take-append-le, drop-append-le}
use borrow.Author.Tests.{eqb-true, eqb-false, eq-eqb, ne_eqb, le-leb, lt-leb, leb-true}
use Rattle.reader.specs.Chunks.{Front, Nothing, Unknown, Cut, Whole, front, on_front, Next, Stop, Goes, on_next, stepped, Reading, reading, chunks_in, read_on}

-- ---- what stands at the front

front_unknown : (size : ℕ → ℕ) (bs : List ℕ) → 0 < length bs → size (get_or bs 0 0) ≡ 0 → front size bs ≡ Unknown
unfolding front
front_unknown size [] h e = absurd (not-suc-le-zero h)
front_unknown size (b ∷ bs) h e = rw (eq-eqb (size b) 0 e)

front_whole : (size : ℕ → ℕ) (bs : List ℕ) → 0 < length bs → (size (get_or bs 0 0) ≡ 0 → ⊥) → size (get_or bs 0 0) ≤ length bs → front size bs ≡ Whole (size (get_or bs 0 0))
unfolding front
front_whole size [] h e w = absurd (not-suc-le-zero h)
front_whole size (b ∷ bs) h e w = rw (ne_eqb (size b) 0 e, le-leb (size b) (length (b ∷ bs)) w)

front_cut : (size : ℕ → ℕ) (bs : List ℕ) → 0 < length bs → length bs < size (get_or bs 0 0) → front size bs ≡ Cut
unfolding front
front_cut size [] h w = absurd (not-suc-le-zero h)
front_cut size (b ∷ bs) h w = rw (ne_eqb (size b) 0 (λ z. omega arith), lt-leb (size b) (length (b ∷ bs)) w)

-- a whole chunk has a byte at least, and no more than there are; an unknown one has its first byte
record Fits (size : ℕ → ℕ) (k : ℕ) (bs : List ℕ) : Type 0 where
  some : 0 < k
  within : k ≤ length bs
  is : size (get_or bs 0 0) ≡ k

record Strange (size : ℕ → ℕ) (bs : List ℕ) : Type 0 where
  some : 0 < length bs
  is : size (get_or bs 0 0) ≡ 0

module _ (n m k : ℕ) where
  whole_picked : (z l : Bool) → (z ≡ false → 0 < n) → (l ≡ true → n ≤ m) → cond z Unknown (cond l (Whole n) Cut) ≡ Whole k → (0 < n) × (n ≤ m) × (n ≡ k)
  whole_picked true l p q e = let z : ◌≡◌ {A = ℕ} 0 1 = cc in absurd (omega arith)
  whole_picked false true p q e = (p refl, q refl, (cc))
  whole_picked false false p q e = let z : ◌≡◌ {A = ℕ} 0 1 = cc in absurd (omega arith)

  unknown_picked : (z l : Bool) → (z ≡ true → n ≡ 0) → cond z Unknown (cond l (Whole n) Cut) ≡ Unknown → n ≡ 0
  unknown_picked true l p e = p refl
  unknown_picked false true p e = let z : ◌≡◌ {A = ℕ} 0 1 = cc in absurd (omega arith)
  unknown_picked false false p e = let z : ◌≡◌ {A = ℕ} 0 1 = cc in absurd (omega arith)

fits : (size : ℕ → ℕ) (bs : List ℕ) (k : ℕ) → front size bs ≡ Whole k → Fits size k bs
unfolding front
fits size [] k e = let z : ◌≡◌ {A = ℕ} 0 1 = cc in absurd (omega arith)
fits size (b ∷ bs) k e =
    let h = whole_picked (size b) (length (b ∷ bs)) k (eqb (size b) 0) (leb (size b) (length (b ∷ bs))) (λ p. pos_of_ne-zero (eqb-false (size b) 0 p)) (λ p. leb-true _ _ p) e in
    record { some = omega arith; within = omega arith; is = h.2 }

strange : (size : ℕ → ℕ) (bs : List ℕ) → front size bs ≡ Unknown → Strange size bs
unfolding front
strange size [] e = let z : ◌≡◌ {A = ℕ} 0 1 = cc in absurd (omega arith)
strange size (b ∷ bs) e =
    record { some = omega arith; is = unknown_picked (size b) (length (b ∷ bs)) 0 (eqb (size b) 0) (leb (size b) (length (b ∷ bs))) (λ p. eqb-true _ _ p) e }

nothing_picked : (n : ℕ) (z l : Bool) → cond z Unknown (cond l (Whole n) Cut) ≡ Nothing → ⊥
nothing_picked n true l e = let z : ◌≡◌ {A = ℕ} 0 1 = cc in omega arith
nothing_picked n false true e = let z : ◌≡◌ {A = ℕ} 0 1 = cc in omega arith
nothing_picked n false false e = let z : ◌≡◌ {A = ℕ} 0 1 = cc in omega arith

not_nothing : (size : ℕ → ℕ) (b : ℕ) (bs : List ℕ) → front size (b ∷ bs) ≡ Nothing → ⊥
unfolding front
not_nothing size b bs e = nothing_picked (size b) (eqb (size b) 0) (leb (size b) (length (b ∷ bs))) e

-- what stands whole at the front, or is unknown there, does so with more behind it
whole_append : (size : ℕ → ℕ) (bs more : List ℕ) (k : ℕ) → front size bs ≡ Whole k → front size (bs ++ more) ≡ Whole k
whole_append size bs more k e =
    let f = fits size bs k e in
    let l = length-append bs more in
    let g : get_or (bs ++ more) 0 0 ≡ get_or bs 0 0 = get_or-append bs more 0 0 (omega arith) in
    let s : size (get_or (bs ++ more) 0 0) ≡ k = ap size g ∙ f.is in
    front_whole size (bs ++ more) (omega arith) (λ z. omega (arith, f.some)) (omega arith) ∙ ap Whole s

unknown_append : (size : ℕ → ℕ) (bs more : List ℕ) → front size bs ≡ Unknown → front size (bs ++ more) ≡ Unknown
unknown_append size bs more e =
    let f = strange size bs e in
    let l = length-append bs more in
    let g : get_or (bs ++ more) 0 0 ≡ get_or bs 0 0 = get_or-append bs more 0 0 f.some in
    front_unknown size (bs ++ more) (omega arith) (ap size g ∙ f.is)

onto : {A : Type 0} (f : Front) (a b c : A) (d e : ℕ → A) → ((k : ℕ) → f ≡ Whole k → d k ≡ e k) → on_front f a b c d ≡ on_front f a b c e
onto Nothing a b c d e h = refl
onto Unknown a b c d e h = refl
onto Cut a b c d e h = refl
onto (Whole k) a b c d e h = h k refl

goes_onto : {S A : Type 0} (x : Next S) (a : A) (f g : S → List ℕ → A) → ((t : S) (l : List ℕ) → f t l ≡ g t l) → on_next x a f ≡ on_next x a g
goes_onto Stop a f g h = refl
goes_onto (Goes t l) a f g h = h t l

-- ---- chunks

module _ {S : Type 0} (size : S → ℕ → ℕ) (step : S → List ℕ → Next S) where
  pub chunks_none : (n : ℕ) (s : S) (o : List ℕ) → chunks_in size step n s o [] ≡ reading s o [] false
  unfolding chunks_in front
  chunks_none zero s o = refl
  chunks_none (suc n) s o = refl

  -- one turn, by what stands at the front
  pub chunks_unknown : (n : ℕ) (s : S) (o bs : List ℕ) → 0 < length bs → size s (get_or bs 0 0) ≡ 0 → chunks_in size step (suc n) s o bs ≡ reading s o [] true
  unfolding chunks_in
  chunks_unknown n s o bs h e = rw (front_unknown (size s) bs h e)

  pub chunks_cut : (n : ℕ) (s : S) (o bs : List ℕ) → 0 < length bs → length bs < size s (get_or bs 0 0) → chunks_in size step (suc n) s o bs ≡ reading s o bs false
  unfolding chunks_in
  chunks_cut n s o bs h w = rw (front_cut (size s) bs h w)

  module _ (n k : ℕ) (s : S) (o bs : List ℕ) (some : 0 < k) (within : k ≤ length bs) (is : size s (get_or bs 0 0) ≡ k) where
    whole_here : front (size s) bs ≡ Whole k
    whole_here = front_whole (size s) bs (omega arith) (λ z. omega arith) (omega arith) ∙ ap Whole is

    pub chunks_stop : step s (take k bs) ≡ Stop → chunks_in size step (suc n) s o bs ≡ reading s o [] true
    unfolding chunks_in
    chunks_stop e = rw (whole_here, e)

    pub chunks_goes : (t : S) (l : List ℕ) → step s (take k bs) ≡ Goes t l → chunks_in size step (suc n) s o bs ≡ chunks_in size step n t (o ++ l) (drop k bs)
    unfolding chunks_in
    chunks_goes t l e = rw (whole_here, e)

  start : (s : S) (o more : List ℕ) → read_on size step (chunks_in size step 0 s o []) more ≡ chunks_in size step (length more) s o more
  unfolding read_on chunks_in
  start s o more = refl

  -- there is never need for more turns than there are bytes
  enough : (m n : ℕ) (s : S) (o bs : List ℕ) → length bs ≤ m → length bs ≤ n → chunks_in size step m s o bs ≡ chunks_in size step n s o bs
  unfolding chunks_in
  enough zero n s o bs p q = rw (drop_of_length-le bs p) (sym (chunks_none n s o))
  enough (suc m) zero s o bs p q = rw (drop_of_length-le bs q) (chunks_none (suc m) s o)
  enough (suc m) (suc n) s o bs p q =
      onto (front (size s) bs) _ _ _ _ _
      (λ k e.
      let f = fits (size s) bs k e in
      let l = length-drop k bs in
      goes_onto (step s (take k bs)) _ _ _ (λ t x. enough m n t (o ++ x) (drop k bs) (omega arith) (omega arith)))

  -- what stands at the front decides
  at_whole : (n : ℕ) (s : S) (o bs : List ℕ) (k : ℕ) → front (size s) bs ≡ Whole k
      → chunks_in size step (suc n) s o bs ≡ on_next (step s (take k bs)) (reading s o [] true) (λ t l. chunks_in size step n t (o ++ l) (drop k bs))
  unfolding chunks_in
  at_whole n s o bs k e = rw e

  at_unknown : (n : ℕ) (s : S) (o bs : List ℕ) → front (size s) bs ≡ Unknown → chunks_in size step (suc n) s o bs ≡ reading s o [] true
  unfolding chunks_in
  at_unknown n s o bs e = rw e

  at_cut : (n : ℕ) (s : S) (o bs : List ℕ) → front (size s) bs ≡ Cut → chunks_in size step (suc n) s o bs ≡ reading s o bs false
  unfolding chunks_in
  at_cut n s o bs e = rw e

  -- what stopped reads nothing more
  pub reads_no_more : (s : S) (o r more : List ℕ) → read_on size step (reading s o r true) more ≡ reading s o r true
  unfolding read_on
  reads_no_more s o r more = refl

  -- a piece behind a whole chunk
  behind_next : (x : Next S) (s : S) (o more : List ℕ) (f g : S → List ℕ → Reading S) → ((t : S) (l : List ℕ) → read_on size step (f t l) more ≡ g t l)
      → read_on size step (on_next x (reading s o [] true) f) more ≡ on_next x (reading s o [] true) g
  behind_next Stop s o more f g h = reads_no_more s o [] more
  behind_next (Goes t l) s o more f g h = h t l

  -- a piece behind what was read
  behind_front : (n : ℕ) (s : S) (o bs more : List ℕ) (f : Front) → front (size s) bs ≡ f
      → ((k : ℕ) → front (size s) bs ≡ Whole k → (t : S) (q : List ℕ) → read_on size step (chunks_in size step n t q (drop k bs)) more ≡ chunks_in size step (length (drop k bs ++ more)) t q (drop k bs ++ more))
      → read_on size step (chunks_in size step (suc n) s o bs) more ≡ chunks_in size step (length (bs ++ more)) s o (bs ++ more)
  unfolding read_on
  behind_front n s o [] more f e ih = rw (chunks_none (suc n) s o)
  behind_front n s o (b ∷ bs) more Nothing e ih = absurd (not_nothing (size s) b bs e)
  behind_front n s o (b ∷ bs) more Unknown e ih =
      rw (at_unknown n s o (b ∷ bs) e) (sym (at_unknown (length (bs ++ more)) s o (b ∷ (bs ++ more)) (unknown_append (size s) (b ∷ bs) more e)))
  behind_front n s o (b ∷ bs) more Cut e ih = rw (at_cut n s o (b ∷ bs) e)
  behind_front n s o (b ∷ bs) more (Whole k) e ih =
      let f = fits (size s) (b ∷ bs) k e in
      let a = length-append (drop k (b ∷ bs)) more in
      let m = length-drop k (b ∷ bs) in
      let c = length-append bs more in
      let w = at_whole (length (bs ++ more)) s o (b ∷ (bs ++ more)) k (whole_append (size s) (b ∷ bs) more k e) in
      let t : take k (b ∷ (bs ++ more)) ≡ take k (b ∷ bs) = take-append-le k (b ∷ bs) more f.within in
      let d : drop k (b ∷ (bs ++ more)) ≡ drop k (b ∷ bs) ++ more = drop-append-le k (b ∷ bs) more f.within in
      let y = drop k (b ∷ bs) ++ more in
      rw (at_whole n s o (b ∷ bs) k e)
      (behind_next (step s (take k (b ∷ bs))) s o more _ _ (λ u l. ih k e u (o ++ l) ∙ enough (length y) (length (bs ++ more)) u (o ++ l) y (omega arith) (omega arith))
      ∙ sym (w ∙ ap (λ (v : List ℕ). on_next (step s v) (reading s o [] true) (λ u l. chunks_in size step (length (bs ++ more)) u (o ++ l) (drop k (b ∷ (bs ++ more))))) t
      ∙ ap (λ (v : List ℕ). on_next (step s (take k (b ∷ bs))) (reading s o [] true) (λ u l. chunks_in size step (length (bs ++ more)) u (o ++ l) v)) d))

  behind : (n : ℕ) (s : S) (o bs more : List ℕ) → length bs ≤ n → read_on size step (chunks_in size step n s o bs) more ≡ chunks_in size step (length (bs ++ more)) s o (bs ++ more)
  behind zero s o bs more h = rw (drop_of_length-le bs h) (start s o more)
  behind (suc n) s o bs more h =
      behind_front n s o bs more (front (size s) bs) refl
      (λ k e t q.
      let f = fits (size s) bs k e in
      let l = length-drop k bs in
      behind n t q (drop k bs) more (omega arith))

  -- the split law: two pieces one after the other are the one that they make
  split_at : (t : Bool) (s : S) (o r a b : List ℕ) → read_on size step (read_on size step (reading s o r t) a) b ≡ read_on size step (reading s o r t) (a ++ b)
  unfolding read_on
  split_at true s o r a b = refl
  split_at false s o r a b =
      behind (length (r ++ a)) s o (r ++ a) b (le_refl (length (r ++ a))) ∙ ap (λ (l : List ℕ). chunks_in size step (length l) s o l) (append_assoc r a b)

  pub split : (g : Reading S) (a b : List ℕ) → read_on size step (read_on size step g a) b ≡ read_on size step g (a ++ b)
  split g a b = split_at g.stopped g.state g.output g.rest a b

  -- ---- one chunk under way: the bytes there are with those that come make less than a chunk, just one, or none
  module _ (s : S) (o r more : List ℕ) (some : 0 < length (r ++ more)) where
    -- at least one turn
    some_turn : read_on size step (reading s o r false) more ≡ chunks_in size step (suc (length (r ++ more) - 1)) s o (r ++ more)
    unfolding read_on
    some_turn = ap (λ (n : ℕ). chunks_in size step n s o (r ++ more)) (omega arith)

    pub read_unknown : size s (get_or (r ++ more) 0 0) ≡ 0 → read_on size step (reading s o r false) more ≡ reading s o [] true
    read_unknown e = some_turn ∙ at_unknown _ s o (r ++ more) (front_unknown (size s) (r ++ more) some e)

    pub read_cut : length (r ++ more) < size s (get_or (r ++ more) 0 0) → read_on size step (reading s o r false) more ≡ reading s o (r ++ more) false
    read_cut h = some_turn ∙ at_cut _ s o (r ++ more) (front_cut (size s) (r ++ more) some h)

    pub read_whole : length (r ++ more) ≡ size s (get_or (r ++ more) 0 0)
        → read_on size step (reading s o r false) more ≡ stepped step s o (r ++ more)
    read_whole e =
        let n = length (r ++ more) - 1 in
        let k = size s (get_or (r ++ more) 0 0) in
        let w = at_whole n s o (r ++ more) k (front_whole (size s) (r ++ more) some (λ z. omega arith) (omega arith)) in
        let t : take k (r ++ more) ≡ r ++ more = take_all k (r ++ more) (omega arith) in
        let q : length (r ++ more) ≤ k = omega arith in
        let d : drop k (r ++ more) ≡ [] = drop_of_length-le (r ++ more) q in
        some_turn ∙ w ∙ ap (λ (v : List ℕ). on_next (step s v) (reading s o [] true) (λ u l. chunks_in size step n u (o ++ l) (drop k (r ++ more)))) t
        ∙ ap (λ (v : List ℕ). on_next (step s (r ++ more)) (reading s o [] true) (λ u l. chunks_in size step n u (o ++ l) v)) d
        ∙ goes_onto (step s (r ++ more)) _ _ _ (λ u l. chunks_none n u (o ++ l))
