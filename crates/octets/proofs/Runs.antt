-- Laws of runs of bytes (specs/Runs.antt): what a part of a list is, what a part put in its place leaves, and what the tests decide.
use mathlib.Core.Path.{◌≡◌, refl, sym, ap, ◌∙◌}
use mathlib.Core.Bool.{Bool, true, false, and_assoc, and-true, and-false, and-eq-true_iff}
use mathlib.Core.List.{List, [], ◌∷◌, ◌++◌, append_assoc, append-nil}
use Prim.Native.Nat.{ℕ, zero, suc, ◌+◌, ◌-◌, ◌≤◌, ◌<◌}
use native.Mathlib.Omega.{arith}
use native.Mathlib.Nat.{add-zero, zero-add, suc-add, add_assoc, le_refl, add-sub_cancel_left, sub-zero, zero-sub, suc-sub-suc}
use native.Mathlib.Numerals.{add-one}
use lib.Dec.{eqb}
use lib.ListN.{length, take, drop, set, get_or, replicate, length-append, length-take, length-drop, take-append-drop, drop_of_length-le}
use lib.Seq.{length-take-le, take-length, take-add, drop-drop, take-take, set_split, drop-cons, take_at, drop_at, take-nil, take_all, drop-append-add}
use borrow.Rule.Slice.PartMut.{put_mid}
use borrow.Author.Tests.{eqb-true, eq-eqb}
use Rattle.octets.specs.Runs.{part, put, both, same, zeros}

-- ---- parts

pub length_part : (at n : ℕ) (s : List ℕ) → at + n ≤ length s → length (part at n s) ≡ n
unfolding part
length_part at n s h = length-take-le n (drop at s) (rw length-drop (omega arith))

pub part_all : (n : ℕ) (s : List ℕ) → length s ≡ n → part 0 n s ≡ s
unfolding part
part_all n s e = rw (← e) (take-length s)

pub part_none : (at : ℕ) (s : List ℕ) → part at 0 s ≡ []
unfolding part
part_none at s = refl

pub part_add : (at m n : ℕ) (s : List ℕ) → part at (m + n) s ≡ part at m s ++ part (at + m) n s
unfolding part
part_add at m n s = take-add m n (drop at s) ∙ ap (λ (l : List ℕ). take m (drop at s) ++ take n l) (drop-drop m at s)

-- a part of what is left behind a place
pub part_drop : (i n k : ℕ) (s : List ℕ) → part i n (drop k s) ≡ part (k + i) n s
unfolding part
part_drop i n k s = ap (take n) (drop-drop i k s)

-- a part by its end
drop_take : (i n : ℕ) (s : List ℕ) → drop i (take (i + n) s) ≡ take n (drop i s)
drop_take zero n s = rw zero-add
drop_take (suc i) n [] = rw (suc-add, take-nil)
drop_take (suc i) n (x ∷ s) = rw suc-add (drop_take i n s)

-- a part depends on nothing behind its end
part_of_front : (i n m : ℕ) (s t : List ℕ) → i + n ≤ m → take m s ≡ take m t → part i n s ≡ part i n t
unfolding part
part_of_front i n m s t h e =
    sym (drop_take i n s) ∙ ap (drop i) (sym (take-take (i + n) m s h) ∙ ap (take (i + n)) e ∙ take-take (i + n) m t h) ∙ drop_take i n t

-- nor on anything before its start
part_of_rest : (i n m : ℕ) (s t : List ℕ) → m ≤ i → drop m s ≡ drop m t → part i n s ≡ part i n t
unfolding part
part_of_rest i n m s t h e =
    let k : m + (i - m) ≡ i = omega arith in
    ap (take n) (ap (λ (j : ℕ). drop j s) (sym k) ∙ sym (drop-drop (i - m) m s) ∙ ap (drop (i - m)) e ∙ drop-drop (i - m) m t ∙ ap (λ (j : ℕ). drop j t) k)

pub part_part : (i n j m : ℕ) (s : List ℕ) → i + n ≤ m → part i n (part j m s) ≡ part (j + i) n s
unfolding part
part_part i n j m s h = part_of_front i n m (take m (drop j s)) (drop j s) h (take-take m m (drop j s) (le_refl m)) ∙ ap (take n) (drop-drop i j s)

-- a part as it is lent, by its start and its end, and all that is behind a place
pub lent_part : (at n : ℕ) (s : List ℕ) → take (at + n - at) (drop at s) ≡ part at n s
unfolding part
lent_part at n s = rw add-sub_cancel_left

pub lent_rest : (at : ℕ) (s : List ℕ) → take (length s - at) (drop at s) ≡ drop at s
lent_rest at s = take_all (length s - at) (drop at s) (rw length-drop (omega arith))

-- the first of two lists, and a part of the second
pub part_first : (n : ℕ) (s t : List ℕ) → length s ≡ n → part 0 n (s ++ t) ≡ s
unfolding part
part_first n s t e = take_at s t n e

pub part_past : (i j n : ℕ) (s t : List ℕ) → i ≡ length s + j → part i n (s ++ t) ≡ part j n t
unfolding part
part_past i j n s t e = rw e (ap (take n) (drop-append-add s t j))

-- two parts that meet
pub part_join : (at m k n : ℕ) (s : List ℕ) → at + m ≡ k → part at m s ++ part k n s ≡ part at (m + n) s
part_join at m k n s e = rw (← e) (sym (part_add at m n s))

-- ---- a part put in place

module _ (at : ℕ) (s : List ℕ) (within : at ≤ length s) where
  -- what stands before and behind
  put_front : (p : List ℕ) → take at (put at p s) ≡ take at s
  unfolding put
  put_front p = take_at (take at s) (p ++ drop (at + length p) s) at (length-take-le at s within)

  put_rest : (p : List ℕ) → drop at (put at p s) ≡ p ++ drop (at + length p) s
  unfolding put
  put_rest p = drop_at (take at s) (p ++ drop (at + length p) s) at (length-take-le at s within)

  pub put_back : (p : List ℕ) → drop (at + length p) (put at p s) ≡ drop (at + length p) s
  put_back p = sym (drop-drop (length p) at (put at p s)) ∙ ap (drop (length p)) (put_rest p) ∙ drop_at p (drop (at + length p) s) (length p) refl

  pub put_head : (p : List ℕ) → take (at + length p) (put at p s) ≡ take at s ++ p
  put_head p = take-add at (length p) (put at p s) ∙ ap (λ (l : List ℕ). take at (put at p s) ++ take (length p) l) (put_rest p) ∙ rw put_front (ap (λ (l : List ℕ). take at s ++ l) (take_at p (drop (at + length p) s) (length p) refl))

  pub part_put_same : (p : List ℕ) → part at (length p) (put at p s) ≡ p
  unfolding part
  part_put_same p = ap (take (length p)) (put_rest p) ∙ take_at p (drop (at + length p) s) (length p) refl

  -- a part put right behind another
  pub put_next : (p q : List ℕ) → put (at + length p) q (put at p s) ≡ put at (p ++ q) s
  unfolding put
  put_next p q =
      let rest : List ℕ = drop (at + length (p ++ q)) s in
      let far : drop (at + length p + length q) (put at p s) ≡ rest =
      sym (drop-drop (length q) (at + length p) (put at p s)) ∙ ap (drop (length q)) (put_back p) ∙ drop-drop (length q) (at + length p) s
      ∙ ap (λ (n : ℕ). drop n s) (add_assoc at (length p) (length q) ∙ ap (λ (n : ℕ). at + n) (sym (length-append p q))) in
      ap (λ (l : List ℕ). l ++ (q ++ drop (at + length p + length q) (put at p s))) (put_head p) ∙ ap (λ (l : List ℕ). (take at s ++ p) ++ (q ++ l)) far
      ∙ append_assoc (take at s) p (q ++ rest) ∙ ap (λ (l : List ℕ). take at s ++ l) (sym (append_assoc p q rest))

  pub part_put_behind : (p : List ℕ) (i n : ℕ) → at + length p ≤ i → part i n (put at p s) ≡ part i n s
  part_put_behind p i n h = part_of_rest i n (at + length p) (put at p s) s h (put_back p)

pub length_put : (at : ℕ) (p s : List ℕ) → at + length p ≤ length s → length (put at p s) ≡ length s
unfolding put
length_put at p s h = simp (length-append, length-take, length-drop) (omega arith)

pub put_none : (at : ℕ) (s : List ℕ) → put at [] s ≡ s
unfolding put
put_none at s = rw add-zero (take-append-drop at s)

pub put_one : (at x : ℕ) (s : List ℕ) → at < length s → set s at x ≡ put at (x ∷ []) s
unfolding put
put_one at x s h = set_split s at x h ∙ rw add-one

-- a list put over the whole of another, and one put behind what stands in front
pub put_whole : (p s : List ℕ) → length p ≡ length s → put 0 p s ≡ p
unfolding put
put_whole p s e = let h : length s ≤ 0 + length p = omega arith in rw (drop_of_length-le s h) (append-nil p)

pub put_behind : (at : ℕ) (p q s : List ℕ) → length p ≡ at → put at q (put 0 p s) ≡ put 0 (p ++ q) s
put_behind at p q s e = rw (← e, ← zero-add (length p)) (put_next 0 s (omega arith) p q)

-- a part that was lent and has come back
pub lent_back : (at n : ℕ) (s p : List ℕ) → length p ≡ n → put_mid at (at + n - at) s p ≡ put at p s
unfolding put
lent_back at n s p e =
    rw add-sub_cancel_left (ap (λ (l : List ℕ). take at s ++ (p ++ l)) (drop-drop n at s ∙ ap (λ (k : ℕ). drop (at + k) s) (sym e)))

-- a list with a run in place is as long as it was
pub placed_length : (d₀ s : List ℕ) (at from i : ℕ) → at + i ≤ length d₀ → from + i ≤ length s → length (put at (part from i s) d₀) ≡ length d₀
placed_length d₀ s at from i p q = let l = length_part from i s q in length_put at (part from i s) d₀ (omega arith)

-- ---- runs of one byte

pub take_replicate : (k n x : ℕ) → k ≤ n → take k (replicate n x) ≡ replicate k x
take_replicate zero n x h = refl
take_replicate (suc k) zero x h = absurd (omega arith)
take_replicate (suc k) (suc n) x h = ap (λ (l : List ℕ). x ∷ l) (take_replicate k n x (omega arith))

pub drop_replicate : (k n x : ℕ) → drop k (replicate n x) ≡ replicate (n - k) x
drop_replicate zero n x = rw sub-zero
drop_replicate (suc k) zero x = rw zero-sub
drop_replicate (suc k) (suc n) x = drop_replicate k n x ∙ rw suc-sub-suc

-- ---- tests

-- `both` is mathlib's `&&`, and these are its laws
pub both_assoc : (a b c : Bool) → both (both a b) c ≡ both a (both b c)
both_assoc a b c = and_assoc a b c

pub both_true : (a b : Bool) → both a b ≡ true → (a ≡ true) × (b ≡ true)
both_true a b e = (and-eq-true_iff a b).0 e

pub both_one : (a : Bool) → both a true ≡ a
both_one a = and-true a

pub both_false : (a : Bool) → both a false ≡ false
both_false a = and-false a

pub same_true : (a b : List ℕ) → same a b ≡ true → a ≡ b
unfolding same
same_true [] [] e = refl
same_true [] (y ∷ ys) e = cc
same_true (x ∷ xs) [] e = cc
same_true (x ∷ xs) (y ∷ ys) e =
    let h = both_true (eqb x y) (same xs ys) e in
    let p = eqb-true x y h.0 in
    let q = same_true xs ys h.1 in
    cc

pub same_refl : (a : List ℕ) → same a a ≡ true
unfolding same
same_refl [] = refl
same_refl (x ∷ xs) = rw (eq-eqb x x refl) (same_refl xs)

pub same_lengths : (a b : List ℕ) → (length a ≡ length b → ⊥) → same a b ≡ false
unfolding same
same_lengths [] [] h = absurd (h refl)
same_lengths [] (y ∷ ys) h = refl
same_lengths (x ∷ xs) [] h = refl
same_lengths (x ∷ xs) (y ∷ ys) h = rw (same_lengths xs ys (λ e. h (ap suc e))) (both_false (eqb x y))

pub zeros_true : (s : List ℕ) → zeros s ≡ true → s ≡ replicate (length s) 0
unfolding zeros
zeros_true [] e = refl
zeros_true (x ∷ xs) e =
    let h = both_true (eqb x 0) (zeros xs) e in
    let p = eqb-true x 0 h.0 in
    let q = zeros_true xs h.1 in
    cc

pub zeros_replicate : (n : ℕ) → zeros (replicate n 0) ≡ true
unfolding zeros
zeros_replicate zero = refl
zeros_replicate (suc n) = zeros_replicate n

pub same_differ : (a b : List ℕ) → (a ≡ b → ⊥) → same a b ≡ false
same_differ a b h = go (same a b) refl
  where
    go : (t : Bool) → same a b ≡ t → t ≡ false
    go true e = absurd (h (same_true a b e))
    go false e = refl

pub same_append : (a b c d : List ℕ) → length a ≡ length b → same (a ++ c) (b ++ d) ≡ both (same a b) (same c d)
unfolding same
same_append [] [] c d l = refl
same_append [] (y ∷ b) c d l = absurd (omega arith)
same_append (x ∷ a) [] c d l = absurd (omega arith)
same_append (x ∷ a) (y ∷ b) c d l = ap (both (eqb x y)) (same_append a b c d (omega arith)) ∙ sym (both_assoc (eqb x y) (same a b) (same c d))

pub zeros_append : (a b : List ℕ) → zeros (a ++ b) ≡ both (zeros a) (zeros b)
unfolding zeros
zeros_append [] b = refl
zeros_append (x ∷ a) b = rw (zeros_append a b) (sym (both_assoc (eqb x 0) (zeros a) (zeros b)))

-- the test by what is left from a place on: one element more, nothing left
module _ (a b : List ℕ) (i : ℕ) where
  pub same_step : i < length a → i < length b → same (drop i a) (drop i b) ≡ both (eqb (get_or a i 0) (get_or b i 0)) (same (drop (i + 1) a) (drop (i + 1) b))
  unfolding same
  same_step p q = rw (drop-cons a i 0, drop-cons b i 0, add-one)

  pub same_end : length a ≤ i → length b ≤ i → same (drop i a) (drop i b) ≡ true
  unfolding same
  same_end p q = rw (drop_of_length-le a p, drop_of_length-le b q)
