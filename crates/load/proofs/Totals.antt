-- Laws of the counts (specs/Counts.antt): the totals of exactly shared bits sum to c, those from i up sum to k, and the points follow from them.
use mathlib.Core.Path.{◌≡◌, refl, sym, ap, ap₂, ◌∙◌}
use mathlib.Core.Bool.{Bool, true, false, cond}
use mathlib.Core.List.{List, [], ◌∷◌}
use Prim.Native.Nat.{ℕ, zero, suc, ◌+◌, ◌-◌, ◌*◌, ◌≤◌, ◌<◌, zero-le}
use native.Mathlib.Omega.{arith}
use native.Mathlib.Nat.{add-zero, add-suc, suc-add, zero-add, sub-zero, zero-sub, suc-sub-suc, not-suc-le-zero}
use native.Mathlib.Numerals.{add-one}
use lib.Dec.{eqb, leb}
use lib.ListN.{length, drop, get_or}
use borrow.Author.Tests.{eqb-true, eqb-false, leb-true, leb-false, le-leb, lt-leb}
use Rattle.octets.specs.Numbers.{number}
use Rattle.cache.specs.Chunks.{count}
use Rattle.similarity.specs.Bits.{passing, shared}
use Rattle.similarity.specs.Points.{enough, sum}
use Rattle.similarity.proofs.Bits.{passing_le, passing_same, shares_shared, shared_le}
use Rattle.load.specs.Counts.{address_of, near, exactly, similarity, table, totals}

-- ---- counting

pub count_same : (p q : List ℕ → Bool) (es : List (List ℕ)) → ((e : List ℕ) → p e ≡ q e) → count p es ≡ count q es
unfolding count
count_same p q [] h = refl
count_same p q (e ∷ es) h = rw (h e, count_same p q es h)

count_all : (p : List ℕ → Bool) (es : List (List ℕ)) → ((e : List ℕ) → p e ≡ true) → count p es ≡ length es
unfolding count
count_all p [] h = refl
count_all p (e ∷ es) h = rw (h e, count_all p es h) (omega arith)

-- ---- tables

pub length_table : (f : ℕ → ℕ) (n : ℕ) → length (table f n) ≡ n
unfolding table
length_table f zero = refl
length_table f (suc n) = ap suc (length_table (λ j. f (suc j)) n)

pub get_d_table : (f : ℕ → ℕ) (n j : ℕ) → j < n → get_or (table f n) j 0 ≡ f j
unfolding table
get_d_table f zero j h = absurd (let z : 1 ≤ 0 = omega arith in not-suc-le-zero z)
get_d_table f (suc n) zero h = refl
get_d_table f (suc n) (suc j) h = get_d_table (λ k. f (suc k)) n j (omega arith)

drop_table : (f : ℕ → ℕ) (n i : ℕ) → drop i (table f n) ≡ table (λ j. f (i + j)) (n - i)
unfolding table
drop_table f n zero = simp (zero-add, sub-zero)
drop_table f zero (suc i) = rw zero-sub
drop_table f (suc n) (suc i) = drop_table (λ j. f (suc j)) n i ∙ simp (suc-sub-suc, suc-add)

sum_zero : (n : ℕ) → sum (table (λ j. 0) n) ≡ 0
unfolding sum table
sum_zero zero = refl
sum_zero (suc n) = rw (sum_zero n)

sum_add : (f g : ℕ → ℕ) (n : ℕ) → sum (table (λ j. f j + g j) n) ≡ sum (table f n) + sum (table g n)
unfolding sum table
sum_add f g zero = refl
sum_add f g (suc n) = rw (sum_add (λ j. f (suc j)) (λ j. g (suc j)) n) (omega arith)

-- one of the numbers from i on is m, where m is among them
sum_one : (m i n : ℕ) → m < i + n → sum (table (λ j. cond (eqb m (i + j)) 1 0) n) ≡ cond (leb i m) 1 0
unfolding sum table
sum_one m i zero h = rw (lt-leb i m (omega arith))
sum_one m i (suc n) h = rw add-zero (go (eqb m i) (leb (suc i) m) refl refl (simp suc-add at (sum_one m (suc i) n (omega arith))))
  where
    go : (a b : Bool) → eqb m i ≡ a → leb (suc i) m ≡ b → sum (table (λ j. cond (eqb m (suc (i + j))) 1 0) n) ≡ cond (leb (suc i) m) 1 0
        → cond (eqb m i) 1 0 + sum (table (λ j. cond (eqb m (i + suc j)) 1 0) n) ≡ cond (leb i m) 1 0
    go true true p q r = let x = eqb-true m i p in let y = leb-true (suc i) m q in absurd (let z : 1 ≤ 0 = omega arith in not-suc-le-zero z)
    go true false p q r = let x = eqb-true m i p in simp (add-suc, r, p, q, le-leb i m (omega arith))
    go false true p q r = let y = leb-true (suc i) m q in simp (add-suc, r, p, q, le-leb i m (omega arith))
    go false false p q r =
        let x = eqb-false m i p in
        let y = leb-false (suc i) m q in
        simp (add-suc, r, p, q, lt-leb i m (omega arith))

-- ---- the totals

-- entries by a number m that each has: those whose number is from i to n
tail_sum : (m : List ℕ → ℕ) (n i : ℕ) → i ≤ suc n → ((e : List ℕ) → m e ≤ n) → (es : List (List ℕ))
    → sum (table (λ j. count (λ e. eqb (m e) (i + j)) es) (suc n - i)) ≡ count (λ e. leb i (m e)) es
unfolding count
tail_sum m n i h k [] = sum_zero (suc n - i)
tail_sum m n i h k (e ∷ es) =
    let l = k e in
    sum_add (λ j. cond (eqb (m e) (i + j)) 1 0) (λ j. count (λ f. eqb (m f) (i + j)) es) (suc n - i)
    ∙ ap₂ (λ (x y : ℕ). x + y) (sum_one (m e) i (suc n - i) (omega arith)) (tail_sum m n i h k es)

module _ (a : ℕ) (x : List ℕ) (es : List (List ℕ)) where
  from_up : (i : ℕ) → i ≤ 8 * a + 1 → sum (drop i (totals a x es)) ≡ count (λ e. leb i (shared (8 * a) (address_of a e) (number x))) es
  unfolding totals
  from_up i h =
      ap sum (drop_table (λ j. count (exactly a x j) es) (8 * a + 1) i)
      ∙ rw add-one (tail_sum (λ e. shared (8 * a) (address_of a e) (number x)) (8 * a) i (omega arith) (λ e. shared_le (8 * a) (address_of a e) (number x)) es)

  -- the totals sum to c
  pub totals_all : sum (totals a x es) ≡ length es
  totals_all = from_up 0 zero-le ∙ count_all _ es (λ e. le-leb 0 (shared (8 * a) (address_of a e) (number x)) zero-le)

  -- those from i up sum to k
  pub totals_from : (i : ℕ) → 1 ≤ i → i ≤ 8 * a → sum (drop i (totals a x es)) ≡ count (near a x i) es
  totals_from i h k = from_up i (omega arith) ∙ count_same _ (near a x i) es (λ e. sym (shares_shared (8 * a) i (address_of a e) (number x) h k))

  -- so the points are told from the totals
  pub similarity_from : similarity a x es ≡ passing (λ i. enough (length es) (sum (drop i (totals a x es))) i) (8 * a)
  unfolding similarity
  similarity_from =
      passing_same (λ i. enough (length es) (count (near a x i) es) i) (λ i. enough (length es) (sum (drop i (totals a x es))) i) (8 * a)
      (λ i h k. rw (totals_from i h k))

  -- at most one for each bit
  pub similarity_le : similarity a x es ≤ 8 * a
  unfolding similarity
  similarity_le = passing_le (λ i. enough (length es) (count (near a x i) es) i) (8 * a)
