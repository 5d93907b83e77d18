-- Laws of shared leading bits (specs/Bits.antt): numbers cut into a high and a low part, and the zeros in front of where two differ.
use mathlib.Core.Path.{◌≡◌, refl, sym, ap, ap₂, ◌∙◌}
use mathlib.Core.Bool.{Bool, true, false, cond}
use mathlib.Core.Logic.{⊎_elim}
use Prim.Native.Nat.{ℕ, zero, suc, ◌+◌, ◌-◌, ◌*◌, ◌/◌, ◌%◌, ◌^◌, ◌≤◌, ◌<◌, zero-le}
use native.Mathlib.Omega.{arith}
use native.Mathlib.Nat.{add-zero, add-suc, zero-add, le_refl, mod-lt, div-add-mod', add-sub_of_le, div-one, mul_assoc, mul-add-div_right, eq-or-lt_of_le, not-suc-le-zero, zero-div}
use lib.Dec.{eqb, leb}
use lib.Pow.{pow-add, pow_pos, shr-shr, shr_lt}
use lib.Arith.{digits_div, digits_mod}
use lib.Bits.{bit_xor, xor_self, xor_add_and, xor_shr, and_le_l, and_le_r}
use borrow.Author.Tests.{eqb-true, eqb-false, eq-eqb, ne_eqb, le-leb, lt-leb}
use Rattle.octets.specs.Runs.{both}
use Rattle.octets.specs.Counting.{passing_below}
use Rattle.octets.proofs.Counting.{one_most}
use Rattle.similarity.specs.Bits.{shares, passing, shared}

-- ---- how many of 1 to n pass

pub passing_le : (f : ℕ → Bool) (n : ℕ) → passing f n ≤ n
unfolding passing_below
passing_le f zero = zero-le
passing_le f (suc n) = omega (arith, passing_le f n, one_most (f (suc n)))

pub passing_same : (f g : ℕ → Bool) (n : ℕ) → ((i : ℕ) → 1 ≤ i → i ≤ n → f i ≡ g i) → passing f n ≡ passing g n
unfolding passing_below
passing_same f g zero h = refl
passing_same f g (suc n) h =
    let e : f (suc n) ≡ g (suc n) = h (suc n) (omega arith) (le_refl (suc n)) in
    rw (e, passing_same f g n (λ i k l. h i k (omega arith)))

-- the first j and then the next k
pub passing_add : (f : ℕ → Bool) (j k : ℕ) → passing f (j + k) ≡ passing f j + passing (λ i. f (j + i)) k
unfolding passing_below
passing_add f j zero = rw add-zero (sym (add-zero (passing f j)))
passing_add f j (suc k) = rw (add-suc, passing_add f j k) (omega arith)

pub passing_all : (f : ℕ → Bool) (n : ℕ) → ((i : ℕ) → 1 ≤ i → i ≤ n → f i ≡ true) → passing f n ≡ n
unfolding passing_below
passing_all f zero h = refl
passing_all f (suc n) h =
    let e : f (suc n) ≡ true = h (suc n) (omega arith) (le_refl (suc n)) in
    rw (e, passing_all f n (λ i k l. h i k (omega arith))) (omega arith)

pub passing_none : (f : ℕ → Bool) (n : ℕ) → ((i : ℕ) → 1 ≤ i → i ≤ n → f i ≡ false) → passing f n ≡ 0
unfolding passing_below
passing_none f zero h = refl
passing_none f (suc n) h =
    let e : f (suc n) ≡ false = h (suc n) (omega arith) (le_refl (suc n)) in
    rw (e, passing_none f n (λ i k l. h i k (omega arith)))

-- ---- two numbers, cut into a high and a low part

-- two numbers are the same if their digits are
digits_same : (c a b a' b' : ℕ) → b < c → b' < c → eqb (a * c + b) (a' * c + b') ≡ both (eqb a a') (eqb b b')
digits_same c a b a' b' h k = go (eqb a a') (eqb b b') refl refl
  where
    go : (p q : Bool) → eqb a a' ≡ p → eqb b b' ≡ q → eqb (a * c + b) (a' * c + b') ≡ both p q
    go true true d e = let f = eqb-true a a' d in let g = eqb-true b b' e in rw (f, g) (eq-eqb (a' * c + b') (a' * c + b') refl)
    go true false d e = ne_eqb (a * c + b) (a' * c + b') (λ s. eqb-false b b' e (sym (digits_mod a h) ∙ ap (λ (z : ℕ). z % c) s ∙ digits_mod a' k))
    go false q d e = ne_eqb (a * c + b) (a' * c + b') (λ s. eqb-false a a' d (sym (digits_div a h) ∙ ap (λ (z : ℕ). z / c) s ∙ digits_div a' k))

same_shares : (n i x y : ℕ) → x ≡ y → shares n i x y ≡ true
unfolding shares
same_shares n i x y e = rw e (eq-eqb (y / 2 ^ (n - i)) (y / 2 ^ (n - i)) refl)

mul_reassoc : (a b c d : ℕ) → a * b * c + d ≡ a * (b * c) + d
mul_reassoc a b c d = rw mul_assoc

module _ (j k x y : ℕ) where
  -- the first i bits are those of the high parts
  high_shares : (i : ℕ) → i ≤ j → shares (j + k) i x y ≡ shares j i (x / 2 ^ k) (y / 2 ^ k)
  unfolding shares
  high_shares i h =
      let e : j + k - i ≡ k + (j - i) = omega arith in
      rw (e, ← shr-shr x k (j - i), ← shr-shr y k (j - i))

  -- what is left of a number once all but i bits of its low part are shifted out
  shifted : (z i : ℕ) → i ≤ k → z / 2 ^ (k - i) ≡ z / 2 ^ k * 2 ^ i + (z % 2 ^ k) / 2 ^ (k - i)
  shifted z i h =
      let m = 2 ^ (k - i) in
      let p : 2 ^ k ≡ 2 ^ i * m = sym (ap (λ (t : ℕ). 2 ^ t) (add-sub_of_le h)) ∙ pow-add 2 i (k - i) in
      let e : z / 2 ^ k * 2 ^ i * m + z % 2 ^ k ≡ z = mul_reassoc (z / 2 ^ k) (2 ^ i) m (z % 2 ^ k) ∙ rw (← p) (div-add-mod' z (2 ^ k)) in
      sym (ap (λ (t : ℕ). t / m) e) ∙ mul-add-div_right (pow_pos (k - i)) (z / 2 ^ k * 2 ^ i) (z % 2 ^ k)

  low_shares : (i : ℕ) → i ≤ k → shares (j + k) (j + i) x y ≡ both (eqb (x / 2 ^ k) (y / 2 ^ k)) (shares k i (x % 2 ^ k) (y % 2 ^ k))
  unfolding shares
  low_shares i h =
      let e : j + k - (j + i) ≡ k - i = omega arith in
      let low : (z : ℕ) → z % 2 ^ k / 2 ^ (k - i) < 2 ^ i =
      λ z. shr_lt i (k - i) (rw (add-sub_of_le h) (mod-lt z (pow_pos k))) in
      rw (e, shifted x i h, shifted y i h)
      (digits_same (2 ^ i) (x / 2 ^ k) (x % 2 ^ k / 2 ^ (k - i)) (y / 2 ^ k) (y % 2 ^ k / 2 ^ (k - i)) (low x) (low y))

  pub halves : shared (j + k) x y ≡ cond (eqb (x / 2 ^ k) (y / 2 ^ k)) (j + shared k (x % 2 ^ k) (y % 2 ^ k)) (shared j (x / 2 ^ k) (y / 2 ^ k))
  unfolding shared
  halves = passing_add (λ i. shares (j + k) i x y) j k ∙ go (eqb (x / 2 ^ k) (y / 2 ^ k)) refl
    where
      go : (b : Bool) → eqb (x / 2 ^ k) (y / 2 ^ k) ≡ b
          → passing (λ i. shares (j + k) i x y) j + passing (λ i. shares (j + k) (j + i) x y) k
          ≡ cond b (j + passing (λ i. shares k i (x % 2 ^ k) (y % 2 ^ k)) k) (passing (λ i. shares j i (x / 2 ^ k) (y / 2 ^ k)) j)
      go true h =
          ap₂ (λ (m n : ℕ). m + n)
          (passing_all (λ i. shares (j + k) i x y) j (λ i l m. high_shares i m ∙ same_shares j i (x / 2 ^ k) (y / 2 ^ k) (eqb-true (x / 2 ^ k) (y / 2 ^ k) h)))
          (passing_same (λ i. shares (j + k) (j + i) x y) (λ i. shares k i (x % 2 ^ k) (y % 2 ^ k)) k (λ i l m. low_shares i m ∙ rw h))
      go false h =
          ap₂ (λ (m n : ℕ). m + n)
          (passing_same (λ i. shares (j + k) i x y) (λ i. shares j i (x / 2 ^ k) (y / 2 ^ k)) j (λ i l m. high_shares i m))
          (passing_none (λ i. shares (j + k) (j + i) x y) k (λ i l m. low_shares i m ∙ rw h))
          ∙ add-zero (passing (λ i. shares j i (x / 2 ^ k) (y / 2 ^ k)) j)

-- ---- leading zeros

-- two numbers share what is zero in front of their difference
pub differ_zero : (a b : ℕ) → eqb a b ≡ eqb (bit_xor a b) 0
differ_zero a b = go (eqb a b) refl
  where
    go : (t : Bool) → eqb a b ≡ t → t ≡ eqb (bit_xor a b) 0
    go true e = let f = eqb-true a b e in rw (f, xor_self b)
    go false e =
        sym
        (ne_eqb (bit_xor a b) 0
        (λ z.
        let h = xor_add_and a b in
        let k = and_le_l a b in
        let l = and_le_r a b in
        eqb-false a b e (omega arith)))

pub shared_xor : (n x y : ℕ) → shared n x y ≡ shared n (bit_xor x y) 0
unfolding shared shares
shared_xor n x y =
    passing_same (λ i. eqb (x / 2 ^ (n - i)) (y / 2 ^ (n - i))) (λ i. eqb (bit_xor x y / 2 ^ (n - i)) (0 / 2 ^ (n - i))) n
    (λ i k l. rw (xor_shr, zero-div) (differ_zero (x / 2 ^ (n - i)) (y / 2 ^ (n - i))))

-- nothing but zeros; one bit
pub shared_all : (n : ℕ) → shared n 0 0 ≡ n
unfolding shared
shared_all n = passing_all (λ i. shares n i 0 0) n (λ i k l. same_shares n i 0 0 refl)

shared_bit : (x y : ℕ) → shared 1 x y ≡ cond (eqb x y) 1 0
unfolding shared passing_below shares
shared_bit x y = rw (div-one, div-one, zero-add)

-- the lowest bit of what is not 0 may go: it is no leading zero
pub zeros_step : (n x : ℕ) → 1 ≤ x → shared (n + 1) x 0 ≡ shared n (x / 2) 0
zeros_step n x h = halves n 1 x 0 ∙ rw zero-div (go (eqb (x / 2) 0) refl)
  where
    go : (b : Bool) → eqb (x / 2) 0 ≡ b → cond b (n + shared 1 (x % 2) (0 % 2)) (shared n (x / 2) 0) ≡ shared n (x / 2) 0
    go true e =
        let z = eqb-true (x / 2) 0 e in
        let one : x % 2 ≡ 1 = omega arith in
        rw (one, z, shared_bit, shared_all) (add-zero n)
    go false e = refl

-- ---- who shares i bits shares fewer too

fewer : (n i x y : ℕ) → suc i ≤ n → shares n (suc i) x y ≡ true → shares n i x y ≡ true
unfolding shares
fewer n i x y h s =
    let k = n - suc i in
    let e : n - i ≡ k + 1 = omega arith in
    let f = eqb-true (x / 2 ^ k) (y / 2 ^ k) s in
    rw (e, ← shr-shr x k 1, ← shr-shr y k 1, f) (eq-eqb (y / 2 ^ k / 2 ^ 1) (y / 2 ^ k / 2 ^ 1) refl)

module _ (f : ℕ → Bool) where
  -- f at m gives f at every number from 1 to m
  below : (m : ℕ) → ((i : ℕ) → suc i ≤ m → f (suc i) ≡ true → f i ≡ true) → f m ≡ true → (i : ℕ) → 1 ≤ i → i ≤ m → f i ≡ true
  below zero h t i k l = absurd (let z : 1 ≤ 0 = omega arith in not-suc-le-zero z)
  below (suc m) h t i k l =
      ⊎_elim (λ e. rw e t) (λ (e : i < suc m). below m (λ q r. h q (omega arith)) (h m (le_refl (suc m)) t) i k (omega arith)) (eq-or-lt_of_le l)

  -- where a pass at a number is a pass at every smaller one, the passes are exactly the first
  pub passing_first : (n : ℕ) → ((i : ℕ) → suc i ≤ n → f (suc i) ≡ true → f i ≡ true) → (i : ℕ) → 1 ≤ i → i ≤ n → f i ≡ leb i (passing f n)
  unfolding passing_below
  passing_first zero h i k l = absurd (let z : 1 ≤ 0 = omega arith in not-suc-le-zero z)
  passing_first (suc n) h i k l = go (f (suc n)) refl (passing_first n (λ q r. h q (omega arith)) i k)
    where
      go : (b : Bool) → f (suc n) ≡ b → (i ≤ n → f i ≡ leb i (passing f n)) → f i ≡ leb i (passing f n + cond (f (suc n)) 1 0)
      go true t r =
          let all = below (suc n) h t in
          let whole : passing f n ≡ n = passing_all f n (λ q a b. all q a (omega arith)) in
          rw (t, all i k l, whole) (sym (le-leb i (n + 1) (omega arith)))
      go false t r =
          rw (t, add-zero)
          (⊎_elim (λ (e : i ≡ suc n). rw (e, t) (sym (lt-leb (suc n) (passing f n) (omega (arith, passing_le f n))))) (λ (e : i < suc n). r (omega arith)) (eq-or-lt_of_le l))

pub shares_shared : (n i x y : ℕ) → 1 ≤ i → i ≤ n → shares n i x y ≡ leb i (shared n x y)
unfolding shared
shares_shared n i x y h l = passing_first (λ j. shares n j x y) n (λ j k. fewer n j x y k) i h l

pub shared_le : (n x y : ℕ) → shared n x y ≤ n
unfolding shared
shared_le n x y = passing_le (λ i. shares n i x y) n
