-- The choice and the majority of three words in fewer operations: two numbers that are made of three words digit by digit are the same if they are
-- on each of the eight triples of digits.
use mathlib.Core.Path.{◌≡◌, refl, sym, ap, ◌∙◌}
use Prim.Native.Nat.{ℕ, zero, suc, ◌-◌, ◌/◌, ◌%◌, ◌^◌, ◌<◌}
use native.Mathlib.Nat.{pow-suc, mod-eq_of_lt}
use native.Mathlib.Omega.{arith}
use lib.Bits.{bit_and, bit_xor, and_shr, xor_shr, and_mod, xor_mod, and_mask, and_comm, xor_add_and}
use Rattle.round.specs.Words.{ch, maj, complement}

halved : (a b : ℕ) → a / 2 ≡ b / 2 → a % 2 ≡ b % 2 → a ≡ b
halved a b p q = omega arith

-- a number that is made of three, digit by digit
record Digitwise (f : ℕ → ℕ → ℕ → ℕ) : Type 0 where
  half : (x y z : ℕ) → f x y z / 2 ≡ f (x / 2) (y / 2) (z / 2)
  last : (x y z : ℕ) → f x y z % 2 ≡ f (x % 2) (y % 2) (z % 2)

-- two of them agree on digits
abbrev Agree : (f g : ℕ → ℕ → ℕ → ℕ) → Type 0
Agree f g = (x y z : ℕ) → x < 2 → y < 2 → z < 2 → f x y z ≡ g x y z

agree : (f g : ℕ → ℕ → ℕ → ℕ) → f 0 0 0 ≡ g 0 0 0 → f 0 0 1 ≡ g 0 0 1 → f 0 1 0 ≡ g 0 1 0 → f 0 1 1 ≡ g 0 1 1
    → f 1 0 0 ≡ g 1 0 0 → f 1 0 1 ≡ g 1 0 1 → f 1 1 0 ≡ g 1 1 0 → f 1 1 1 ≡ g 1 1 1 → Agree f g
agree f g a b c d e i j k zero zero zero p q r = a
agree f g a b c d e i j k zero zero (suc zero) p q r = b
agree f g a b c d e i j k zero (suc zero) zero p q r = c
agree f g a b c d e i j k zero (suc zero) (suc zero) p q r = d
agree f g a b c d e i j k (suc zero) zero zero p q r = e
agree f g a b c d e i j k (suc zero) zero (suc zero) p q r = i
agree f g a b c d e i j k (suc zero) (suc zero) zero p q r = j
agree f g a b c d e i j k (suc zero) (suc zero) (suc zero) p q r = k
agree f g a b c d e i j k (suc (suc x)) y z p q r = omega arith
agree f g a b c d e i j k zero (suc (suc y)) z p q r = omega arith
agree f g a b c d e i j k (suc zero) (suc (suc y)) z p q r = omega arith
agree f g a b c d e i j k zero zero (suc (suc z)) p q r = omega arith
agree f g a b c d e i j k zero (suc zero) (suc (suc z)) p q r = omega arith
agree f g a b c d e i j k (suc zero) zero (suc (suc z)) p q r = omega arith
agree f g a b c d e i j k (suc zero) (suc zero) (suc (suc z)) p q r = omega arith

by_digits : (f g : ℕ → ℕ → ℕ → ℕ) → Digitwise f → Digitwise g → Agree f g → (k x y z : ℕ) → x < 2 ^ k → y < 2 ^ k → z < 2 ^ k → f x y z ≡ g x y z
by_digits f g m n h zero x y z p q r = h x y z (omega arith) (omega arith) (omega arith)
by_digits f g m n h (suc k) x y z p q r =
    let double = pow-suc 2 k in
    halved (f x y z) (g x y z)
    (m.half x y z ∙ by_digits f g m n h k (x / 2) (y / 2) (z / 2) (omega arith) (omega arith) (omega arith) ∙ sym (n.half x y z))
    (m.last x y z ∙ h (x % 2) (y % 2) (z % 2) (omega arith) (omega arith) (omega arith) ∙ sym (n.last x y z))

same : (f g : ℕ → ℕ → ℕ → ℕ) → Digitwise f → Digitwise g → f 0 0 0 ≡ g 0 0 0 → f 0 0 1 ≡ g 0 0 1 → f 0 1 0 ≡ g 0 1 0 → f 0 1 1 ≡ g 0 1 1
    → f 1 0 0 ≡ g 1 0 0 → f 1 0 1 ≡ g 1 0 1 → f 1 1 0 ≡ g 1 1 0 → f 1 1 1 ≡ g 1 1 1
    → (x y z : ℕ) → x < 2 ^ 32 → y < 2 ^ 32 → z < 2 ^ 32 → f x y z ≡ g x y z
same f g m n a b c d e i j k = by_digits f g m n (agree f g a b c d e i j k) 32

-- what is made by exclusive-or and conjunction goes digit by digit
module _ (xor and : ℕ → ℕ → ℕ) (xor_half : (a b : ℕ) → xor a b / 2 ≡ xor (a / 2) (b / 2)) (xor_last : (a b : ℕ) → xor a b % 2 ≡ xor (a % 2) (b % 2))
    (and_half : (a b : ℕ) → and a b / 2 ≡ and (a / 2) (b / 2)) (and_last : (a b : ℕ) → and a b % 2 ≡ and (a % 2) (b % 2)) where
  maj_short : Digitwise (λ x y z. xor (and (xor x y) (xor y z)) y)
  maj_short = record { half = λ x y z. simp (xor_half, and_half); last = λ x y z. simp (xor_last, and_last) }

  maj_long : Digitwise (λ x y z. xor (xor (and x y) (and x z)) (and y z))
  maj_long = record { half = λ x y z. simp (xor_half, and_half); last = λ x y z. simp (xor_last, and_last) }

  ch_short : Digitwise (λ x y z. xor z (and x (xor y z)))
  ch_short = record { half = λ x y z. simp (xor_half, and_half); last = λ x y z. simp (xor_last, and_last) }

  ch_long : Digitwise (λ x y z. xor (and x y) (xor (and x z) z))
  ch_long = record { half = λ x y z. simp (xor_half, and_half); last = λ x y z. simp (xor_last, and_last) }

  joined : Digitwise (λ x y z. and (xor x y) z)
  joined = record { half = λ x y z. simp (xor_half, and_half); last = λ x y z. simp (xor_last, and_last) }

  apart : Digitwise (λ x y z. xor (and x z) (and y z))
  apart = record { half = λ x y z. simp (xor_half, and_half); last = λ x y z. simp (xor_last, and_last) }

xor_half : (a b : ℕ) → bit_xor a b / 2 ≡ bit_xor (a / 2) (b / 2)
xor_half a b = xor_shr a b 1

xor_last : (a b : ℕ) → bit_xor a b % 2 ≡ bit_xor (a % 2) (b % 2)
xor_last a b = xor_mod a b 1

and_half : (a b : ℕ) → bit_and a b / 2 ≡ bit_and (a / 2) (b / 2)
and_half a b = and_shr a b 1

and_last : (a b : ℕ) → bit_and a b % 2 ≡ bit_and (a % 2) (b % 2)
and_last a b = and_mod a b 1

pub maj_same : (x y z : ℕ) → x < 2 ^ 32 → y < 2 ^ 32 → z < 2 ^ 32 → bit_xor (bit_and (bit_xor x y) (bit_xor y z)) y ≡ maj x y z
maj_same =
    same (λ x y z. bit_xor (bit_and (bit_xor x y) (bit_xor y z)) y) (λ x y z. bit_xor (bit_xor (bit_and x y) (bit_and x z)) (bit_and y z))
    (maj_short bit_xor bit_and xor_half xor_last and_half and_last) (maj_long bit_xor bit_and xor_half xor_last and_half and_last)
    refl refl refl refl refl refl refl refl

-- the complement is exclusive-or with ones
complement_xor : (x : ℕ) → x < 2 ^ 32 → complement x ≡ bit_xor x (2 ^ 32 - 1)
complement_xor x h =
    let all : bit_and x (2 ^ 32 - 1) ≡ x = and_mask x 32 ∙ mod-eq_of_lt h in
    omega (arith, xor_add_and x (2 ^ 32 - 1))

-- and distributes over exclusive-or, here with ones
without : (x z : ℕ) → x < 2 ^ 32 → z < 2 ^ 32 → bit_and (complement x) z ≡ bit_xor (bit_and x z) z
without x z p q =
    let ones : bit_and (2 ^ 32 - 1) z ≡ z = and_comm (2 ^ 32 - 1) z ∙ and_mask z 32 ∙ mod-eq_of_lt q in
    ap (λ (n : ℕ). bit_and n z) (complement_xor x p)
    ∙ same (λ x y z. bit_and (bit_xor x y) z) (λ x y z. bit_xor (bit_and x z) (bit_and y z))
    (joined bit_xor bit_and xor_half xor_last and_half and_last) (apart bit_xor bit_and xor_half xor_last and_half and_last)
    refl refl refl refl refl refl refl refl x (2 ^ 32 - 1) z p (omega arith) q
    ∙ ap (λ (n : ℕ). bit_xor (bit_and x z) n) ones

pub ch_same : (x y z : ℕ) → x < 2 ^ 32 → y < 2 ^ 32 → z < 2 ^ 32 → bit_xor z (bit_and x (bit_xor y z)) ≡ ch x y z
ch_same x y z p q r =
    same (λ x y z. bit_xor z (bit_and x (bit_xor y z))) (λ x y z. bit_xor (bit_and x y) (bit_xor (bit_and x z) z))
    (ch_short bit_xor bit_and xor_half xor_last and_half and_last) (ch_long bit_xor bit_and xor_half xor_last and_half and_last)
    refl refl refl refl refl refl refl refl x y z p q r
    ∙ ap (λ (n : ℕ). bit_xor (bit_and x y) n) (sym (without x z p r))
