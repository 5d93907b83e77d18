-- When two tags are the same: what the comparison gathers byte by byte, and what the answer tells.
use mathlib.Core.Path.{◌≡◌, refl, ap, ◌∙◌}
use mathlib.Core.Bool.{Bool, true, false}
use mathlib.Core.List.{List, [], ◌∷◌}
use Prim.Native.Nat.{ℕ}
use native.Mathlib.Omega.{arith}
use borrow.Author.Tests.{eqb-true, eqb-false, ne_eqb}
use lib.Bits.{bit_or, bit_xor, and_le_l, and_le_r, xor_add_and, xor_self}
use lib.Dec.{eqb}
use Rattle.std.specs.List.{fold, zip}
use lib.ListN.{length}
use Rattle.octets.specs.Runs.{both, same}
use Rattle.octets.proofs.Runs.{both_assoc, both_true, both_one, same_true, same_refl}
use Rattle.octets.proofs.Words.{or_zero}
use Rattle.sha256.specs.Tag.{same_tag}

-- the difference of two bytes is 0 exactly when they are equal
differ_zero : (x y : ℕ) → eqb (bit_xor x y) 0 ≡ eqb x y
differ_zero x y = go (eqb x y) refl
  where
    go : (t : Bool) → eqb x y ≡ t → eqb (bit_xor x y) 0 ≡ t
    go true e = rw (eqb-true x y e, xor_self)
    go false e = ne_eqb (bit_xor x y) 0 λ z. eqb-false x y e (omega (arith, xor_add_and x y, and_le_l x y, and_le_r x y))

-- the differences gathered are 0 exactly when they were and the next bytes are equal
gathered : (d x y : ℕ) → eqb (bit_or d (bit_xor x y)) 0 ≡ both (eqb d 0) (eqb x y)
gathered d x y = or_zero d (bit_xor x y) ∙ ap (both (eqb d 0)) (differ_zero x y)

-- all the differences of two runs of one length, gathered one by one
pub differences : (a b : List ℕ) (d : ℕ) → length a ≡ length b → eqb (fold (λ d p. bit_or d (bit_xor p.0 p.1)) d (zip a b)) 0 ≡ both (eqb d 0) (same a b)
unfolding same
differences [] [] d e = rw both_one
differences [] (y ∷ b) d e = absurd (omega arith)
differences (x ∷ a) [] d e = absurd (omega arith)
differences (x ∷ a) (y ∷ b) d e = rw (differences a b (bit_or d (bit_xor x y)) (omega arith), gathered d x y, both_assoc)

-- the answer is true of equal tags, and of no others
pub same_tag_equal : (a b : List ℕ) → same_tag a b ≡ true → a ≡ b
unfolding same_tag
same_tag_equal a b e =
    same_true a b (both_true (eqb (length b) 32) (same a b) (both_true (eqb (length a) 32) (both (eqb (length b) 32) (same a b)) e).1).1

pub same_tag_refl : (a : List ℕ) → length a ≡ 32 → same_tag a a ≡ true
unfolding same_tag
same_tag_refl a size = rw (size, same_refl)
