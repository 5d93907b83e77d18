-- What is known of a record that is in order (specs/Records.antt): its numbers lie where the recipe and the wait in doubles want them, and the bits of both waits are those of numbers below
-- 2^63. And the one test by which the code tells that a double is finite and has no sign.
use mathlib.Core.Path.{◌≡◌, refl}
use mathlib.Core.Bool.{Bool, true, false, not, cond}
use Prim.Native.Nat.{ℕ, zero, suc, ◌+◌, ◌%◌, ◌/◌, ◌^◌, ◌<◌}
use native.Mathlib.Omega.{arith}
use lib.Dec.{T, eqb, leb, ltb}
use lib.Ieee.{Float, nan, inf, fin, binary64, hid, odd, of_fields, of_bits, is_nan}
use lib.Ieee.Positive.{positive}
use lib.Ieee.Scale.{finite}
use borrow.Author.Tests.{eq-eqb, ne_eqb, leb-true, ltb-true, ltb-false}
use Rattle.octets.specs.Runs.{both}
use Rattle.octets.proofs.Runs.{both_true}
use Rattle.settings.specs.Settings.{max_capacity}
use Rattle.wait.specs.Wait.{InRange}
use Rattle.double_wait.specs.Doubles.{InOrder}
use Rattle.double_wait.proofs.Laws.{wait_proper}
use Rattle.comparison.specs.declared.Simulated.{Simulated}
use Rattle.comparison.specs.Records.{levels, plain, is_in_order, ours}

-- ---- a double that is finite and has no sign

odd_finite : (d : ℕ) (s : Bool) (q k l : ℕ) → finite (odd d s q k l) ≡ true
unfolding odd
odd_finite d s zero k l = refl
odd_finite d s (suc q) k l = refl

-- the field of the exponent tells
field_finite : (s : Bool) (x t : ℕ) → finite (of_fields binary64 s x t) ≡ not (eqb x 2047)
unfolding of_fields
field_finite s zero t = odd_finite 53 s t 0 1074
field_finite s (suc x) t = by (eqb (suc x) 2047) (eqb t 0) _ (odd_finite 53 s (hid binary64 + t) x 1074)
  where
    by : (a b : Bool) (z : Float) → finite z ≡ true → finite (cond a (cond b (inf s) nan) z) ≡ not a
    by true true z e = refl
    by true false z e = refl
    by false b z e = e

bits_finite : (w : ℕ) → finite (of_bits binary64 w) ≡ not (eqb (w % 2 ^ 63 / 2 ^ 52) 2047)
unfolding of_bits
bits_finite w = field_finite (leb (2 ^ 63) w) (w % 2 ^ 63 / 2 ^ 52) (w % 2 ^ 52)

abbrev pub infinity : ℕ
infinity = 0x7ff0_0000_0000_0000

pub plain_is : (w : ℕ) → plain w ≡ ltb w infinity
unfolding plain
plain_is w = by (ltb w infinity) (ltb w (2 ^ 63)) refl refl
  where
    by : (t u : Bool) → ltb w infinity ≡ t → ltb w (2 ^ 63) ≡ u → both u (finite (of_bits binary64 w)) ≡ t
    by true true e f = let l = ltb-true w infinity e in rw (bits_finite w, ne_eqb (w % 2 ^ 63 / 2 ^ 52) 2047 (λ z. omega arith))
    by false true e f = let l = ltb-false w infinity e in let m = ltb-true w (2 ^ 63) f in rw (bits_finite w, eq-eqb (w % 2 ^ 63 / 2 ^ 52) 2047 (omega arith))
    by true false e f = let l = ltb-true w infinity e in let m = ltb-false w (2 ^ 63) f in absurd (omega arith)
    by false false e f = refl

-- ---- a record that is in order

module _ (r : Simulated) (e : is_in_order r ≡ true) where
  pub numbers : InOrder r.capacity r.occupancy r.serving r.similarity
  unfolding is_in_order
  numbers =
      let a = both_true (both (leb 1 r.capacity) (leb r.capacity max_capacity)) _ e in
      let b = both_true (leb 1 r.capacity) _ a.0 in
      let d = both_true (ltb r.occupancy r.capacity) _ a.1 in
      let f = both_true (leb r.serving r.occupancy) _ d.1 in
      let g = both_true (leb r.similarity levels) _ f.1 in
      record {
        some_capacity = leb-true 1 r.capacity b.0;
        few_capacity = leb-true r.capacity max_capacity b.1;
        free = ltb-true r.occupancy r.capacity d.0;
        serving = leb-true r.serving r.occupancy f.0;
        similar = leb-true r.similarity levels g.0;
      }

  pub recipe_range : InRange levels r.capacity r.occupancy r.serving r.similarity
  recipe_range =
      let i = numbers in
      record {
        some_bits = omega arith;
        few_bits = omega arith;
        some_capacity = i.some_capacity;
        few_capacity = i.few_capacity;
        occupied = omega (arith, i.free);
        serving = omega (arith, i.serving, i.free);
        similar = i.similar;
      }

-- the bits of ours and of theirs are those of numbers below 2^63, and can be subtracted either way in 64 bits with a sign
pub record Subtracts (r : Simulated) : Type 0 where
  pub ours_below : ours r < 2 ^ 63
  pub theirs_below : r.bits < 2 ^ 63

pub bits_subtract : (r : Simulated) → is_in_order r ≡ true → Subtracts r
unfolding ours is_in_order plain
bits_subtract r e =
    let a = both_true (both (leb 1 r.capacity) (leb r.capacity max_capacity)) _ e in
    let d = both_true (ltb r.occupancy r.capacity) _ a.1 in
    let f = both_true (leb r.serving r.occupancy) _ d.1 in
    let g = both_true (leb r.similarity levels) _ f.1 in
    let h = both_true (ltb r.bits (2 ^ 63)) _ g.1 in
    record { ours_below = (wait_proper r.capacity r.occupancy r.serving r.similarity (numbers r e)).unsigned; theirs_below = ltb-true r.bits (2 ^ 63) h.0 }

pub number_is_told : (x : Float) → T (positive x) → T (not (is_nan x))
unfolding is_nan
number_is_told nan p = absurd p
number_is_told (inf s) p = absurd p
number_is_told (fin s m e) p = tt
