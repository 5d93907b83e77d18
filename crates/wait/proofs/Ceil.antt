-- A quotient rounded up: the least whole number that is not below it.
use Prim.Native.Nat.{ℕ, ◌+◌, ◌-◌, ◌*◌, ◌/◌, ◌%◌, ◌≤◌, ◌<◌, min}
use mathlib.Core.Path.{◌≡◌, sym}
use native.Mathlib.Nat.{mul-pos, mul-le-mul_left, mul-lt-mul_of_pos_left, le_of_mul-le-mul_right, lt-div-mul-add, div-mul-le_self, div-eq_of_lt-le}
use native.Mathlib.Omega.{arith}
use Rattle.std.proofs.lemmas.Grind.{div_ceil_times}
use Rattle.wait.specs.Wait.{ceil}

pub ceil_not_below : (a : ℕ) {b : ℕ} → 1 ≤ b → a ≤ ceil a b * b
ceil_not_below a {b} pos = omega (arith, lt-div-mul-add {a = a + (b - 1)} pos)

pub ceil_within_one : (a : ℕ) {b : ℕ} → 1 ≤ b → ceil a b * b < a + b
ceil_within_one a {b} pos = omega (arith, div-mul-le_self (a + (b - 1)) b)

ceil_unique : (a q : ℕ) {b : ℕ} → 1 ≤ b → a ≤ q * b → q * b < a + b → ceil a b ≡ q
ceil_unique a q {b} pos low high = div-eq_of_lt-le b (omega arith) (omega arith)

-- what the library's `div_ceil` gives
pub ceil_is : (a b : ℕ) → 1 ≤ b → a / b + min 1 (a % b) ≡ ceil a b
ceil_is a b pos = let t = div_ceil_times a b pos in sym (ceil_unique a (a / b + min 1 (a % b)) pos t.0 t.1)

-- a common factor of both sides changes nothing
pub ceil_scale : (k a b : ℕ) → 1 ≤ k → 1 ≤ b → ceil (k * a) (k * b) ≡ ceil a b
ceil_scale k a b kpos bpos =
    ceil_unique (k * a) (ceil a b) (mul-pos kpos bpos)
    (omega (arith, mul-le-mul_left k (ceil_not_below a bpos)))
    (omega (arith, mul-lt-mul_of_pos_left (ceil_within_one a bpos) kpos))

-- a factor that is at least 1 lets nothing fall
pub ceil_grows : (w C : ℕ) {d : ℕ} → 1 ≤ d → d ≤ C → w ≤ ceil (w * C) d
ceil_grows w C {d} pos le =
    le_of_mul-le-mul_right {k = d} (omega (arith, mul-le-mul_left w le, ceil_not_below (w * C) pos)) pos
