-- For c < C the wait is the smaller of the cap and the unstopped wait, which is not below the exact wait and less than the exact wait + 1 + 11·f/8192.
-- Every bound of Laws.antt follows from these by order alone.
use Prim.Native.Nat.{ℕ, ◌+◌, ◌-◌, ◌*◌, ◌^◌, ◌≤◌, ◌<◌, min}
use mathlib.Core.Path.{◌≡◌, ◌∙◌}
use native.Mathlib.Nat.{le_of_lt, mul-le-mul_right, mul-lt-mul_of_pos_right, lt_of_mul-lt-mul_right, one-le-mul, one-le-pow}
use native.Mathlib.Omega.{arith}
use Rattle.settings.specs.Settings.{lifetime}
use Rattle.wait.specs.Wait.{ticks_per_milli, exponent, factors, cap, share, under, start_of, working, millis_of, wait_of}
use Rattle.wait.specs.Exact.{roundings, exact_top, exact_under, past_top, past_under, stayed_exact, below_past}
use Rattle.wait.proofs.Ceil.{ceil_not_below, ceil_within_one}
use Rattle.wait.proofs.Growth.{working_not_below, working_not_past}
use Rattle.wait.proofs.Held.{wait_held}

-- the three roundings together, over plain numbers: S / N the share, F / D the factor f, g the start, w the working and u the wait
not_below : (S N F D g w u : ℕ) → lifetime * ticks_per_milli * S ≤ g * N → g * F ≤ w * D → w ≤ u * ticks_per_milli →
    lifetime * F * S ≤ u * (D * N)
not_below S N F D g w u start grown millis =
    omega (arith, mul-le-mul_right F start, mul-le-mul_right N grown, mul-le-mul_right (D * N) millis)

below : (S N F D g w u : ℕ) → 1 ≤ D * N →
    g * N < lifetime * ticks_per_milli * S + N → w * D ≤ (g + factors) * F → u * ticks_per_milli < w + ticks_per_milli →
    u * (ticks_per_milli * (D * N)) < ticks_per_milli * (lifetime * F * S) + ticks_per_milli * (D * N) + roundings * F * N
below S N F D g w u pos start grown millis =
    omega (arith, mul-le-mul_right F (le_of_lt start), mul-le-mul_right N grown, mul-lt-mul_of_pos_right millis pos)

-- the wait, in milliseconds, had the working no stop
pub unstopped : ℕ → ℕ → ℕ → ℕ → ℕ → ℕ
unstopped n C c s p = millis_of (working C (C - c) (start_of n C s p) factors)

pub exact_top_pos : (n C s p : ℕ) → 1 ≤ n → 1 ≤ C → 1 ≤ exact_top n C s p
unfolding exact_top share
exact_top_pos n C s p bits some =
    one-le-mul (one-le-mul (omega arith) (one-le-pow exponent C some)) (omega (arith, one-le-mul some bits))

module _ (n C c s p : ℕ) (bits : 1 ≤ n) (free : c < C) where
  pub wait_min : wait_of n C c s p ≡ min cap (unstopped n C c s p)
  unfolding unstopped
  wait_min = wait_held n C c s p free ∙ omega arith

  under_pos : 1 ≤ under n C
  unfolding under
  under_pos = one-le-mul (one-le-mul (omega arith) bits) (omega arith)

  pub exact_under_pos : 1 ≤ exact_under n C c
  unfolding exact_under
  exact_under_pos = one-le-mul (one-le-pow exponent (C - c) (omega arith)) under_pos

  pub unstopped_not_below : stayed_exact n C c s p (unstopped n C c s p)
  unfolding stayed_exact exact_top exact_under start_of unstopped
  unstopped_not_below =
      not_below (share n C s p) (under n C) (C ^ exponent) ((C - c) ^ exponent) (start_of n C s p) (working C (C - c) (start_of n C s p) factors) _
      (ceil_not_below (lifetime * ticks_per_milli * share n C s p) under_pos)
      (working_not_below C (C - c) (start_of n C s p) (omega arith) (omega arith) factors)
      (ceil_not_below (working C (C - c) (start_of n C s p) factors) {b = ticks_per_milli} (omega arith))

  pub unstopped_pos : 1 ≤ unstopped n C c s p
  unfolding stayed_exact
  unstopped_pos =
      let some : 1 ≤ C = omega arith in
      lt_of_mul-lt-mul_right (exact_under n C c) (omega (arith, exact_top_pos n C s p bits some, unstopped_not_below))

  pub unstopped_below : below_past n C c s p (unstopped n C c s p)
  unfolding below_past past_top past_under exact_top exact_under start_of unstopped
  unstopped_below =
      below (share n C s p) (under n C) (C ^ exponent) ((C - c) ^ exponent) (start_of n C s p) (working C (C - c) (start_of n C s p) factors) _
      exact_under_pos
      (ceil_within_one (lifetime * ticks_per_milli * share n C s p) under_pos)
      (working_not_past C (C - c) (start_of n C s p) (omega arith) (omega arith) factors)
      (ceil_within_one (working C (C - c) (start_of n C s p) factors) {b = ticks_per_milli} (omega arith))
