-- What document 01 says follows of the wait (section "The wait"), for every address length n ≥ 1, every capacity C ≥ 1 and every c ≤ C. Each holds for all
-- s and p.
use Prim.Native.Nat.{ℕ, ◌+◌, ◌-◌, ◌*◌, ◌^◌, ◌≤◌, ◌<◌}
use mathlib.Core.Path.{◌≡◌}
use mathlib.Core.Logic.{⊎_elim}
use native.Mathlib.Nat.{le_trans, lt_of_lt_of_le, eq-or-lt_of_le, le_of_mul-le-mul_right, lt_of_mul-lt-mul_right, mul-le-mul_right}
use native.Mathlib.Omega.{arith}
use borrow.Author.Tests.{eq-eqb}
use Rattle.settings.specs.Settings.{lifetime}
use Rattle.wait.specs.Wait.{ticks_per_milli, exponent, parts, cap, share, under, wait_of}
use Rattle.wait.specs.Exact.{roundings, exact_top, exact_under, past_top, past_under, stayed_exact, exact_at_least, stayed_past, below_past, stayed_longer}
use Rattle.wait.proofs.Bounds.{unstopped, wait_min, exact_under_pos, unstopped_pos, unstopped_not_below, unstopped_below}

-- a full cache has the cap
pub full_waits_cap : (n C c s p : ℕ) → c ≡ C → wait_of n C c s p ≡ cap
unfolding wait_of
full_waits_cap n C c s p full = rw (eq-eqb c C full)

module _ (n C c s p : ℕ) (bits : 1 ≤ n) (free : c < C) where
  -- where the exact wait is 2^40 or more, the wait is 2^40
  pub long_waits_cap : exact_at_least n C c s p cap → wait_of n C c s p ≡ cap
  unfolding exact_at_least stayed_exact
  long_waits_cap long =
      let scaled : cap * exact_under n C c ≤ unstopped n C c s p * exact_under n C c = le_trans long (unstopped_not_below n C c s p bits free) in
      let past : cap ≤ unstopped n C c s p = le_of_mul-le-mul_right scaled (exact_under_pos n C c s p bits free) in
      omega (arith, wait_min n C c s p bits free)

  -- t is past the unstopped wait once it is past the exact wait + 1 + 11·f/8192
  past_unstopped : (t : ℕ) → stayed_past n C c s p t → unstopped n C c s p < t
  unfolding stayed_past below_past
  past_unstopped t past = lt_of_mul-lt-mul_right (past_under n C c) (lt_of_lt_of_le (unstopped_below n C c s p bits free) past)

  -- where the exact wait + 1 + 11·f/8192 is at most 2^40, the wait is not 2^40 but less
  pub short_waits_less : stayed_past n C c s p cap → wait_of n C c s p < cap
  short_waits_less short = omega (arith, wait_min n C c s p bits free, past_unstopped cap short)

module _ (n C c s p : ℕ) (bits : 1 ≤ n) (some : 1 ≤ C) (taken : c ≤ C) where
  -- a wait is 1 to 2^40
  pub wait_never_zero : 1 ≤ wait_of n C c s p
  wait_never_zero =
      ⊎_elim (λ e. omega (arith, full_waits_cap n C c s p e))
      (λ free. omega (arith, wait_min n C c s p bits free, unstopped_pos n C c s p bits free)) (eq-or-lt_of_le taken)

  pub wait_at_most_cap : wait_of n C c s p ≤ cap
  wait_at_most_cap =
      ⊎_elim (λ e. omega (arith, full_waits_cap n C c s p e)) (λ free. omega (arith, wait_min n C c s p bits free)) (eq-or-lt_of_le taken)

  -- below 2^40 the cache is not full, and the wait is the unstopped one
  not_full : wait_of n C c s p < cap → c < C
  not_full less = ⊎_elim (λ e. omega (arith, full_waits_cap n C c s p e)) (λ free. free) (eq-or-lt_of_le taken)

  is_unstopped : (less : wait_of n C c s p < cap) → unstopped n C c s p ≡ wait_of n C c s p
  is_unstopped less = omega (arith, wait_min n C c s p bits (not_full less))

  -- a wait below 2^40 is not below the exact wait
  pub wait_not_below_exact : wait_of n C c s p < cap → stayed_exact n C c s p (wait_of n C c s p)
  wait_not_below_exact less = rw (is_unstopped less) at (unstopped_not_below n C c s p bits (not_full less))

  -- and is less than the exact wait + 1 + 11·f/8192
  pub wait_below_past : wait_of n C c s p < cap → below_past n C c s p (wait_of n C c s p)
  wait_below_past less = rw (is_unstopped less) at (unstopped_below n C c s p bits (not_full less))

-- ---- the roundings as a part of the wait

-- over plain numbers: S / N the share, F / D the factor f
longer : (S N F D k d t : ℕ) → N ≤ parts * S → 1 ≤ d → roundings * parts * d ≤ ticks_per_milli * lifetime * k
    → (d + k) * (lifetime * F * S) + d * (D * N) ≤ t * (d * (D * N))
    → ticks_per_milli * (lifetime * F * S) + ticks_per_milli * (D * N) + roundings * F * N ≤ t * (ticks_per_milli * (D * N))
longer S N F D k d t least some enough stayed =
    le_of_mul-le-mul_right
    (omega (arith, mul-le-mul_right (F * d) least, mul-le-mul_right (F * S) enough, stayed)) some

-- By G alone the exact wait is at least 0.09·f, so that 11·f/8192 is at most 11/(8192 · 0.09) of it: who has stayed the exact wait, such a part of it and 1 ms is
-- past the exact wait + 1 + 11·f/8192
pub longer_past : (n C c s p k d t : ℕ) → 1 ≤ d → roundings * parts * d ≤ ticks_per_milli * lifetime * k → stayed_longer k d n C c s p t → stayed_past n C c s p t
unfolding stayed_longer stayed_past past_top past_under exact_top exact_under share under
longer_past n C c s p k d t some enough stayed =
    longer (s * (n * parts) + p * (C * parts) + C * n) (C * n * parts) (C ^ exponent) ((C - c) ^ exponent) k d t (omega arith) some enough stayed
