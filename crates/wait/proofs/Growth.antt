-- The working after k factors: it never falls, it lies between the exact growth of its start and that of its start plus k ticks, and held at the stop
-- it grows as it does unheld.
use Prim.Native.Nat.{ℕ, zero, suc, ◌+◌, ◌-◌, ◌*◌, ◌^◌, ◌≤◌, ◌<◌, min}
use mathlib.Core.Path.{◌≡◌, refl, sym, subst, ◌∙◌, ap}
use mathlib.Core.Bool.{Bool, true, false, ◌||◌}
use native.Mathlib.Nat.{pow-zero, pow-suc, pow-le-pow_left, mul-le-mul, mul-le-mul_right, min-eq_right, le_of_lt, le_trans}
use native.Mathlib.Omega.{arith}
use lib.Dec.{leb}
use borrow.Author.Tests.{leb-true, leb-false, le-leb}
use Rattle.settings.specs.Settings.{max_capacity}
use Rattle.wait.specs.Wait.{stop, times_factor, working, reached, Worked}
use Rattle.wait.proofs.Ceil.{ceil_not_below, ceil_within_one, ceil_grows}

-- one factor more, over plain numbers: P = C ^ k and Q = d ^ k
not_below_step : (g C d w v P Q : ℕ) → g * P ≤ w * Q → w * C ≤ v * d → g * (P * C) ≤ v * (Q * d)
not_below_step g C d w v P Q h up = omega (arith, mul-le-mul_right C h, mul-le-mul_right Q up)

not_past_step : (g k C d w v P Q : ℕ) → Q ≤ P → d ≤ C → w * Q ≤ (g + k) * P → v * d < w * C + d → v * (Q * d) ≤ (g + suc k) * (P * C)
not_past_step g k C d w v P Q hp hd h up =
    let up' : v * d ≤ w * C + d = omega arith in
    omega (arith, mul-le-mul_right C h, mul-le-mul_right Q up', mul-le-mul hp hd)

stays_past : (a b : ℕ) → a ≤ b → (leb stop a || leb stop b) ≡ leb stop b
stays_past a b le = go (leb stop a) refl
  where
    go : (t : Bool) → leb stop a ≡ t → (t || leb stop b) ≡ leb stop b
    go true e = sym (le-leb stop b (omega (arith, leb-true stop a e)))
    go false e = refl

-- held to the stop, a working times a capacity fits 64 bits, with space for rounding up
pub held_fits : {C d g k v : ℕ} → d ≤ C → C ≤ max_capacity → Worked C d g k v → v * C + d ≤ 2 ^ 64
held_fits {C} {d} {g} {k} {v} le few last =
    let low : v ≤ stop = omega (arith, last.held) in
    omega (arith, mul-le-mul low few)

module _ (C d g : ℕ) (pos : 1 ≤ d) (le : d ≤ C) where
  pub working_not_below : (k : ℕ) → g * C ^ k ≤ working C d g k * d ^ k
  unfolding working
  working_not_below zero = simp pow-zero (omega arith)
  working_not_below (suc k) =
      simp pow-suc
      (not_below_step g C d (working C d g k) _ (C ^ k) (d ^ k) (working_not_below k) (ceil_not_below (working C d g k * C) pos))

  pub working_not_past : (k : ℕ) → working C d g k * d ^ k ≤ (g + k) * C ^ k
  unfolding working
  working_not_past zero = simp pow-zero (omega arith)
  working_not_past (suc k) =
      simp pow-suc
      (not_past_step g k C d (working C d g k) _ (C ^ k) (d ^ k) (pow-le-pow_left le k) le (working_not_past k)
      (ceil_within_one (working C d g k * C) pos))

  working_grows : (k : ℕ) → working C d g k ≤ working C d g (suc k)
  unfolding working
  working_grows k = ceil_grows (working C d g k) C pos le

  -- the stop was reached at some point exactly where the last working is at or past it
  pub reached_last : (k : ℕ) → reached C d g k ≡ leb stop (working C d g k)
  unfolding reached
  reached_last zero = refl
  reached_last (suc k) = rw (reached_last k) (stays_past _ _ (working_grows k))

  worked : (k r : ℕ) → r ≡ min stop (working C d g k) → Worked C d g k r
  worked k r e = record {
    held = e;
    not_below = λ low. rw (← unheld low) at (working_not_below k);
    not_past = le_trans (mul-le-mul_right (d ^ k) below) (working_not_past k);
  }
    where
      unheld : r < stop → r ≡ working C d g k
      unheld low = omega arith

      below : r ≤ working C d g k
      below = omega arith

  pub worked_start : (k r : ℕ) → k ≡ 0 → r ≡ min stop g → Worked C d g k r
  unfolding working
  worked_start k r none e = rw none (worked zero r e)

  -- held at the stop after each factor, the working comes to the same
  clamp_step : (w : ℕ) → min stop (times_factor C d (min stop w)) ≡ min stop (times_factor C d w)
  clamp_step w = go (leb stop w) refl
    where
      go : (t : Bool) → leb stop w ≡ t → min stop (times_factor C d (min stop w)) ≡ min stop (times_factor C d w)
      go true e =
          let past : stop ≤ min stop w = omega (arith, leb-true stop w e) in
          omega (arith, leb-true stop w e, ceil_grows (min stop w) C pos le, ceil_grows w C pos le)
      go false e = ap (λ (x : ℕ). min stop (times_factor C d x)) (min-eq_right (le_of_lt (leb-false stop w e)))

  pub worked_more : (k v r : ℕ) → 1 ≤ k → Worked C d g (k - 1) v → r ≡ min stop (times_factor C d v) → Worked C d g k r
  unfolding working
  worked_more k v r some last e = subst (λ (j : ℕ). Worked C d g j r) back (worked (suc (k - 1)) r grown)
    where
      back : suc (k - 1) ≡ k
      back = omega arith

      grown : r ≡ min stop (times_factor C d (working C d g (k - 1)))
      grown = e ∙ ap (λ (x : ℕ). min stop (times_factor C d x)) last.held ∙ clamp_step (working C d g (k - 1))
