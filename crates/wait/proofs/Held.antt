-- The wait where the cache is not full, without a test of the stop: the working, held to the stop, in milliseconds.
use Prim.Native.Nat.{ℕ, ◌-◌, ◌<◌, min}
use mathlib.Core.Path.{◌≡◌, refl, ap, sym, ◌∙◌}
use mathlib.Core.Bool.{Bool, true, false, cond}
use native.Mathlib.Omega.{arith}
use lib.Dec.{leb}
use borrow.Author.Tests.{leb-true, leb-false, ne_eqb}
use Rattle.wait.specs.Wait.{stop, cap, factors, start_of, working, millis_of, wait_from, wait_of, Worked}
use Rattle.wait.proofs.Growth.{reached_last}

-- the stop is the cap, in ticks: held to the one, a working is a wait held to the other
held_millis : (w : ℕ) → cond (leb stop w) cap (millis_of w) ≡ millis_of (min stop w)
held_millis w = go (leb stop w) refl
  where
    go : (t : Bool) → leb stop w ≡ t → cond t cap (millis_of w) ≡ millis_of (min stop w)
    go true e = omega (arith, leb-true stop w e)
    go false e = omega (arith, leb-false stop w e)

pub wait_held : (n C c s p : ℕ) → c < C → wait_of n C c s p ≡ millis_of (min stop (working C (C - c) (start_of n C s p) factors))
unfolding wait_of wait_from
wait_held n C c s p free =
    rw (ne_eqb c C (λ e. omega arith), reached_last C (C - c) (start_of n C s p) (omega arith) (omega arith) factors)
    (held_millis (working C (C - c) (start_of n C s p) factors))

-- what the code has at its end: the start g, and r, ten factors later
pub wait_grown : (n C c s p g r : ℕ) → c < C → g ≡ start_of n C s p → Worked C (C - c) g factors r → millis_of r ≡ wait_of n C c s p
wait_grown n C c s p g r free start grown =
    ap (λ (t : ℕ). millis_of t) (rw start at grown.held) ∙ sym (wait_held n C c s p free)
