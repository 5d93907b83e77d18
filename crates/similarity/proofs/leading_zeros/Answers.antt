use mathlib.Core.Path.{◌≡◌, ◌∙◌}
use Prim.Native.Nat.{ℕ, zero, suc, ◌-◌, ◌/◌, ◌^◌, ◌≤◌, ◌<◌}
use native.Mathlib.Omega.{arith}
use native.Mathlib.Numerals.{add-one}
use lib.Pow.{shr_lt}
use Rattle.similarity.specs.Bits.{shared}
use Rattle.similarity.proofs.Bits.{shared_all, zeros_step}
use Rattle.similarity.proofs.leading_zeros.Goals as goal
use Rattle.similarity.proofs.leading_zeros.Goals.{In-loop-tail}

pub loop-tail-init : goal.loop-tail-init
loop-tail-init c = (omega arith, (omega arith, omega arith))

-- a bit is left, and one fewer behind the shift
shifted : (zeros tail : ℕ) → tail < 2 ^ zeros → 0 < tail → (1 ≤ zeros) × ((tail / 2 < 2 ^ (zeros - 1)) × (shared zeros tail 0 ≡ shared (zeros - 1) (tail / 2) 0))
shifted zero tail h p = absurd (omega arith)
shifted (suc k) tail h p =
    let m : suc k - 1 ≡ k = omega arith in
    (omega arith, (rw m (shr_lt k 1 (rw add-one h)), rw (m, ← add-one k) (zeros_step k tail p)))

turn : (c : goal.In-loop-tail) → let l = c.loop-tail in
    (1 ≤ l.zeros) × ((l.tail / 2 < 2 ^ (l.zeros - 1)) × (shared l.zeros l.tail 0 ≡ shared (l.zeros - 1) (l.tail / 2) 0))
turn c = let l = c.loop-tail in shifted l.zeros l.tail l.invariant.1.0 c.loop-tail-test.true

pub overflow_sub-zeros : goal.overflow_sub-zeros
overflow_sub-zeros c = let t = turn (goal.at.overflow_sub-zeros c).In-loop-tail in omega (arith, t.0)

pub loop-tail-smaller : goal.loop-tail-smaller
loop-tail-smaller c = let t = turn (goal.at.loop-tail-smaller c).In-loop-tail in omega (arith, t.0)

pub loop-tail-preserved : goal.loop-tail-preserved
loop-tail-preserved c = let t = turn (goal.at.loop-tail-preserved c).In-loop-tail in (omega (arith, c.loop-tail.invariant.0), (t.1.0, c.loop-tail.invariant.1.1 ∙ t.1.1))

pub returns : goal.returns
returns c =
    let l = c.loop-tail in
    let none : l.tail ≡ 0 = omega arith in
    rw (l.invariant.1.1, none, shared_all)
