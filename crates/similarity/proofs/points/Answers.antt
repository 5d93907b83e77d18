-- `similarity::points` meets its contract: a total is among those that are left, and each level has the record `Points`.
use mathlib.Core.Path.{◌≡◌}
use mathlib.Core.List.{List}
use Prim.Native.Nat.{ℕ, ◌+◌, ◌-◌, ◌<◌}
use native.Mathlib.Omega.{arith}
use lib.ListN.{length, take, drop, get_or}
use Rattle.std.proofs.lemmas.Grind.{common_steps}
use Rattle.similarity.proofs.Levels.{next_total, points_found, points_passed}
use Rattle.similarity.proofs.points.Goals as goal
use Rattle.similarity.proofs.points.Goals.{In-loop-total, then-rest-near, else-rest-near}

-- the totals behind the first
behind : (ts : List ℕ) (i : ℕ) → i < length ts - 1 → get_or (take (length ts - 1) (drop 1 ts)) i 0 ≡ get_or ts (i + 1) 0
behind ts i h = grind (arith, common_steps)

pub overflow_sub-near : goal.overflow_sub-near
overflow_sub-near c = let t = next_total c.args.totals.now 0 (omega arith) in omega arith

pub overflow_sub-near-in-loop-total : goal.overflow_sub-near-in-loop-total
overflow_sub-near-in-loop-total c =
    let totals : List ℕ = c.args.totals.now in
    let l = c.loop-total in
    let t = next_total totals (l.total-index + 1) (omega arith) in
    let own = behind totals l.total-index (omega arith) in
    let n = l.invariant.near_is in
    omega arith

-- a level has enough, by the sum of its own total and those above it, or it has not
pub loop-total-preserved : goal.loop-total-preserved
loop-total-preserved c =
    let totals : List ℕ = c.args.totals.now in
    let live : ℕ = c.args.live in
    let l = c.loop-total in
    rw (behind totals l.total-index (omega arith))
    (elim c.if-rest-near.branch [
      | then-rest-near w ↦ rw w.found-is (points_found totals live l.total-index l.near l.rest l.found (omega arith) l.invariant (omega arith))
      | else-rest-near w ↦ rw w.found-is (points_passed totals live l.total-index l.near l.rest l.found (omega arith) l.invariant (omega arith))
    ])
