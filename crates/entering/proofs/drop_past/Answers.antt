-- `entering::drop_past` meets its contract: those in force are packed, and what is left behind them is cleared.
use native.Mathlib.Omega.{arith}
use native.Mathlib.Nat.{mul-le-mul_left}
use mathlib.Core.Path.{sym, ◌∙◌}
use Prim.Native.Nat.{◌*◌, ◌≤◌}
use lib.ListN.{length}
use Rattle.record.specs.Layout.{bound_size}
use Rattle.cache.specs.Chunks.{chunks}
use Rattle.cache.proofs.Chunks.{keep_le, length_chunks}
use Rattle.entering.specs.Entering.{in_force}
use Rattle.entering.specs.Packing.{stay}
use Rattle.entering.proofs.Packing.{cleared, dropped_none}
use Rattle.entering.proofs.drop_past.Goals as goal
use Rattle.entering.proofs.drop_past.Goals.{After-pack-size}

pub returns-then-force-used : goal.returns-then-force-used
returns-then-force-used c =
    let a = c.args in
    dropped_none a.address a.clock a.used a.bounds.now c.requires.1 (sym c.requires.2 ∙ c.if-force-used.true)

-- those in force take no more than all
few : (c : goal.After-pack-size) → let a = c.args in c.pack-size.result ≤ bound_size a.address * a.used
few c =
    let a = c.args in
    let l = keep_le (in_force a.address a.clock) (chunks (bound_size a.address) a.used a.bounds.now) in
    let n = length_chunks (bound_size a.address) a.used a.bounds.now in
    let m : length (stay a.address a.clock a.used a.bounds.now) ≤ a.used = omega arith in
    omega (arith, mul-le-mul_left (bound_size a.address) m, c.pack-size.ensures.length_is)

pub returns : goal.returns
returns c =
    let a = c.args in
    rw c.clear.ensures
    (cleared a.address a.clock a.used a.bounds.now c.requires.1 c.pack-size.result c.pack-size.new.bounds c.pack-size.ensures c.pack-size.auto.bounds)

pub slice_bounds-clear-count : goal.slice_bounds-clear-count
slice_bounds-clear-count c = let f = few (goal.at.slice_bounds-clear-count c).After-pack-size in omega arith

pub slice_bounds-clear-start : goal.slice_bounds-clear-start
slice_bounds-clear-start c = let f = few (goal.at.slice_bounds-clear-start c).After-pack-size in omega arith

pub slice_bounds-clear-end : goal.slice_bounds-clear-end
slice_bounds-clear-end c = let k = c.pack-size.auto.bounds in let p = c.requires in omega (arith, p.1)
