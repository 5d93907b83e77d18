-- `upkeep::count_moved` meets its contract: none moves where none is gone, and else all that stay do.
use mathlib.Core.Path.{sym}
use Prim.Native.Nat.{◌+◌}
use native.Mathlib.Omega.{arith}
use Rattle.upkeep.proofs.Moves.{none_moved, all_moved}
use Rattle.upkeep.proofs.count_moved.Goals as goal

pub returns-then-gone-eq0 : goal.returns-then-gone-eq0
returns-then-gone-eq0 c = let a = c.args in rw c.if-gone-eq0.true (sym (none_moved (0 + a.stay)))

pub returns : goal.returns
returns c =
    let a = c.args in
    let h = all_moved a.gone (a.gone + a.stay) c.if-gone-eq0.false in
    omega arith
