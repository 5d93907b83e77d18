-- `entering::count_force` meets its contract. The invariant: the count is that for what is left, with those counted.
use Prim.Native.Nat.{◌+◌, ◌-◌, ◌*◌, ◌≤◌}
use mathlib.Core.Path.{◌≡◌}
use lib.ListN.{length, drop}
use Rattle.entering.specs.Packing.{stay}
use Rattle.entering.proofs.count_force.Given as goal

abbrev pub invariant-loop-i : goal.invariant-loop-i
invariant-loop-i l =
    (l.force ≤ l.i) × (length (stay l.address l.clock l.n (drop l.from l.bounds)) ≡ l.force + length (stay l.address l.clock (l.n - l.i) (drop (l.from + l.width * l.i) l.bounds)))
