-- `octets::clear` meets its contract: after i turns the first i bytes are 0.
use mathlib.Core.Path.{◌≡◌}
use mathlib.Core.List.{◌++◌}
use Prim.Native.Nat.{◌≤◌}
use lib.ListN.{length, drop, replicate}
use Rattle.octets.proofs.clear.Given as goal

abbrev pub invariant-loop-x : goal.invariant-loop-x
invariant-loop-x l = (l.x-index ≤ length l.initial.s) × (l.s ≡ replicate l.x-index 0 ++ drop l.x-index l.initial.s)
