-- `wire::write_varint` meets its contract: the bytes done and the varint of what is left are the varint.
use Rattle.wire.proofs.Varints.{Going}
use Rattle.wire.proofs.write_varint.Given as goal

abbrev pub invariant-loop-left : goal.invariant-loop-left
invariant-loop-left l = Going l.x l.at l.initial.out l.left l.to l.out

abbrev pub decreases-loop-left : goal.decreases-loop-left
decreases-loop-left l = l.left
