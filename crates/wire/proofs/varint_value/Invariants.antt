-- `wire::varint_value` meets its contract: after each turn, the number of the bytes that were read.
use lib.ListN.{drop}
use Rattle.wire.proofs.Varints.{Valued}
use Rattle.wire.proofs.varint_value.Given as goal

abbrev pub invariant-loop-b : goal.invariant-loop-b
invariant-loop-b l = Valued (drop l.at l.s) l.b-iterator.iter.rest.now l.x
