use native.Mathlib.Omega.{arith}
use Rattle.wire.proofs.Varints.{going_room, going_end}
use Rattle.wire.proofs.write_varint.Goals as goal

pub bounds-out-to : goal.bounds-out-to
bounds-out-to c = going_room c.loop-left.invariant

pub bounds-out-to-2 : goal.bounds-out-to-2
bounds-out-to-2 c = going_room c.loop-left.invariant

pub returns : goal.returns
returns c = going_end c.loop-left.invariant (omega arith)
