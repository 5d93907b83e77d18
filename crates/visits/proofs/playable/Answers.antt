-- `visits::playable` meets its contract.
use native.Mathlib.Omega.{arith}
use Rattle.visits.proofs.playable.Goals as goal

pub overflow_cast-event : goal.overflow_cast-event
overflow_cast-event c = omega (arith, c.type_inv.event 1)
