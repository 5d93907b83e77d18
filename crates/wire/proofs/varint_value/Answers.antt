use Rattle.std.proofs.lemmas.Grind.{common_steps}
use native.Mathlib.Omega.{arith}
use Rattle.wire.proofs.Varints.{value_start, value_more}
use Rattle.wire.proofs.varint_value.Goals as goal

pub loop-b-init : goal.loop-b-init
loop-b-init c = value_start _ _ (grind (arith, common_steps)) (grind (arith, common_steps))

pub loop-b-preserved : goal.loop-b-preserved
loop-b-preserved c = value_more _ _ _ _ _ c.in-Some.ensures.steps c.loop-b.invariant
