-- `round::step` meets its contract: each callee's equation in turn.
use Rattle.round.specs.Turn.{stepped}
use Rattle.round.proofs.step.Goals as goal

pub returns : goal.returns
unfolding stepped
returns c = cc
