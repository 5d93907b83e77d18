-- `round::t2` meets its contract: each callee's equation in turn.
use Rattle.round.specs.Turn.{T₂}
use Rattle.round.proofs.t2.Goals as goal

pub returns : goal.returns
unfolding T₂
returns c = cc
