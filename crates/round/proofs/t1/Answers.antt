-- `round::t1` meets its contract: each callee's equation in turn.
use Rattle.round.specs.Turn.{T₁}
use Rattle.round.proofs.t1.Goals as goal

pub returns : goal.returns
unfolding T₁
returns c = cc
