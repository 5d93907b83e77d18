-- `round::turn` meets its contract: the round, and the words a word on.
use Rattle.round.specs.Turn.{turned}
use Rattle.round.proofs.turn.Goals as goal

pub returns : goal.returns
unfolding turned
returns c = cc
