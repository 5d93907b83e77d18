-- `round::table` meets its contract: the table is the standard's.
use mathlib.Core.Path.{refl}
use Rattle.round.specs.Words.{constants}
use Rattle.round.proofs.table.Goals as goal

pub returns : goal.returns
unfolding constants
returns c = refl
