-- `events::start` meets its contract.
use mathlib.Core.Path.{refl}
use Rattle.events.proofs.start.Goals as goal

pub returns : goal.returns
returns c = refl
