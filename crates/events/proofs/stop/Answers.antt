-- `events::stop` meets its contract.
use mathlib.Core.Path.{refl}
use Rattle.events.proofs.stop.Goals as goal

pub returns : goal.returns
returns c = refl
