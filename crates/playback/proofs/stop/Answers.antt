-- `playback::stop` meets its contract.
use mathlib.Core.Path.{refl}
use Rattle.playback.proofs.stop.Goals as goal

pub returns : goal.returns
returns c = refl
