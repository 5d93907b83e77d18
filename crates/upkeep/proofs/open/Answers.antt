-- `upkeep::open` meets its contract: the shape is sound.
use Rattle.cache.proofs.Shapes.{family_sound}
use Rattle.upkeep.proofs.open.Goals as goal

pub open_as-requires : goal.open_as-requires
open_as-requires c = rw c.shape_for.ensures (family_sound _)
