-- `upkeep::small_open` meets its contract: the shape is sound.
use Rattle.cache.proofs.Small.{small_family_sound}
use Rattle.upkeep.proofs.small_open.Goals as goal

pub open_as-requires : goal.open_as-requires
open_as-requires c = rw (c.small.ensures, c.shape_for.ensures) (small_family_sound _)
