-- `bounded::register_bounded_within` meets its contract: the shape is sound.
use Rattle.cache.proofs.Shapes.{shape_sound}
use Rattle.cache.proofs.Small.{limited_sound}
use Rattle.bounded.proofs.register_bounded_within.Goals as goal

pub returns : goal.returns
returns c =
    rw (c.limited.ensures, c.shape_of.ensures) at c.register_bounded_in.ensures

pub register_bounded_in-requires : goal.register_bounded_in-requires
register_bounded_in-requires c =
    rw (c.limited.ensures, c.shape_of.ensures) (limited_sound _ _ c.requires (shape_sound _))
