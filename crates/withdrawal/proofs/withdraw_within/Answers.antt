-- `withdrawal::withdraw_within` meets its contract: the shape is sound.
use Rattle.cache.proofs.Shapes.{shape_sound}
use Rattle.cache.proofs.Small.{limited_sound}
use Rattle.withdrawal.proofs.withdraw_within.Goals as goal

pub returns : goal.returns
returns c =
    rw (c.limited.ensures, c.shape_of.ensures) at c.withdraw_as.ensures

pub withdraw_as-requires : goal.withdraw_as-requires
withdraw_as-requires c =
    rw (c.limited.ensures, c.shape_of.ensures) (limited_sound _ _ c.requires (shape_sound _))
