-- `cache::shape_for` meets its contract.
use Rattle.std.proofs.Common.{sym, ap}
use Rattle.cache.specs.Cache.{shape_for}
use Rattle.cache.proofs.shape_for.Goals as goal

pub returns-in-V4 : goal.returns-in-V4
unfolding shape_for
returns-in-V4 c = ap shape_for (sym c.in-V4.is)

pub returns-in-V6 : goal.returns-in-V6
unfolding shape_for
returns-in-V6 c = ap shape_for (sym c.in-V6.is)
