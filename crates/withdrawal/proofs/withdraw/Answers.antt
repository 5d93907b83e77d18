-- `withdrawal::withdraw` meets its contract: at the largest capacity of all the shape is the family's.
use Rattle.cache.proofs.Small.{limited_full}
use Rattle.withdrawal.proofs.withdraw.Goals as goal

pub returns : goal.returns
returns c = rw (limited_full _) at c.withdraw_within.ensures
