-- `listing::get_ads` meets its contract: at the largest capacity of all the shape is the family's, and no stamp is below 0.
use Rattle.cache.proofs.Small.{limited_full}
use Rattle.listing.proofs.Since.{got_all}
use Rattle.listing.proofs.get_ads.Goals as goal

pub returns : goal.returns
returns c = got_all _ _ _ _ _ _ _ (rw (limited_full _) at c.get_ads_within.ensures)
