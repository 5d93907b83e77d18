-- `search::last_wanted` meets its contract: of the entries before the index the last that is wanted is that of all.
use mathlib.Core.Path.{◌≡◌}
use Rattle.cache.specs.Chunks.{chunks}
use Rattle.listing.specs.Listing.{wanted_since}
use Rattle.search.specs.Newest.{last_of}
use Rattle.search.proofs.last_wanted.Given as goal

abbrev pub invariant-loop-index : goal.invariant-loop-index
invariant-loop-index l =
    let p = wanted_since l.address l.oldest l.kinds l.clock l.service in
    last_of p (chunks l.width l.n l.stored) ≡ last_of p (chunks l.width l.index l.stored)
