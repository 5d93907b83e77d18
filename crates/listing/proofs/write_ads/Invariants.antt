-- `listing::write_ads` meets its contract: the invariant is the record `Filled`, with room for one more.
use mathlib.Core.Path.{◌≡◌}
use Prim.Native.Nat.{◌<◌}
use Rattle.std.specs.Slice.Iter.{chunks_exact_rest, chunks_exact_size}
use Rattle.listing.specs.Listing.{most_listed, wanted_since}
use Rattle.listing.proofs.Filling.{Filled}
use Rattle.listing.proofs.write_ads.Given as goal

abbrev pub invariant-loop-entry : goal.invariant-loop-entry
invariant-loop-entry l =
    (chunks_exact_size l.entry-iterator ≡ l.width)
    × (Filled (wanted_since l.address l.oldest l.kinds l.clock l.service) l.kinds.ad l.width l.n l.stored l.initial.list (chunks_exact_rest l.entry-iterator) l.found l.list × (l.found < most_listed))
