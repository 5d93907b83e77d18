-- Calls that there are, so that what is promised of a search under the small-registrar profile is not promised of none: caches of either family whose newest entry has grown older, one
-- whose only entry has, and one of 65 slots. The entries are listing's (its Examples), all accepted at the clock.
use mathlib.Core.Path.{◌≡◌, refl}
use mathlib.Core.List.{List, [], ◌∷◌}
use Prim.Native.Nat.{ℕ, ◌-◌, ◌^◌}
use native.Mathlib.Omega.{arith}
use Rattle.octets.specs.Numbers.{number, bytes}
use Rattle.octets.specs.Runs.{part, same, zeros}
use Rattle.record.specs.Refusals.{refusal}
use Rattle.record.specs.Ads.{body_of}
use Rattle.record.specs.Entries.{entry_of}
use Rattle.cache.specs.declared.Family.{Family}
use Rattle.cache.specs.declared.Family.TheVariants.{V4, V6}
use Rattle.cache.specs.Chunks.{chunks, joined, every}
use Rattle.cache.specs.Cache.{small, shape_for, shape_of, head, head_of, entries, cache_of, never_fall, well_formed}
use Rattle.cache.specs.Expiry.{live}
use Rattle.cache.specs.Rows.{cache_rows, clock_rows}
use Rattle.cache.proofs.Small.{opened_65, too_large}
use Rattle.listing.specs.Listing.{length_rows, rows, ask_rows}
use Rattle.listing.proofs.Examples.{service, clock, stamped}
use Rattle.search.specs.Place.{Refused, Nowhere, First, Second}
use Rattle.search.specs.Newest.{newest_from, body_at, placed, newest_at, search_rows, small_newest_at, small_search_rows}
use Rattle.search.proofs.Handed.{small_same_refusal, large_second}

-- the stamp of the first is just thirty days before the clock, that of the second a millisecond more
unfoldable pub two : Family → List ℕ
two f = cache_of (shape_for f) (head 2 clock 2 0) (stamped f 1000 ∷ stamped f 999 ∷ [])

unfoldable pub older : Family → List ℕ
older f = cache_of (shape_for f) (head 1 clock 1 0) (stamped f 999 ∷ [])

-- stamped at the last number of 64 bits
unfoldable pub ahead : Family → List ℕ
ahead f = cache_of (shape_for f) (head 1 clock 1 0) (stamped f (2 ^ 64 - 1) ∷ [])

-- the full registrar hands out the second of the first cache, and the profile the first
pub full_second : (f : Family) → newest_at (two f) (older f) clock service ≡ First (body_at (shape_for f) 1)
unfolding two older stamped shape_for shape_of cache_of head_of joined number bytes part entry_of body_of entries chunks live rows length_rows cache_rows clock_rows refusal well_formed every never_fall zeros same newest_from placed
full_second V4 = refl
full_second V6 = refl

pub small_first : (f : Family) → small_newest_at (two f) (older f) clock service ≡ First (body_at (shape_for f) 0)
unfolding two older stamped shape_for shape_of cache_of head_of joined number bytes part entry_of body_of entries chunks live rows length_rows cache_rows clock_rows refusal well_formed every never_fall zeros same newest_from placed
small_first V4 = refl
small_first V6 = refl

-- where the first cache has none but an older one, the second's is handed out, of the other family too; and where neither has another, none
pub small_other : small_newest_at (older V4) (ahead V6) clock service ≡ Second (body_at (shape_for V6) 0)
unfolding ahead older stamped shape_for shape_of cache_of head_of joined number bytes part entry_of body_of entries chunks live rows length_rows cache_rows clock_rows refusal well_formed every never_fall zeros same newest_from placed
small_other = refl

pub small_none : small_newest_at (older V4) (older V6) clock service ≡ Nowhere
unfolding older stamped shape_for shape_of cache_of head_of joined number bytes part entry_of body_of entries chunks live rows length_rows cache_rows clock_rows refusal well_formed every never_fall zeros same newest_from placed
small_none = refl

-- the profile serves both, and refuses what the full registrar does
pub refused_alike : (f : Family) → refusal (small_search_rows (two f) (older f) clock service) ≡ refusal (search_rows (two f) (older f) clock service)
unfolding two older shape_for cache_of head_of joined number bytes part
refused_alike V4 = small_same_refusal (two V4) (older V4) clock service (λ well. omega arith) (λ well. omega arith)
refused_alike V6 = small_same_refusal (two V6) (older V6) clock service (λ well. omega arith) (λ well. omega arith)

-- the first cache is not refused, and the second has 65 slots
first_asked_lem : (f : Family) → refusal (ask_rows (small (shape_of (two f))) (two f) clock service) ≡ 0
unfolding two stamped shape_for shape_of cache_of head_of joined number bytes part entry_of body_of entries chunks live rows length_rows cache_rows clock_rows refusal well_formed every never_fall zeros
first_asked_lem V4 = refl
first_asked_lem V6 = refl

pub second_refused : (f : Family) → small_newest_at (two f) (opened_65 f) clock service ≡ Refused 1
second_refused f = (large_second (two f) (opened_65 f) clock service (first_asked_lem f) (too_large f)).1.0
