-- Caches that there are, so that what is promised of a listing under the small-registrar profile is not promised of none: one of each family with four entries, of which one has
-- grown older by a millisecond, one not yet, one is stamped now and one as late as can be.
use mathlib.Core.Path.{◌≡◌, refl}
use mathlib.Core.List.{List, [], ◌∷◌}
use Prim.Native.Nat.{ℕ, ◌+◌, ◌-◌, ◌^◌}
use lib.ListN.{length, replicate}
use Rattle.octets.specs.Numbers.{number, bytes}
use Rattle.octets.specs.Runs.{part, same, zeros}
use Rattle.settings.specs.Settings.{stamp_age}
use Rattle.record.specs.Layout.{identifier_size, signature_size}
use Rattle.record.specs.Refusals.{refusal}
use Rattle.record.specs.Ads.{ad_fields, ad_of, body_of}
use Rattle.record.specs.Entries.{entry_of}
use Rattle.cache.specs.declared.Family.{Family}
use Rattle.cache.specs.declared.Family.TheVariants.{V4, V6}
use Rattle.cache.specs.Chunks.{chunks, joined, keep, every}
use Rattle.cache.specs.Cache.{shape_for, shape_of, head, head_of, entries, cache_of, never_fall, well_formed}
use Rattle.cache.specs.Expiry.{live}
use Rattle.cache.specs.Rows.{cache_rows, clock_rows}
use Rattle.listing.specs.Listed.{Ads}
use Rattle.listing.specs.Listing.{buffer_size, length_rows, rows, chosen, chosen_since, answer_of, listing_answer, small_answer}
use Rattle.listing.proofs.Small.{wanted_not_older}

-- an address of each family
abbrev address_in : Family → List ℕ
address_in V4 = 10 ∷ 0 ∷ 0 ∷ 1 ∷ []
address_in V6 = 32 ∷ 1 ∷ 13 ∷ 184 ∷ 0 ∷ 0 ∷ 0 ∷ 0 ∷ 0 ∷ 0 ∷ 0 ∷ 0 ∷ 0 ∷ 0 ∷ 0 ∷ 1 ∷ []

-- the service that is asked for, and the clock, thirty days and a second after 0
abbrev pub service : List ℕ
service = replicate identifier_size 0

abbrev pub clock : ℕ
clock = stamp_age + 1000

-- an entry of the service, accepted at that clock, with a stamp
unfoldable pub stamped : Family → ℕ → List ℕ
stamped f t =
    entry_of (shape_for f).kinds.entry clock (ad_of (shape_for f).kinds.ad (ad_fields service (replicate identifier_size 1) (address_in f) 1 t (replicate signature_size 0)))

-- one stamped thirty days and a millisecond before the clock, one just thirty days, one at the clock, and one at the last number of 64 bits
unfoldable pub four : Family → List ℕ
four f = cache_of (shape_for f) (head 4 clock 4 0) (stamped f 999 ∷ stamped f 1000 ∷ stamped f clock ∷ stamped f (2 ^ 64 - 1) ∷ [])

-- the full registrar lists them all, and the profile all but the first
pub four_listed : (f : Family) → listing_answer (shape_of (four f)) (four f) clock service (replicate (buffer_size (shape_of (four f))) 0) ≡ Ads 4
unfolding four stamped shape_for shape_of cache_of head_of joined number bytes part entry_of body_of entries chunks live rows length_rows cache_rows clock_rows refusal well_formed every never_fall zeros same keep chosen answer_of
four_listed V4 = refl
four_listed V6 = refl

pub three_listed : (f : Family) → small_answer (four f) clock service (replicate (buffer_size (shape_of (four f))) 0) ≡ Ads 3
unfolding four stamped shape_for shape_of cache_of head_of joined number bytes part entry_of body_of entries chunks live rows length_rows cache_rows clock_rows refusal well_formed every never_fall zeros same keep chosen_since answer_of
three_listed V4 = refl
three_listed V6 = refl

-- they are at most ten, as `not_older_listed` asks
pub few_of_four : (f : Family) → length (wanted_not_older (four f) clock service) ≡ 3
unfolding four stamped shape_for shape_of cache_of head_of joined number bytes part entry_of body_of entries chunks live same keep
few_of_four V4 = refl
few_of_four V6 = refl
