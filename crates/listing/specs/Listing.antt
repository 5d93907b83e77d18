-- GET_ADS (document 01, "REGISTER, step by step", last paragraph, and "Refusal numbers"; document 02, order 8): the first ten live entries of the service that
-- are not withdrawn, oldest first, as advertisements at the front of the list buffer; later bytes stay. Under the small-registrar profile (document 02, order 14) the capacity
-- is at most 64, and entries whose stamps have grown older than thirty days are skipped.
use Rattle.std.specs.Prelude.{ℕ, zero, suc, ◌*◌, ◌≡◌, Bool, not, List, [], ◌∷◌, ◌++◌, map, eqb, leb, length, take}
use Rattle.octets.specs.Runs.{put, both}
pub use Rattle.settings.specs.Settings.{most_listed}
use Rattle.times.specs.Times.{oldest_stamp}
use Rattle.record.specs.Layout.{identifier_size, ad_size, accepted, entry_body, stamp}
use Rattle.record.specs.Refusals.{Row, row, refusal}
use Rattle.record.specs.Entries.{listed}
use Rattle.cache.specs.declared.Kinds.{Kinds}
use Rattle.cache.specs.declared.Shape.{Shape}
use Rattle.cache.specs.Chunks.{joined, keep}
use Rattle.cache.specs.Cache.{shape_of, small, entries, is_withdrawn}
use Rattle.cache.specs.Expiry.{live, serves}
use Rattle.cache.specs.Rows.{cache_rows, clock_rows}
use Rattle.listing.specs.Listed.{Listed, Refused, Ads}

-- an answer in document 01's words: the refusal's number, 0 for none; how many are listed, 0 for a refusal
abbrev pub refusal_of : Listed → ℕ
refusal_of (Refused n) = n
refusal_of (Ads n) = 0

abbrev pub number_of : Listed → ℕ
number_of (Refused n) = 0
number_of (Ads n) = n

-- the length of a list buffer
abbrev pub buffer_size : Shape → ℕ
buffer_size sh = most_listed * ad_size sh.address

-- 2: the service is not 32 bytes, or the buffer not of its size
unfoldable pub length_rows : Shape → List ℕ → ℕ → List Row
length_rows sh s size = row 2 (not (eqb (length s) identifier_size)) ∷ row 2 (not (eqb size (buffer_size sh))) ∷ []

-- 1 the cache is not well formed; 2; 3 the clock is below the cache's, or past the last
unfoldable pub rows : Shape → List ℕ → ℕ → List ℕ → ℕ → List Row
rows sh cache clock s size = cache_rows sh cache ++ (length_rows sh s size ++ clock_rows cache clock)

-- those of a call that asks for a service and lends no buffer: all but the buffer's
abbrev pub ask_rows : Shape → List ℕ → ℕ → List ℕ → List Row
ask_rows sh cache clock s = rows sh cache clock s (buffer_size sh)

-- an entry that a listing wants: live, of the service, and not withdrawn
abbrev pub wanted : Kinds → ℕ → List ℕ → List ℕ → Bool
wanted ks clock s e = both (live clock e) (both (serves s e) (not (is_withdrawn ks e)))

-- the entries that are listed; a withdrawn one uses up none of the ten
unfoldable pub chosen : Kinds → ℕ → List ℕ → List (List ℕ) → List (List ℕ)
chosen ks clock s es = take most_listed (keep (wanted ks clock s) es)

-- one that is wanted, told by the earliest accepted time of what is live
abbrev pub wanted_from : Kinds → ℕ → List ℕ → List ℕ → Bool
wanted_from ks from s e = both (leb from (accepted e)) (both (serves s e) (not (is_withdrawn ks e)))

-- an entry whose stamp is not below the oldest that is listed; `a` is the length of an address. A full registrar judges no stamp: its oldest is 0, which is above none
abbrev pub not_older : ℕ → ℕ → List ℕ → Bool
not_older a oldest e = leb oldest (stamp a (entry_body e))

-- one that is wanted and not older
abbrev pub wanted_since : ℕ → ℕ → Kinds → ℕ → List ℕ → List ℕ → Bool
wanted_since a oldest ks clock s e = both (wanted ks clock s e) (not_older a oldest e)

-- the entries that are listed; an older one uses up none of the ten
unfoldable pub chosen_since : ℕ → ℕ → Kinds → ℕ → List ℕ → List (List ℕ) → List (List ℕ)
chosen_since a oldest ks clock s es = take most_listed (keep (wanted_since a oldest ks clock s) es)

-- as advertisements of a kind, one behind the other
unfoldable pub as_ads : ℕ → List (List ℕ) → List ℕ
as_ads kind es = joined (map (listed kind) es)

-- a refusal's number, or how many are listed
unfoldable pub answer_of : ℕ → ℕ → Listed
answer_of zero n = Ads n
answer_of (suc r) n = Refused (suc r)

-- a refusal leaves the buffer as it was
unfoldable pub buffer_of : ℕ → List ℕ → List ℕ → List ℕ
buffer_of zero ads list = put 0 ads list
buffer_of (suc r) ads list = list

-- the answer of a call, and the buffer that it leaves
abbrev pub listing_answer : Shape → List ℕ → ℕ → List ℕ → List ℕ → Listed
listing_answer sh cache clock s list = answer_of (refusal (rows sh cache clock s (length list))) (length (chosen sh.kinds clock s (entries sh cache)))

abbrev pub listing_buffer : Shape → List ℕ → ℕ → List ℕ → List ℕ → List ℕ
listing_buffer sh cache clock s list = buffer_of (refusal (rows sh cache clock s (length list))) (as_ads sh.kinds.ad (chosen sh.kinds clock s (entries sh cache))) list

-- what a call promises: its answer, in document 01's words too, and the buffer
pub record Got (sh : Shape) (cache : List ℕ) (clock : ℕ) (s list : List ℕ) (answer : Listed) (left : List ℕ) : Type 0 where
  pub answered : answer ≡ listing_answer sh cache clock s list
  pub refused : refusal_of answer ≡ refusal (rows sh cache clock s (length list))
  pub told : refusal_of answer ≡ 0 → number_of answer ≡ length (chosen sh.kinds clock s (entries sh cache))
  pub leaves : left ≡ listing_buffer sh cache clock s list

-- ---- where the stamps are judged: the same with the oldest stamp that is listed

abbrev pub answer_since : Shape → ℕ → List ℕ → ℕ → List ℕ → List ℕ → Listed
answer_since sh oldest cache clock s list = answer_of (refusal (rows sh cache clock s (length list))) (length (chosen_since sh.address oldest sh.kinds clock s (entries sh cache)))

abbrev pub buffer_since : Shape → ℕ → List ℕ → ℕ → List ℕ → List ℕ → List ℕ
buffer_since sh oldest cache clock s list =
    buffer_of (refusal (rows sh cache clock s (length list))) (as_ads sh.kinds.ad (chosen_since sh.address oldest sh.kinds clock s (entries sh cache))) list

pub record GotSince (sh : Shape) (oldest : ℕ) (cache : List ℕ) (clock : ℕ) (s list : List ℕ) (answer : Listed) (left : List ℕ) : Type 0 where
  pub answered : answer ≡ answer_since sh oldest cache clock s list
  pub refused : refusal_of answer ≡ refusal (rows sh cache clock s (length list))
  pub told : refusal_of answer ≡ 0 → number_of answer ≡ length (chosen_since sh.address oldest sh.kinds clock s (entries sh cache))
  pub leaves : left ≡ buffer_since sh oldest cache clock s list

-- ---- under the small-registrar profile: a capacity of at most 64, and stamps of thirty days

abbrev pub small_answer : List ℕ → ℕ → List ℕ → List ℕ → Listed
small_answer cache clock s list = answer_since (small (shape_of cache)) (oldest_stamp clock) cache clock s list

abbrev pub small_buffer : List ℕ → ℕ → List ℕ → List ℕ → List ℕ
small_buffer cache clock s list = buffer_since (small (shape_of cache)) (oldest_stamp clock) cache clock s list

abbrev pub SmallGot : List ℕ → ℕ → List ℕ → List ℕ → Listed → List ℕ → Type 0
SmallGot cache clock s list answer left = GotSince (small (shape_of cache)) (oldest_stamp clock) cache clock s list answer left

-- what the writer of the list does with the entries that are listed
pub record AdsWritten (kind : ℕ) (es : List (List ℕ)) (list : List ℕ) (found : ℕ) (left : List ℕ) : Type 0 where
  pub counted : found ≡ length es
  pub leaves : left ≡ put 0 (as_ads kind es) list
