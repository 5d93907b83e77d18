-- The newest advertisement of a service in two caches (document 02, order 9): of the live entries of the service that are not withdrawn the one that was
-- accepted last. At equal times the later place in one cache, and the first of two caches. Under the small-registrar profile (order 14) the capacity of either cache is at
-- most 64, and the newest is looked for among those whose stamps have not grown older than thirty days.
use Rattle.std.specs.Prelude.{ℕ, zero, suc, ◌+◌, Bool, true, cond, Option, None, Some, List, [], ◌∷◌, ◌++◌, ltb, leb}
use Rattle.octets.specs.Runs.{part, both}
use Rattle.times.specs.Times.{oldest_stamp}
use Rattle.record.specs.Layout.{accepted, entry_body_at, body_size}
use Rattle.record.specs.Refusals.{Row, refusal}
use Rattle.cache.specs.declared.Shape.{Shape}
use Rattle.cache.specs.Cache.{shape_of, small, size_of, entries}
use Rattle.listing.specs.Listing.{ask_rows, wanted_since}
use Rattle.search.specs.Place.{Best, Nothing, Entry, Place, Refused, Nowhere, First, Second}

-- ---- in one cache: the index of an entry, and its accepted time

-- an entry that may be handed out: one that a listing wants, by the oldest stamp that is taken; 0 is above none
abbrev pub offers : Shape → ℕ → ℕ → List ℕ → List ℕ → Bool
offers sh oldest clock s e = wanted_since sh.address oldest sh.kinds clock s e

-- an entry that was accepted at t takes the place of the newest so far, which was not accepted later
abbrev pub not_later : Best → ℕ → Bool
not_later Nothing t = true
not_later (Entry i u) t = leb u t

-- the newest of those that pass a test, with the newest so far in hand; the first of them has index i
unfoldable pub newest_from : (List ℕ → Bool) → ℕ → Best → List (List ℕ) → Best
newest_from p i b [] = b
newest_from p i b (e ∷ es) = newest_from p (suc i) (cond (both (p e) (not_later b (accepted e))) (Entry i (accepted e)) b) es

abbrev pub newest_in : Shape → ℕ → List ℕ → ℕ → List ℕ → Best
newest_in sh oldest cache clock s = newest_from (offers sh oldest clock s) 0 Nothing (entries sh cache)

-- how many entries stand up to the one at an index, itself with them; 0 where there is none
abbrev pub up_to : Option ℕ → ℕ
up_to None = 0
up_to (Some i) = suc i

-- how many entries stand up to the last one that passes a test, itself with them; 0 where none does
abbrev pub last_step : Bool → ℕ → ℕ
last_step b zero = cond b 1 0
last_step b (suc k) = suc (suc k)

unfoldable pub last_of : (List ℕ → Bool) → List (List ℕ) → ℕ
last_of p [] = 0
last_of p (e ∷ es) = last_step (p e) (last_of p es)

-- ---- in two caches: which of them, and the index there

pub data Found : Type 0 where
  nowhere : Found
  in_first : ℕ → Found
  in_second : ℕ → Found

-- the first's, unless the second's was accepted later
abbrev pub choice : Best → Best → Found
choice Nothing Nothing = nowhere
choice Nothing (Entry j u) = in_second j
choice (Entry i t) Nothing = in_first i
choice (Entry i t) (Entry j u) = cond (ltb t u) (in_second j) (in_first i)

-- the newest of each cache, which has a shape of its own
abbrev pub found : Shape → Shape → ℕ → List ℕ → List ℕ → ℕ → List ℕ → Found
found near far oldest first second clock s = choice (newest_in near oldest first clock s) (newest_in far oldest second clock s)

-- ---- the answer, for caches of any two shapes

-- in document 01's words: the refusal's number, 0 for none
abbrev pub refusal_of : Place → ℕ
refusal_of (Refused n) = n
refusal_of Nowhere = 0
refusal_of (First at) = 0
refusal_of (Second at) = 0

-- all of the first cache's refusals, then all of the second's: 1 it is not well formed; 2 the service is not 32 bytes; 3 the clock is below its own, or past the last
abbrev pub search_rows_as : Shape → Shape → List ℕ → List ℕ → ℕ → List ℕ → List Row
search_rows_as near far first second clock s = ask_rows near first clock s ++ ask_rows far second clock s

-- where the ad's body of an entry begins in its cache
abbrev pub body_at : Shape → ℕ → ℕ
body_at sh i = size_of sh i + entry_body_at

-- the refusal, or the cache and where the body begins in it
unfoldable pub placed : Shape → Shape → ℕ → Found → Place
placed near far zero nowhere = Nowhere
placed near far zero (in_first i) = First (body_at near i)
placed near far zero (in_second j) = Second (body_at far j)
placed near far (suc n) f = Refused (suc n)

abbrev pub newest_at_as : Shape → Shape → ℕ → List ℕ → List ℕ → ℕ → List ℕ → Place
newest_at_as near far oldest first second clock s = placed near far (refusal (search_rows_as near far first second clock s)) (found near far oldest first second clock s)

-- a body of a cache, from where it begins
abbrev pub body_from : Shape → ℕ → List ℕ → List ℕ
body_from sh at cache = part at (body_size sh.address) cache

-- the part of one of the two caches; it is empty where there is none
abbrev pub part_at : Shape → Shape → List ℕ → List ℕ → Place → List ℕ
part_at near far first second (Refused n) = []
part_at near far first second Nowhere = []
part_at near far first second (First at) = body_from near at first
part_at near far first second (Second at) = body_from far at second

abbrev pub newest_body_as : Shape → Shape → ℕ → List ℕ → List ℕ → ℕ → List ℕ → List ℕ
newest_body_as near far oldest first second clock s = part_at near far first second (newest_at_as near far oldest first second clock s)

-- ---- the answer of a call: each cache has the shape that its head tells, and no stamp is judged

abbrev pub search_rows : List ℕ → List ℕ → ℕ → List ℕ → List Row
search_rows first second clock s = search_rows_as (shape_of first) (shape_of second) first second clock s

abbrev pub newest_at : List ℕ → List ℕ → ℕ → List ℕ → Place
newest_at first second clock s = newest_at_as (shape_of first) (shape_of second) 0 first second clock s

abbrev pub newest_body : List ℕ → List ℕ → ℕ → List ℕ → List ℕ
newest_body first second clock s = newest_body_as (shape_of first) (shape_of second) 0 first second clock s

-- ---- under the small-registrar profile: capacities of at most 64, and stamps of thirty days

abbrev pub small_search_rows : List ℕ → List ℕ → ℕ → List ℕ → List Row
small_search_rows first second clock s = search_rows_as (small (shape_of first)) (small (shape_of second)) first second clock s

abbrev pub small_newest_at : List ℕ → List ℕ → ℕ → List ℕ → Place
small_newest_at first second clock s = newest_at_as (small (shape_of first)) (small (shape_of second)) (oldest_stamp clock) first second clock s

abbrev pub small_newest_body : List ℕ → List ℕ → ℕ → List ℕ → List ℕ
small_newest_body first second clock s = newest_body_as (small (shape_of first)) (small (shape_of second)) (oldest_stamp clock) first second clock s
