-- A run: calls with any arguments, one after the other, each given the cache and the lower bounds as the last left them, full ones and those of the small-registrar profile in
-- any mix. A new call is a case of `Call` and of `Answer`,
-- a line of `after`, `said`, `refusal_in`, `confirms`, `doing`, `takes_back` and `issued_by`, and of `call_effect` and `call_bounds` (proofs/Effects.antt, proofs/Bounds.antt);
-- what else is kept between calls is a field of `State`.
use Rattle.std.specs.Prelude.{ℕ, Bool, false, List, [], ◌∷◌, map}
use Rattle.record.specs.Refusals.{Reply}
use Rattle.cache.specs.declared.Shape.{Shape}
use Rattle.cache.specs.Cache.{small as small_shape, shape_of, entries}
use Rattle.load.specs.Counts.{entry_of_pair}
use Rattle.checks.specs.declared.Terms.{Terms}
use Rattle.checks.specs.Request.{request, terms, small_terms}
use Rattle.listing.specs.Listed.{Listed}
use Rattle.listing.specs.Listing.{listing_answer, listing_buffer, small_answer, small_buffer, refusal_of as refusal_of_listed}
use Rattle.search.specs.Place.{Place}
use Rattle.search.specs.Newest.{newest_at, newest_body, small_newest_at, small_newest_body, refusal_of as refusal_of_place}
use Rattle.withdrawal.specs.Withdrawing.{withdrawal, withdrawn}
use Rattle.admission.specs.Registered.{Registered}
use Rattle.registrar.specs.Registering.{Outcome, registered, refusal_of}
use Rattle.bounded.specs.Bounded.{registered_bounded, bounds_left}

-- what is kept between calls; a host that knows no lower bounds keeps an empty buffer for them
pub record State : Type 0 where
  pub cache : List ℕ
  pub bounds : List ℕ

abbrev pub state : List ℕ → List ℕ → State
state cache bounds = record { cache = cache; bounds = bounds }

-- the entries that are held
abbrev pub held_in : State → List (List ℕ)
held_in s = entries (shape_of s.cache) s.cache

-- the two caches of a search: the one that is kept and another, in either order, or the one twice
pub data Caches : Type 0 where
  kept_first : (other : List ℕ) → Caches
  kept_second : (other : List ℕ) → Caches
  kept_twice : Caches

abbrev pub first_cache : Caches → State → List ℕ
first_cache (kept_first other) s = s.cache
first_cache (kept_second other) s = other
first_cache kept_twice s = s.cache

abbrev pub second_cache : Caches → State → List ℕ
second_cache (kept_first other) s = other
second_cache (kept_second other) s = s.cache
second_cache kept_twice s = s.cache

-- which of two calls of a name it is: the full one, or that of the small-registrar profile (document 02, order 14)
pub data Profile : Type 0 where
  full : Profile
  small : Profile

-- the shape that it goes by, and what a REGISTER does beside it: the small one has a window of its own, and looks at none
abbrev pub shape_under : Profile → List ℕ → Shape
shape_under full cache = shape_of cache
shape_under small cache = small_shape (shape_of cache)

abbrev pub terms_under : Profile → ℕ → Terms
terms_under full window = terms window
terms_under small window = small_terms

-- a call with its arguments, but for what is kept: REGISTER with its registration window, the same with lower bounds, GET_ADS, WITHDRAW, and the search for the newest of a
-- service. Beside the opening they are all that are given a cache; the others read and write advertisements, tickets and messages and make identifiers and digests, in buffers of their own
pub data Call : Type 0 where
  register : (profile : Profile) (window : ℕ) (key : List ℕ) (clock : ℕ) (ad : List ℕ) (vouched : Bool) (ticket reply : List ℕ) → Call
  register_bounded : (profile : Profile) (window : ℕ) (key : List ℕ) (clock : ℕ) (ad : List ℕ) (vouched : Bool) (ticket reply : List ℕ) → Call
  get_ads : (profile : Profile) (clock : ℕ) (service list : List ℕ) → Call
  withdraw : (profile : Profile) (service peer : List ℕ) (clock : ℕ) (vouched : Bool) → Call
  newest : (profile : Profile) (caches : Caches) (clock : ℕ) (service : List ℕ) → Call

-- what a call answers, and the lent buffer, if there is one, as it leaves it; of a search the place, with its refusal, and the part that is handed out
pub data Answer : Type 0 where
  registers : (answer : Registered) (reply : List ℕ) → Answer
  lists : (answer : Listed) (list : List ℕ) → Answer
  withdraws : (answer : ℕ) → Answer
  finds : (answer : Place) (body : List ℕ) → Answer

-- the outcome of REGISTER on what is kept: every call reads the family off the cache that it is given
abbrev pub registering : Profile → ℕ → List ℕ → ℕ → List ℕ → Bool → List ℕ → List ℕ → State → Outcome
registering p window key clock ad vouched ticket reply s = registered (shape_under p s.cache) (terms_under p window) (request s.cache key clock ad vouched ticket reply)

-- of REGISTER with lower bounds, and the bounds that it leaves
abbrev pub registering_bounded : Profile → ℕ → List ℕ → ℕ → List ℕ → Bool → List ℕ → List ℕ → State → Outcome
registering_bounded p window key clock ad vouched ticket reply s =
    registered_bounded (shape_under p s.cache) (terms_under p window) s.bounds (request s.cache key clock ad vouched ticket reply)

abbrev pub bounds_behind : Profile → ℕ → List ℕ → ℕ → List ℕ → Bool → List ℕ → List ℕ → State → List ℕ
bounds_behind p window key clock ad vouched ticket reply s =
    bounds_left (shape_under p s.cache) (terms_under p window) s.bounds (request s.cache key clock ad vouched ticket reply)

-- the outcome of WITHDRAW
abbrev pub withdrawing : Profile → List ℕ → List ℕ → ℕ → Bool → State → Reply
withdrawing p service peer clock vouched s = withdrawn (shape_under p s.cache) (withdrawal s.cache service peer clock vouched)

-- what GET_ADS answers, and what the search does, with the part that it hands out
abbrev pub listing : Profile → List ℕ → ℕ → List ℕ → List ℕ → Answer
listing full cache clock service list = lists (listing_answer (shape_of cache) cache clock service list) (listing_buffer (shape_of cache) cache clock service list)
listing small cache clock service list = lists (small_answer cache clock service list) (small_buffer cache clock service list)

abbrev pub finding : Profile → List ℕ → List ℕ → ℕ → List ℕ → Answer
finding full first second clock service = finds (newest_at first second clock service) (newest_body first second clock service)
finding small first second clock service = finds (small_newest_at first second clock service) (small_newest_body first second clock service)

-- what a call leaves, and what it answers
unfoldable pub after : Call → State → State
after (register p window key clock ad vouched ticket reply) s = state (registering p window key clock ad vouched ticket reply s).cache s.bounds
after (register_bounded p window key clock ad vouched ticket reply) s =
    state (registering_bounded p window key clock ad vouched ticket reply s).cache (bounds_behind p window key clock ad vouched ticket reply s)
after (get_ads p clock service list) s = s
after (withdraw p service peer clock vouched) s = state (withdrawing p service peer clock vouched s).buffer s.bounds
after (newest p caches clock service) s = s

unfoldable pub said : Call → State → Answer
said (register p window key clock ad vouched ticket reply) s =
    registers (registering p window key clock ad vouched ticket reply s).answer (registering p window key clock ad vouched ticket reply s).reply
said (register_bounded p window key clock ad vouched ticket reply) s =
    registers (registering_bounded p window key clock ad vouched ticket reply s).answer (registering_bounded p window key clock ad vouched ticket reply s).reply
said (get_ads p clock service list) s = listing p s.cache clock service list
said (withdraw p service peer clock vouched) s = withdraws (withdrawing p service peer clock vouched s).number
said (newest p caches clock service) s = finding p (first_cache caches s) (second_cache caches s) clock service

-- the number of a refusal, 0 for none
abbrev pub refusal_in : Answer → ℕ
refusal_in (registers answer reply) = refusal_of answer
refusal_in (lists answer list) = refusal_of_listed answer
refusal_in (withdraws answer) = answer
refusal_in (finds answer body) = refusal_of_place answer

-- what a call does to the cache where it is not refused: it clears out what has expired at its clock, or it only looks
pub data Deed : Type 0 where
  looks : Deed
  clears : (clock : ℕ) → Deed

abbrev pub doing : Call → Deed
doing (register p window key clock ad vouched ticket reply) = clears clock
doing (register_bounded p window key clock ad vouched ticket reply) = clears clock
doing (get_ads p clock service list) = looks
doing (withdraw p service peer clock vouched) = clears clock
doing (newest p caches clock service) = looks

-- it is a WITHDRAW of the service and the peer of an entry
abbrev pub takes_back : Call → List ℕ → Bool
takes_back (register p window key clock ad vouched ticket reply) e = false
takes_back (register_bounded p window key clock ad vouched ticket reply) e = false
takes_back (get_ads p clock service list) e = false
takes_back (withdraw p service peer clock vouched) e = entry_of_pair service peer e
takes_back (newest p caches clock service) e = false

-- what a run leaves
unfoldable pub after_all : List Call → State → State
after_all [] s = s
after_all (c ∷ cs) s = after_all cs (after c s)

-- a call of a run: what it was given, what it answered and what it left
pub record Step : Type 0 where
  pub call : Call
  pub before : State
  pub answer : Answer
  pub left : State

abbrev pub step : Call → State → Step
step c s = record { call = c; before = s; answer = said c s; left = after c s }

-- the calls of a run in order, and their answers
unfoldable pub trace : List Call → State → List Step
trace [] s = []
trace (c ∷ cs) s = step c s ∷ trace cs (after c s)

abbrev pub said_all : List Call → State → List Answer
said_all cs s = map (λ (t : Step). t.answer) (trace cs s)
