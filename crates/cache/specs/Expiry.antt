-- Live and expired entries (document 01, "REGISTER, step by step": an entry is live while now − accepted < E), and the cache that a call leaves, with its
-- counters (document 02, order 8).
use Rattle.std.specs.Prelude.{ℕ, ◌+◌, Bool, not, List, [], ◌∷◌, ◌++◌, length}
use Rattle.octets.specs.Runs.{same}
use Rattle.times.specs.Times.{live_at}
use Rattle.record.specs.Layout.{accepted, entry_body, service}
use Rattle.cache.specs.declared.Shape.{Shape}
use Rattle.cache.specs.declared.Head.{Head}
use Rattle.cache.specs.Chunks.{keep, first_of}
use Rattle.cache.specs.Cache.{head, counter, head_in, entries, cache_of}

unfoldable pub live : ℕ → List ℕ → Bool
live clock e = live_at clock (accepted e)

-- an entry is of the service
abbrev pub serves : List ℕ → List ℕ → Bool
serves s e = same (service (entry_body e)) s

-- how many entries at the front are not live any more
abbrev pub gone : ℕ → List (List ℕ) → ℕ
gone clock es = first_of (live clock) es

-- those that are not live, wherever they stand, and how many they are
unfoldable pub expired_among : ℕ → List (List ℕ) → List (List ℕ)
expired_among clock es = keep (λ e. not (live clock e)) es

abbrev pub expired_in : ℕ → List (List ℕ) → ℕ
expired_in clock es = length (expired_among clock es)

-- a head once the clock has moved and so many entries have left as expired; and once an ad was confirmed
abbrev pub head_expired : ℕ → ℕ → Head → Head
head_expired clock gone h = head h.capacity clock h.confirmed (counter (h.expired + gone))

abbrev pub head_confirmed : ℕ → Head → Head
head_confirmed clock h = head h.capacity clock (counter (h.confirmed + 1)) h.expired

-- the head of a cache once its expired entries have left and the clock has moved
abbrev pub head_live : Shape → ℕ → List ℕ → Head
head_live sh clock cache = head_expired clock (expired_in clock (entries sh cache)) (head_in cache)

-- the cache with the expired entries gone and the clock moved
unfoldable pub cleared : Shape → ℕ → List ℕ → List ℕ
cleared sh clock cache = cache_of sh (head_live sh clock cache) (keep (live clock) (entries sh cache))

-- the cache with one more entry confirmed, behind the others, and the clock moved
unfoldable pub appended : Shape → ℕ → List ℕ → List ℕ → List ℕ
appended sh clock e cache = cache_of sh (head_confirmed clock (head_in cache)) (entries sh cache ++ (e ∷ []))
