-- What REGISTER makes its answer from (document 01, "The wait" and "REGISTER, step by step"): the wait of an ad, and
-- the cache that admission leaves.
use Rattle.std.specs.Prelude.{ℕ, ◌*◌, ◌≡◌, List, [], ◌∷◌, ◌++◌, length}
use Rattle.cache.specs.declared.Shape.{Shape}
use Rattle.cache.specs.Chunks.{keep}
use Rattle.cache.specs.Cache.{capacity_of, entries, cache_of}
use Rattle.cache.specs.Expiry.{live, gone, head_confirmed, head_live}
use Rattle.upkeep.specs.Newcomer.{newcomer}
use Rattle.load.specs.Counts.{counts_in}
use Rattle.wait.specs.Wait.{wait_of}

-- bits of an address
abbrev pub bits : Shape → ℕ
bits sh = 8 * sh.address

-- the wait, in milliseconds, over a cache as handed in, for a clock and an ad
unfoldable pub wait_in : Shape → List ℕ → ℕ → List ℕ → ℕ
wait_in sh cache clock ad =
    wait_of (bits sh) (capacity_of cache) (counts_in sh cache clock ad).live (counts_in sh cache clock ad).service (counts_in sh cache clock ad).similarity

-- so many entries are live, and so many at the front are gone
pub record Stays (sh : Shape) (clock : ℕ) (cache : List ℕ) (l g : ℕ) : Type 0 where
  pub stay : l ≡ length (keep (live clock) (entries sh cache))
  pub left : g ≡ gone clock (entries sh cache)

-- the cache with the expired entries gone, the ad held with accepted = now and counted as confirmed, and the clock moved
unfoldable pub holding : Shape → ℕ → List ℕ → List ℕ → List ℕ
holding sh clock ad cache =
    cache_of sh (head_confirmed clock (head_live sh clock cache)) (keep (live clock) (entries sh cache) ++ (newcomer sh clock ad ∷ []))
