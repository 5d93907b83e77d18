-- Refusals 1 and 3, that every call with a cache and a clock has (document 01, "Refusal numbers, in the order of checking"), as segments of its table.
use Rattle.std.specs.Prelude.{ℕ, not, List, [], ◌∷◌, nat_lt}
use Rattle.settings.specs.Settings.{last_clock}
use Rattle.record.specs.Refusals.{Row, row}
use Rattle.cache.specs.declared.Shape.{Shape}
use Rattle.cache.specs.Cache.{well_formed, clock_of}

-- 1: the cache is not well formed
unfoldable pub cache_rows : Shape → List ℕ → List Row
cache_rows sh cache = row 1 (not (well_formed sh cache)) ∷ []

-- 3: the clock is below the cache's, or past the last
unfoldable pub clock_rows : List ℕ → ℕ → List Row
clock_rows cache clock = row 3 (nat_lt clock (clock_of cache)) ∷ row 3 (nat_lt last_clock clock) ∷ []
