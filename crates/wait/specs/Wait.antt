-- The waiting time by document 01's recipe (section "The wait"), over whole numbers. The arguments, everywhere in this order:
--     n   bits of an address
--     C   capacity of the cache
--     c   occupancy: its live ads
--     s   those of them that are for the newcomer's service
--     p   similarity of the newcomer's address to theirs, from 0 to n (document 01's points)
use Rattle.std.specs.Prelude.{ℕ, zero, suc, ◌+◌, ◌-◌, ◌*◌, ◌/◌, ◌^◌, ◌≤◌, ◌<◌, min, ◌≡◌, Bool, cond, ◌||◌, leb, eqb}
use Rattle.settings.specs.Settings.{lifetime, max_capacity, most_bits}

-- ticks are document 01's grains
abbrev pub ticks_per_milli : ℕ
ticks_per_milli = 8192

-- of the factor C / (C - c)
abbrev pub exponent : ℕ
exponent = 10

-- the factors of the recipe, each applied and rounded by itself
abbrev pub factors : ℕ
factors = exponent

-- document 01's G is one of so many parts
abbrev pub parts : ℕ
parts = 10 ^ 7

-- the working, in ticks, goes no further than this
abbrev pub stop : ℕ
stop = 2 ^ 53

-- the longest wait, in milliseconds
abbrev pub cap : ℕ
cap = 2 ^ 40

-- a / b, rounded up
abbrev pub ceil : ℕ → ℕ → ℕ
ceil a b = (a + (b - 1)) / b

-- s / C + p / n + G is share / under
unfoldable pub share : ℕ → ℕ → ℕ → ℕ → ℕ
share n C s p = s * (n * parts) + p * (C * parts) + C * n

unfoldable pub under : ℕ → ℕ → ℕ
under n C = C * n * parts

-- the start, in ticks: the three terms are summed first and rounded up once
unfoldable pub start_of : ℕ → ℕ → ℕ → ℕ → ℕ
start_of n C s p = ceil (lifetime * ticks_per_milli * share n C s p) (under n C)

-- w ticks times C / d, where d = C - c entries are free, rounded up to a whole tick
abbrev pub times_factor : ℕ → ℕ → ℕ → ℕ
times_factor C d w = ceil (w * C) d

-- the working, in ticks, k factors after the start g. There is no stop in it
unfoldable pub working : ℕ → ℕ → ℕ → ℕ → ℕ
working C d g zero = g
working C d g (suc k) = times_factor C d (working C d g k)

-- the working was at or past the stop at some point, from the start to the k-th factor
unfoldable pub reached : ℕ → ℕ → ℕ → ℕ → Bool
reached C d g zero = leb stop (working C d g zero)
reached C d g (suc k) = reached C d g k || leb stop (working C d g (suc k))

-- r is the working after k factors, held to the stop, and lies between g·(C/d)^k and (g + k)·(C/d)^k: the factors cost at most a tick each at the start.
-- Held to the stop it may lie below the first
pub record Worked (C d g k r : ℕ) : Type 0 where
  pub held : r ≡ min stop (working C d g k)
  pub not_below : r < stop → g * C ^ k ≤ r * d ^ k
  pub not_past : r * d ^ k ≤ (g + k) * C ^ k

-- the one step from ticks to milliseconds, rounded up
abbrev pub millis_of : ℕ → ℕ
millis_of ticks = ceil ticks ticks_per_milli

-- the wait, in milliseconds, for d free entries and the start g: the cap where the stop was reached
unfoldable pub wait_from : ℕ → ℕ → ℕ → ℕ
wait_from C d g = cond (reached C d g factors) cap (millis_of (working C d g factors))

-- the wait, in milliseconds: the cap where the cache is full
unfoldable pub wait_of : ℕ → ℕ → ℕ → ℕ → ℕ → ℕ
wait_of n C c s p = cond (eqb c C) cap (wait_from C (C - c) (start_of n C s p))

-- the numbers for which the wait is computed in 64 bits
pub record InRange (n C c s p : ℕ) : Type 0 where
  pub some_bits : 1 ≤ n
  pub few_bits : n ≤ most_bits
  pub some_capacity : 1 ≤ C
  pub few_capacity : C ≤ max_capacity
  pub occupied : c ≤ C
  pub serving : s ≤ C
  pub similar : p ≤ n
