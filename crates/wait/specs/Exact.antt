-- The exact wait of document 01 (section "The wait"), E · f · (s/C + p/n + G) with f = (C/(C - c))^10: a fraction in which nothing is rounded, and
-- what it means to have stayed so long, multiplied out over whole numbers. At c = C the denominators are 0, and nobody has stayed long enough.
use Rattle.std.specs.Prelude.{ℕ, ◌+◌, ◌-◌, ◌*◌, ◌^◌, ◌≤◌, ◌<◌}
use Rattle.settings.specs.Settings.{lifetime}
use Rattle.wait.specs.Wait.{ticks_per_milli, exponent, share, under}

-- the exact wait, in milliseconds, is exactTop / exactUnder
unfoldable pub exact_top : ℕ → ℕ → ℕ → ℕ → ℕ
exact_top n C s p = lifetime * C ^ exponent * share n C s p

unfoldable pub exact_under : ℕ → ℕ → ℕ → ℕ
exact_under n C c = (C - c) ^ exponent * under n C

-- the rounding costs at most a tick at the start and one at each factor, each grown by f: document 01's 11
abbrev pub roundings : ℕ
roundings = 1 + exponent

-- the exact wait + 1 + 11·f/8192 is pastTop / pastUnder
unfoldable pub past_top : ℕ → ℕ → ℕ → ℕ → ℕ → ℕ
past_top n C c s p =
    ticks_per_milli * exact_top n C s p + ticks_per_milli * exact_under n C c + roundings * C ^ exponent * under n C

unfoldable pub past_under : ℕ → ℕ → ℕ → ℕ
past_under n C c = ticks_per_milli * exact_under n C c

-- t milliseconds are at least the exact wait
unfoldable pub stayed_exact : ℕ → ℕ → ℕ → ℕ → ℕ → ℕ → Type 0
stayed_exact n C c s p t = exact_top n C s p ≤ t * exact_under n C c

-- t milliseconds are at most the exact wait
unfoldable pub exact_at_least : ℕ → ℕ → ℕ → ℕ → ℕ → ℕ → Type 0
exact_at_least n C c s p t = t * exact_under n C c ≤ exact_top n C s p

-- t milliseconds are at least the exact wait + 1 + 11·f/8192
unfoldable pub stayed_past : ℕ → ℕ → ℕ → ℕ → ℕ → ℕ → Type 0
stayed_past n C c s p t = past_top n C c s p ≤ t * past_under n C c

-- t milliseconds are less than the exact wait + 1 + 11·f/8192
unfoldable pub below_past : ℕ → ℕ → ℕ → ℕ → ℕ → ℕ → Type 0
below_past n C c s p t = t * past_under n C c < past_top n C c s p

-- t milliseconds are at least the exact wait, k in d parts of it, and 1: that is (exact wait) · (1 + k/d) + 1
unfoldable pub stayed_longer : ℕ → ℕ → ℕ → ℕ → ℕ → ℕ → ℕ → ℕ → Type 0
stayed_longer k d n C c s p t = (d + k) * exact_top n C s p + d * exact_under n C c ≤ t * (d * exact_under n C c)
