-- The wait in doubles (document 02, order 11), operation by operation, each rounded once to binary64 as IEEE 754 has it:
--     o = 1 - c/C; d = 1 multiplied ten times by o; f = 1/d; x = (s/C + p/32) + G; the wait is (E·f)·x.
-- Nothing is fused, and no operation is moved: the association is that of the brackets.
use Rattle.std.specs.Prelude.{ℕ, zero, suc, ◌^◌, ◌≤◌, ◌<◌, ◌≡◌, pos, T, Float}
use Rattle.std.specs.Float.{binary64}
use Rattle.std.specs.Float.Ieee.{of_bits, of_int, to_bits, add, sub, mul, div, le}
use Rattle.std.specs.Float.Ieee.Positive.{positive}
use Rattle.settings.specs.Settings.{max_capacity}
use Rattle.double_wait.specs.declared.Settings.{Settings}

-- ---- constants, by their bits: 1.0, 32.0, 900000.0, 1e-7

abbrev pub one : Float
one = of_bits binary64 0x3ff0_0000_0000_0000

abbrev pub levels : Float
levels = of_bits binary64 0x4040_0000_0000_0000

abbrev pub lifetime : Float
lifetime = of_bits binary64 0x412b_7740_0000_0000

abbrev pub least : Float
least = of_bits binary64 0x3e7a_d7f2_9abc_af48

-- a whole number as a double; every one up to 2^53 is a double
abbrev pub whole : ℕ → Float
whole n = of_int binary64 (pos n)

-- the settings E, C and G together, for a capacity
abbrev pub settings_of : ℕ → Settings
settings_of C = record { lifetime = lifetime; capacity = whole C; least = least }

-- ---- the operations

-- o
unfoldable pub free_of : Settings → ℕ → Float
free_of g c = sub binary64 one (div binary64 (whole c) g.capacity)

-- 1 multiplied k times by o
unfoldable pub times : ℕ → Float → Float
times zero o = one
times (suc k) o = mul binary64 (times k o) o

-- d
unfoldable pub power_of : Float → Float
power_of o = times 10 o

-- f
unfoldable pub factor_of : Settings → ℕ → Float
factor_of g c = div binary64 one (power_of (free_of g c))

-- x
unfoldable pub share_of : Settings → ℕ → ℕ → Float
share_of g s p = add binary64 (add binary64 (div binary64 (whole s) g.capacity) (div binary64 (whole p) levels)) g.least

unfoldable pub double_wait : Settings → ℕ → ℕ → ℕ → Float
double_wait g c s p = mul binary64 (mul binary64 g.lifetime (factor_of g c)) (share_of g s p)

-- on an empty registrar the factor is exactly 1.0, for every capacity
abbrev pub EmptyExactlyOne : Settings → ℕ → Float → Type 0
EmptyExactlyOne g c f = (C : ℕ) → 1 ≤ C → C ≤ max_capacity → g ≡ settings_of C → c ≡ 0 → f ≡ one

-- ---- which numbers are in order, and what holds of their wait

pub record InOrder (C c s p : ℕ) : Type 0 where
  pub some_capacity : 1 ≤ C
  pub few_capacity : C ≤ max_capacity
  pub free : c < C
  pub serving : s ≤ c
  pub similar : p ≤ 32

-- the least wait of numbers that are in order, 0.09, and the longest, some 1.8e36
abbrev pub shortest : Float
shortest = double_wait (settings_of 1) 0 0 0

abbrev pub longest : Float
longest = double_wait (settings_of 1000) 999 999 32

-- finite, not 0 and without a sign; so the bits are those of a number below 2^63, and may be subtracted
pub record Proper (x : Float) : Type 0 where
  pub above_zero : T (positive x)
  pub unsigned : to_bits binary64 x < 2 ^ 63
  pub not_shorter : T (le shortest x)
  pub not_longer : T (le x longest)

abbrev pub InOrderProper : Settings → ℕ → ℕ → ℕ → Float → Type 0
InOrderProper g c s p w = (C : ℕ) → g ≡ settings_of C → InOrder C c s p → Proper w
