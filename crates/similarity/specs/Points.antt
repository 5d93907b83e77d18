-- Document 01's points ("The wait"): one for each i from 1 to n where more than c / 2^i share the first i bits.
use Rattle.std.specs.Prelude.{ℕ, ◌+◌, ◌-◌, ◌*◌, ◌^◌, Bool, List, [], ◌∷◌, ltb, length, drop}
use Rattle.similarity.specs.Bits.{passing}

-- k·2^i > c
abbrev pub enough : ℕ → ℕ → ℕ → Bool
enough c k i = ltb c (k * 2 ^ i)

unfoldable pub sum : List ℕ → ℕ
sum [] = 0
sum (t ∷ ts) = t + sum ts

-- where n + 1 totals have how many share exactly 0, 1, and so on to n bits, those from i up sum to k
abbrev pub enough_at : List ℕ → ℕ → ℕ → Bool
enough_at ts c i = enough c (sum (drop i ts)) i

abbrev pub points_from : List ℕ → ℕ → ℕ
points_from ts c = passing (enough_at ts c) (length ts - 1)
