-- Lines of text in ASCII; each ends in a newline. Numbers are in decimal, with the fewest digits (document 01, the end of "Both sides of each edge").
use Rattle.std.specs.Prelude.{cond, ℕ, zero, suc, ◌+◌, ◌/◌, ◌%◌, List, [], ◌∷◌, ◌++◌, ◌≡◌, ltb, length}
use Rattle.octets.specs.Runs.{put}

-- the digits of a number that has at most k
unfoldable pub decimal_in : ℕ → ℕ → List ℕ
decimal_in zero n = []
decimal_in (suc k) n = cond (ltb n 10) ((48 + n) ∷ []) (decimal_in k (n / 10) ++ ((48 + n % 10) ∷ []))

-- a u64 has at most 20
abbrev pub most_digits : ℕ
most_digits = 20

unfoldable pub decimal : ℕ → List ℕ
decimal n = decimal_in most_digits n

abbrev pub newline : List ℕ
newline = 10 ∷ []

-- "STOP\n"
abbrev pub stop_line : List ℕ
stop_line = 83 ∷ 84 ∷ 79 ∷ 80 ∷ 10 ∷ []

-- what a writer of a line leaves: the line from place `to`, and the place behind it
pub record LineWritten (line out : List ℕ) (to r : ℕ) (out' : List ℕ) : Type 0 where
  pub end : r ≡ to + length line
  pub puts : out' ≡ put to line out
