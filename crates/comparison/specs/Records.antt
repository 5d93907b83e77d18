-- A simulator's wait and the line that it gets (document 02, order 11): the wait is worked out in doubles from the same numbers, and the two are compared by their 64 bits.
-- Behind the line's number stand `SAME` or `DIFF`, our bits less theirs as a signed number, and the recipe's wait in milliseconds; or `BAD` alone.
use Rattle.std.specs.Prelude.{ℕ, ◌+◌, ◌-◌, ◌^◌, Bool, cond, List, [], ◌∷◌, ◌++◌, eqb, leb, ltb, length, get_or}
use Rattle.std.specs.Float.{binary64}
use Rattle.std.specs.Float.Ieee.{of_bits, to_bits}
use Rattle.std.specs.Float.Ieee.Scale.{finite}
use Rattle.octets.specs.Numbers.{number}
use Rattle.octets.specs.Runs.{both, part}
use Rattle.settings.specs.Settings.{max_capacity}
use Rattle.record.specs.Layout.{count_size, double_size, simulated_capacity_at, simulated_occupancy_at, simulated_serving_at, simulated_similarity_at, simulated_wait_at}
use Rattle.lines.specs.Lines.{most_digits, decimal, newline}
use Rattle.wait.specs.Wait.{wait_of}
use Rattle.double_wait.specs.Doubles.{settings_of, double_wait}
use Rattle.comparison.specs.declared.Simulated.{Simulated}

-- ---- the record: C, c, s, p, and the simulator's wait by its bits

abbrev pub simulated_of : List ℕ → Simulated
simulated_of r =
    record {
      capacity = number (part simulated_capacity_at count_size r);
      occupancy = number (part simulated_occupancy_at count_size r);
      serving = number (part simulated_serving_at count_size r);
      similarity = get_or r simulated_similarity_at 0;
      bits = number (part simulated_wait_at double_size r);
    }

-- the levels of an IPv4 address
abbrev pub levels : ℕ
levels = 32

-- the highest of the 64 bits is not set, and the rest is neither an infinity nor no number
unfoldable pub plain : ℕ → Bool
plain bits = both (ltb bits (2 ^ 63)) (finite (of_bits binary64 bits))

-- all else is bad: a capacity not from 1 to 1,000, c ≥ C, s > c, p > 32, or such a wait
unfoldable pub is_in_order : Simulated → Bool
is_in_order r =
    both (both (leb 1 r.capacity) (leb r.capacity max_capacity))
    (both (ltb r.occupancy r.capacity) (both (leb r.serving r.occupancy) (both (leb r.similarity levels) (plain r.bits))))

-- ---- what it is compared with

unfoldable pub ours : Simulated → ℕ
ours r = to_bits binary64 (double_wait (settings_of r.capacity) r.occupancy r.serving r.similarity)

unfoldable pub recipe : Simulated → ℕ
recipe r = wait_of levels r.capacity r.occupancy r.serving r.similarity

-- ---- the line

-- " SAME ", " DIFF ", " BAD\n", "-", " "
abbrev pub word_same : List ℕ
word_same = 32 ∷ 83 ∷ 65 ∷ 77 ∷ 69 ∷ 32 ∷ []

abbrev pub word_diff : List ℕ
word_diff = 32 ∷ 68 ∷ 73 ∷ 70 ∷ 70 ∷ 32 ∷ []

abbrev pub word_bad : List ℕ
word_bad = 32 ∷ 66 ∷ 65 ∷ 68 ∷ 10 ∷ []

abbrev pub minus : List ℕ
minus = 45 ∷ []

abbrev pub space : List ℕ
space = 32 ∷ []

-- a less b
unfoldable pub difference : ℕ → ℕ → List ℕ
difference a b = cond (ltb a b) (minus ++ decimal (b - a)) (decimal (a - b))

unfoldable pub verdict : ℕ → ℕ → List ℕ
verdict a b = cond (eqb a b) word_same word_diff

-- of the line's number, our bits, theirs, and the recipe's wait
unfoldable pub compared_line : ℕ → ℕ → ℕ → ℕ → List ℕ
compared_line n a b w = (decimal n ++ verdict a b) ++ ((difference a b ++ space) ++ (decimal w ++ newline))

unfoldable pub bad_line : ℕ → List ℕ
bad_line n = decimal n ++ word_bad

unfoldable pub line_of : ℕ → Simulated → List ℕ
line_of n r = cond (is_in_order r) (compared_line n (ours r) r.bits (recipe r)) (bad_line n)

-- no line is longer: three numbers with as many digits as there can be, a word, a sign, a space and a newline. The longest has 61 bytes, since a difference has at most 19 digits
-- and a wait 13
abbrev pub line_limit : ℕ
line_limit = most_digits + length word_same + length minus + most_digits + length space + most_digits + length newline
