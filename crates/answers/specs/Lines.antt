-- The lines of a log (document 01, the end of "Both sides of each edge"), but for `STOP`, which `lines` has.
use Rattle.std.specs.Prelude.{ℕ, ◌+◌, List, [], ◌∷◌, ◌++◌, length}
use Rattle.lines.specs.Lines.{most_digits, decimal, newline}

-- " OK\n", " NO ", " WAIT ", " ADS ", "END "
abbrev pub word_ok : List ℕ
word_ok = 32 ∷ 79 ∷ 75 ∷ 10 ∷ []

abbrev pub word_no : List ℕ
word_no = 32 ∷ 78 ∷ 79 ∷ 32 ∷ []

abbrev pub word_wait : List ℕ
word_wait = 32 ∷ 87 ∷ 65 ∷ 73 ∷ 84 ∷ 32 ∷ []

abbrev pub word_ads : List ℕ
word_ads = 32 ∷ 65 ∷ 68 ∷ 83 ∷ 32 ∷ []

abbrev pub word_end : List ℕ
word_end = 69 ∷ 78 ∷ 68 ∷ 32 ∷ []

-- a line: what stands before the number, the number, a newline
unfoldable pub ended : List ℕ → ℕ → List ℕ
ended before n = before ++ (decimal n ++ newline)

unfoldable pub ok_line : ℕ → List ℕ
ok_line clock = decimal clock ++ word_ok

unfoldable pub no_line : ℕ → ℕ → List ℕ
no_line clock n = ended (decimal clock ++ word_no) n

unfoldable pub wait_line : ℕ → ℕ → List ℕ
wait_line clock n = ended (decimal clock ++ word_wait) n

unfoldable pub ads_line : ℕ → ℕ → List ℕ
ads_line clock n = ended (decimal clock ++ word_ads) n

unfoldable pub end_line : ℕ → List ℕ
end_line n = ended word_end n

-- the longest line: two numbers, the longest word and a newline
abbrev pub longest_line : ℕ
longest_line = most_digits + length word_wait + most_digits + length newline
