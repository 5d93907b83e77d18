-- Fields of fixed widths, one behind the other: the parts of these widths that bytes have, and the bytes that fields make together.
use Rattle.std.specs.Prelude.{ℕ, ◌+◌, List, [], ◌∷◌, ◌++◌, length}
use Rattle.octets.specs.Runs.{part}

-- the parts of these widths, from a place on
abbrev pub parts : ℕ → List ℕ → List ℕ → List (List ℕ)
parts at [] s = []
parts at (n ∷ ns) s = part at n s ∷ parts (at + n) ns s

abbrev pub together : List (List ℕ) → List ℕ
together [] = []
together (f ∷ []) = f
together (f ∷ g ∷ fs) = f ++ together (g ∷ fs)

abbrev pub widths : List (List ℕ) → List ℕ
widths [] = []
widths (f ∷ fs) = length f ∷ widths fs

abbrev pub total : List ℕ → ℕ
total [] = 0
total (n ∷ ns) = n + total ns
