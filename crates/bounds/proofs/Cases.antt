-- The form that refusal 18 asks for, on small buffers, computed. Bytes are written as order 12 prints them: 17, a pair, until in eight bytes, 45 in all for IPv4.
use Rattle.std.proofs.Common.{◌≡◌, ℕ, true, false, List, [], ◌∷◌, ◌++◌, replicate, refl}
use Rattle.octets.specs.Numbers.{number}
use Rattle.octets.specs.Runs.{part, same, zeros}
use Rattle.cache.specs.Chunks.{chunks, first_of, every}
use Rattle.bounds.specs.Bounds.{in_use, bounds_in, among, each_once, well_bounded}

-- a service and an address of one byte each, repeated
abbrev pairing : ℕ → ℕ → List ℕ
pairing s x = replicate 32 s ++ replicate 4 x

abbrev late : ℕ → List ℕ
late u = 0 ∷ 0 ∷ 0 ∷ 0 ∷ 0 ∷ 0 ∷ 0 ∷ u ∷ []

-- the record of one byte's pair, and a free place
abbrev at : ℕ → ℕ → List ℕ
at x u = 17 ∷ (pairing x x ++ late u)

abbrev free : List ℕ
free = replicate 45 0

-- refusal 18: the form
abbrev largest : List ℕ
largest = 0 ∷ 0 ∷ 1 ∷ 0 ∷ 0 ∷ 13 ∷ 187 ∷ 159 ∷ []

abbrev larger : List ℕ
larger = 0 ∷ 0 ∷ 1 ∷ 0 ∷ 0 ∷ 13 ∷ 187 ∷ 160 ∷ []

form :
    (well_bounded 4 (at 1 140 ++ (at 2 90 ++ free))
    ∷ well_bounded 4 free
    -- two pairs of one service, and of one address
    ∷ well_bounded 4 (at 1 140 ++ (17 ∷ (pairing 1 2 ++ late 140)))
    ∷ well_bounded 4 (at 1 140 ++ (17 ∷ (pairing 2 1 ++ late 140)))
    -- until 2^40 − 1 + 900,000, and 0
    ∷ well_bounded 4 (17 ∷ (pairing 1 1 ++ largest))
    ∷ well_bounded 4 (at 1 0)
    -- and what is not: until one more; a pair twice; a byte behind; a gap; another kind; a byte too few, too many, none
    ∷ well_bounded 4 (17 ∷ (pairing 1 1 ++ larger))
    ∷ well_bounded 4 (at 1 140 ++ (at 2 90 ++ at 1 150))
    ∷ well_bounded 4 (at 1 140 ++ (replicate 44 0 ++ (1 ∷ [])))
    ∷ well_bounded 4 (free ++ at 1 140)
    ∷ well_bounded 4 (16 ∷ (pairing 1 1 ++ late 140))
    ∷ well_bounded 4 (replicate 44 0)
    ∷ well_bounded 4 (replicate 46 0)
    ∷ well_bounded 4 []
    ∷ [])
    ≡ (true ∷ true ∷ true ∷ true ∷ true ∷ true ∷ false ∷ false ∷ false ∷ false ∷ false ∷ false ∷ false ∷ false ∷ [])
unfolding well_bounded each_once among every zeros bounds_in in_use chunks first_of number part same
form = refl
