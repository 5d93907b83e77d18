-- Runs of bytes: a part of a list, a part put in its place, two lists compared, a list of zeros.
use Rattle.std.specs.Prelude.{ℕ, ◌+◌, Bool, true, false, List, [], ◌∷◌, ◌++◌, eqb, length, take, drop}

-- the n elements from place at
unfoldable pub part : ℕ → ℕ → List ℕ → List ℕ
part at n s = take n (drop at s)

-- s with p in place of as many of its elements from place at
unfoldable pub put : ℕ → List ℕ → List ℕ → List ℕ
put at p s = take at s ++ (p ++ drop (at + length p) s)

abbrev pub both : Bool → Bool → Bool
both true b = b
both false b = false

-- the two lists are equal
unfoldable pub same : List ℕ → List ℕ → Bool
same [] [] = true
same [] (y ∷ ys) = false
same (x ∷ xs) [] = false
same (x ∷ xs) (y ∷ ys) = both (eqb x y) (same xs ys)

-- every element is 0
unfoldable pub zeros : List ℕ → Bool
zeros [] = true
zeros (x ∷ xs) = both (eqb x 0) (zeros xs)
