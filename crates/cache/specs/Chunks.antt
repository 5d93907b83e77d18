-- Records that lie one behind the other: a list of bytes as chunks of one width and back, and what is asked of a list of records.
use Rattle.std.specs.Prelude.{ℕ, zero, suc, ◌+◌, Bool, true, cond, List, [], ◌∷◌, ◌++◌, take, drop}
use Rattle.octets.specs.Runs.{both}

-- n chunks of w bytes each, from the front
unfoldable pub chunks : ℕ → ℕ → List ℕ → List (List ℕ)
chunks w zero s = []
chunks w (suc n) s = take w s ∷ chunks w n (drop w s)

-- the records one behind the other
unfoldable pub joined : List (List ℕ) → List ℕ
joined [] = []
joined (r ∷ rs) = r ++ joined rs

-- the records that pass a test, in order
unfoldable pub keep : (List ℕ → Bool) → List (List ℕ) → List (List ℕ)
keep p [] = []
keep p (r ∷ rs) = cond (p r) (r ∷ keep p rs) (keep p rs)

-- how many records stand before the first that passes a test, all of them where none does
unfoldable pub first_of : (List ℕ → Bool) → List (List ℕ) → ℕ
first_of p [] = 0
first_of p (r ∷ rs) = cond (p r) 0 (suc (first_of p rs))

-- how many records pass a test
unfoldable pub count : (List ℕ → Bool) → List (List ℕ) → ℕ
count p [] = 0
count p (r ∷ rs) = cond (p r) 1 0 + count p rs

-- every record passes a test
unfoldable pub every : (List ℕ → Bool) → List (List ℕ) → Bool
every p [] = true
every p (r ∷ rs) = both (p r) (every p rs)

-- every condition of a list holds
abbrev pub all_of : List Bool → Bool
all_of [] = true
all_of (b ∷ bs) = both b (all_of bs)
