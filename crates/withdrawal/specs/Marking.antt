-- The first of some records that passes a test: where it is, and the records with another kind on it.
use Rattle.std.specs.Prelude.{ℕ, Bool, cond, List, [], ◌∷◌}
use Rattle.record.specs.Entries.{with_kind}
unfoldable pub use Rattle.cache.specs.Chunks.{first_of}

-- it gets the kind, and nothing else changes
unfoldable pub marked : (List ℕ → Bool) → ℕ → List (List ℕ) → List (List ℕ)
marked p kind [] = []
marked p kind (r ∷ rs) = cond (p r) (with_kind kind r ∷ rs) (r ∷ marked p kind rs)
