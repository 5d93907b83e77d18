-- What dropping the records that are past their time writes.
use Rattle.std.specs.Prelude.{ℕ, ◌-◌, ◌*◌, ◌≡◌, List, ◌++◌, length, take, drop, replicate}
use Rattle.record.specs.Layout.{bound_size}
use Rattle.cache.specs.Chunks.{chunks, joined, keep}
use Rattle.entering.specs.Entering.{in_force}

-- those of n records that are in force
abbrev pub stay : ℕ → ℕ → ℕ → List ℕ → List (List ℕ)
stay a clock n s = keep (in_force a clock) (chunks (bound_size a) n s)

-- they stand at the front, in so many bytes, and what is behind the n is as it was
pub record Packed (a clock n : ℕ) (s : List ℕ) (size : ℕ) (t : List ℕ) : Type 0 where
  pub length_is : size ≡ bound_size a * length (stay a clock n s)
  pub front : take size t ≡ joined (stay a clock n s)
  pub rest : drop (bound_size a * n) t ≡ drop (bound_size a * n) s

-- and zeros in place of those that are gone
unfoldable pub dropped : ℕ → ℕ → ℕ → List ℕ → List ℕ
dropped a clock n s = joined (stay a clock n s) ++ (replicate (bound_size a * (n - length (stay a clock n s))) 0 ++ drop (bound_size a * n) s)
