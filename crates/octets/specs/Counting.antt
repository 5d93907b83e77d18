-- How many numbers pass a test.
use Rattle.std.specs.Prelude.{ℕ, zero, suc, ◌+◌, Bool, cond}

-- of those below n
unfoldable pub passing_below : (ℕ → Bool) → ℕ → ℕ
passing_below f zero = 0
passing_below f (suc n) = passing_below f n + cond (f n) 1 0
