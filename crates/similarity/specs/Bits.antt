-- Shared leading bits of two numbers of n bits, highest bit first (document 01, "The wait": those that share the first i bits).
use Rattle.std.specs.Prelude.{ℕ, suc, ◌-◌, ◌/◌, ◌^◌, Bool, eqb}
use Rattle.octets.specs.Counting.{passing_below}

-- the first i of their n bits are the same
unfoldable pub shares : ℕ → ℕ → ℕ → ℕ → Bool
shares n i x y = eqb (x / 2 ^ (n - i)) (y / 2 ^ (n - i))

-- how many i from 1 to n pass a test
abbrev pub passing : (ℕ → Bool) → ℕ → ℕ
passing f n = passing_below (λ i. f (suc i)) n

-- how many leading bits are shared: who shares i shares fewer too
unfoldable pub shared : ℕ → ℕ → ℕ → ℕ
shared n x y = passing (λ i. shares n i x y) n
