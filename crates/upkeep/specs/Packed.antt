-- What moving the entries that stay up to the head writes.
use Rattle.std.specs.Prelude.{ℕ, ◌+◌, ◌-◌, ◌*◌, List, ◌++◌, take, drop, replicate}
use Rattle.octets.specs.Runs.{part}

-- the first of n entries taken out, the others moved up to the head, and zeros in their place
abbrev pub packed : ℕ → ℕ → ℕ → ℕ → List ℕ → List ℕ
packed head w n first cache =
    take head cache ++ (part (head + w * first) (w * (n - first)) cache ++ (replicate (w * first) 0 ++ drop (head + w * n) cache))
