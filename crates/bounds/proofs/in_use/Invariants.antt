-- `bounds::in_use` meets its contract. The invariant: the count is that for what is left, with those passed. A turn goes on with it twice.
use Rattle.std.proofs.Common.{◌≡◌, ℕ, ◌+◌, ◌-◌, ◌*◌, ◌≤◌, List, drop}
use Rattle.record.specs.Layout.{bound_size}
use Rattle.cache.specs.Chunks.{first_of, chunks}
use Rattle.bounds.specs.Bounds.{not_bound, places, in_use}
use Rattle.bounds.proofs.in_use.Given as goal

pub record Left (a : ℕ) (s : List ℕ) (passed : ℕ) : Type 0 where
  pub few : passed ≤ places a s
  pub count : in_use a s ≡ passed + first_of not_bound (chunks (bound_size a) (places a s - passed) (drop (bound_size a * passed) s))

abbrev pub invariant-loop-two : goal.invariant-loop-two
invariant-loop-two l = Left l.address l.bounds (2 * l.two)
