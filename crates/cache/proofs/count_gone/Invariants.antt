-- `cache::count_gone` meets its contract. The invariant: the count is that for what is left, with those passed.
use Rattle.std.proofs.Common.{◌≡◌, ◌+◌, ◌-◌, ◌*◌, drop}
use Rattle.cache.specs.Chunks.{chunks}
use Rattle.cache.specs.Expiry.{gone}
use Rattle.cache.proofs.count_gone.Given as goal

abbrev pub invariant-loop-passed : goal.invariant-loop-passed
invariant-loop-passed l = gone l.clock (chunks l.width l.n l.stored) ≡ l.passed + gone l.clock (chunks l.width (l.n - l.passed) (drop (l.width * l.passed) l.stored))
