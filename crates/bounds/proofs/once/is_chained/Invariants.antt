-- `bounds::once::is_chained` meets its contract. The invariant: what is left of the chain, from p on.
use Rattle.std.proofs.Common.{◌+◌}
use Rattle.bounds.specs.Chains.{pair_of}
use Rattle.bounds.proofs.Table.{Rest}
use Rattle.bounds.proofs.once.is_chained.Given as goal

abbrev pub invariant-loop-p : goal.invariant-loop-p
invariant-loop-p l = Rest (pair_of l.address l.bounds) l.n (pair_of l.address l.bounds (l.n + 1)) l.nexts l.p

abbrev pub decreases-loop-p : goal.decreases-loop-p
decreases-loop-p l = l.p
