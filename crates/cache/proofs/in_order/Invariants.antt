-- `cache::in_order` meets its contract: of the entries those behind the pairs that were looked at are left.
use Rattle.std.proofs.Common.{◌+◌, ◌-◌, ◌*◌, ◌%◌}
use Rattle.cache.proofs.Looking.{Left}
use Rattle.cache.proofs.in_order.Given as goal

abbrev pub invariant-loop-pair : goal.invariant-loop-pair
invariant-loop-pair l = Left l.kinds l.clock l.width l.n l.stored l.last (l.n - (l.n % 2 + 2 * l.pair)) (l.width * (l.n % 2 + 2 * l.pair))
