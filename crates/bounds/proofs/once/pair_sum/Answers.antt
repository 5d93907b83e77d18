-- `bounds::once::pair_sum` meets its contract: what the calls ensure is the definition, put together.
use Rattle.std.proofs.Common.{le-ltb, lt-ltb}
use Rattle.bounds.specs.Hashing.{pair_sum}
use Rattle.bounds.proofs.once.pair_sum.Goals as goal

pub returns-then-end-lt48 : goal.returns-then-end-lt48
unfolding pair_sum
returns-then-end-lt48 c = rw (lt-ltb _ _ c.if-end-lt48.true) cc

pub returns : goal.returns
unfolding pair_sum
returns c = rw (le-ltb _ _ c.if-end-lt48.false) cc
