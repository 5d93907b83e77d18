-- `comparison::ended` meets its contract.
use mathlib.Core.Path.{◌≡◌}
use mathlib.Core.Bool.{true, false}
use Rattle.comparison.proofs.ended.Goals as goal

pub returns-then-failed : goal.returns-then-failed
returns-then-failed c = let k : c.args.failed ≡ true = c.if-failed.true in rw k

pub returns : goal.returns
returns c = let k : c.args.failed ≡ false = c.if-failed.false in rw k
