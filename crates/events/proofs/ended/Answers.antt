-- `events::ended` meets its contract.
use mathlib.Core.Path.{◌≡◌}
use mathlib.Core.Bool.{true, false}
use Rattle.events.proofs.ended.Goals as goal

pub returns-then-not-failed : goal.returns-then-not-failed
returns-then-not-failed c = let k : c.args.failed ≡ false = c.if-not-failed.true in rw k

pub returns : goal.returns
returns c = let k : c.args.failed ≡ true = c.if-not-failed.false in rw (k, c.stop-fed.ensures)
