-- `ledger::hold` meets its contract.
use mathlib.Core.Path.{◌≡◌}
use mathlib.Core.Bool.{true, false}
use Rattle.ledger.proofs.hold.Goals as goal

pub returns-then-not-kept : goal.returns-then-not-kept
returns-then-not-kept c = let e : c.args.kept ≡ false = c.if-not-kept.true in rw e

pub returns-else-not-kept : goal.returns-else-not-kept
returns-else-not-kept c = let e : c.args.kept ≡ true = c.if-not-kept.false in rw e
