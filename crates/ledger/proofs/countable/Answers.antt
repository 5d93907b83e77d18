-- `ledger::countable` meets its contract.
use borrow.Author.Tests.{lt-ltb, le-ltb}
use Rattle.ledger.specs.Ledger.{advertisers}
use Rattle.ledger.proofs.countable.Goals as goal

pub returns-then-n-ge-ADVERTISERS : goal.returns-then-n-ge-ADVERTISERS
returns-then-n-ge-ADVERTISERS c = rw (le-ltb c.args.n advertisers c.if-n-ge-ADVERTISERS.true)

pub returns : goal.returns
returns c = rw (lt-ltb c.args.n advertisers c.if-n-ge-ADVERTISERS.false)
