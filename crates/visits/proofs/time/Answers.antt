-- `visits::time` meets its contract.
use borrow.Author.Tests.{eq-eqb, ne_eqb}
use Rattle.visits.proofs.time.Goals as goal

pub returns-then-confirmed-eq0 : goal.returns-then-confirmed-eq0
returns-then-confirmed-eq0 c = rw (eq-eqb c.args.confirmed 0 c.if-confirmed-eq0.true) c.text.ensures

pub returns : goal.returns
returns c = rw (ne_eqb c.args.confirmed 0 c.if-confirmed-eq0.false) c.number.ensures
