-- `comparison::tell` meets its contract.
use borrow.Author.Tests.{eq-eqb, ne_eqb}
use Rattle.comparison.specs.Records.{verdict}
use Rattle.comparison.proofs.tell.Goals as goal

pub returns-then-ours-theirs : goal.returns-then-ours-theirs
unfolding verdict
returns-then-ours-theirs c =
    let a = c.args in
    rw (eq-eqb a.ours a.theirs c.if-ours-theirs.true) c.number_and.ensures

pub returns : goal.returns
unfolding verdict
returns c =
    let a = c.args in
    rw (ne_eqb a.ours a.theirs c.if-ours-theirs.false) c.number_and-2.ensures
