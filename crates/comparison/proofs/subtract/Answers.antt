-- `comparison::subtract` meets its contract.
use native.Mathlib.Omega.{arith}
use borrow.Author.Tests.{lt-ltb, le-ltb}
use Rattle.lines.proofs.Printing.{wrote_more}
use Rattle.comparison.specs.Records.{difference}
use Rattle.comparison.proofs.subtract.Goals as goal

pub returns-then-ours-theirs : goal.returns-then-ours-theirs
unfolding difference
returns-then-ours-theirs c =
    let a = c.args in
    rw (lt-ltb a.ours a.theirs c.if-ours-theirs.true) (wrote_more (omega (arith, c.requires)) c.text-at.ensures c.number_and.ensures)

pub returns : goal.returns
unfolding difference
returns c =
    let a = c.args in
    rw (le-ltb a.ours a.theirs c.if-ours-theirs.false) c.number_and-2.ensures
