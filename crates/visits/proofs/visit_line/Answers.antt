-- `visits::visit_line` meets its contract.
use native.Mathlib.Omega.{arith}
use lib.ListN.{length-append}
use Rattle.answers.specs.Lines.{longest_line}
use Rattle.lines.proofs.Printing.{decimal_most, wrote_more, wrote_room, wrote_within}
use Rattle.visits.specs.Day.{visit_line}
use Rattle.visits.proofs.visit_line.Goals as goal

pub text-behind-requires : goal.text-behind-requires
text-behind-requires c = wrote_room 1 c.number-at.ensures (omega (arith, decimal_most c.args.n, c.requires))

pub register_line-requires : goal.register_line-requires
register_line-requires c =
    wrote_room longest_line (wrote_more (omega (arith, c.requires)) c.number-at.ensures c.text-behind.ensures) (rw length-append (omega (arith, decimal_most c.args.n, c.requires)))

pub returns : goal.returns
unfolding visit_line
returns c =
    let w = c.number-at.ensures in
    let line = rw c.by_number.ensures at c.register_line.ensures in
    wrote_more (omega (arith, c.requires)) w (wrote_more (wrote_within w (omega (arith, c.requires))) c.text-behind.ensures line)
