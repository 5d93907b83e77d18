-- `answers::end_line` meets its contract.
use native.Mathlib.Omega.{arith}
use lib.ListN.{length-append}
use Rattle.lines.specs.Lines.{most_digits}
use Rattle.answers.specs.Lines.{ended, end_line}
use Rattle.lines.proofs.Printing.{decimal_most, wrote_more, wrote_room}
use Rattle.answers.proofs.end_line.Goals as goal

pub text-requires : goal.text-requires
text-requires c =
    wrote_room 1 (wrote_more (omega arith) c.text-at.ensures c.number-last.ensures)
    (rw length-append (omega (arith, decimal_most c.args.n)))

pub returns : goal.returns
unfolding end_line ended
returns c =
    let w = c.text-at.ensures in
    let room = wrote_room most_digits w (omega arith) in
    wrote_more (omega arith) w (wrote_more (omega arith) c.number-last.ensures c.text.ensures)
