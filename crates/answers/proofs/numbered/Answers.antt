-- `answers::numbered` meets its contract.
use native.Mathlib.Omega.{arith}
use lib.ListN.{length, length-append}
use Rattle.lines.specs.Lines.{most_digits}
use Rattle.answers.specs.Lines.{ended}
use Rattle.lines.proofs.Printing.{decimal_most, wrote_more, wrote_room}
use Rattle.answers.proofs.numbered.Goals as goal

pub text-behind-requires : goal.text-behind-requires
text-behind-requires c =
    wrote_room (length c.args.word.now) c.number-at.ensures (omega (arith, decimal_most c.args.clock))

pub number-last-requires : goal.number-last-requires
number-last-requires c =
    wrote_room most_digits (wrote_more (omega arith) c.number-at.ensures c.text-behind.ensures)
    (rw length-append (omega (arith, decimal_most c.args.clock)))

pub text-requires : goal.text-requires
text-requires c =
    wrote_room 1 (wrote_more (omega arith) (wrote_more (omega arith) c.number-at.ensures c.text-behind.ensures) c.number-last.ensures)
    (rw (length-append, length-append) (omega (arith, decimal_most c.args.clock, decimal_most c.args.n)))

pub returns : goal.returns
unfolding ended
returns c =
    let w = wrote_more (omega arith) c.number-at.ensures c.text-behind.ensures in
    let room = wrote_room most_digits w (rw length-append (omega (arith, decimal_most c.args.clock))) in
    wrote_more (omega arith) w (wrote_more (omega arith) c.number-last.ensures c.text.ensures)
