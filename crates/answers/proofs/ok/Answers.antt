-- `answers::ok` meets its contract.
use native.Mathlib.Omega.{arith}
use Rattle.answers.specs.Lines.{ok_line}
use Rattle.lines.proofs.Printing.{decimal_most, wrote_more, wrote_room}
use Rattle.answers.proofs.ok.Goals as goal

pub text-requires : goal.text-requires
text-requires c = wrote_room 4 c.number-at.ensures (omega (arith, decimal_most c.args.clock))

pub returns : goal.returns
unfolding ok_line
returns c = wrote_more (omega arith) c.number-at.ensures c.text.ensures
