-- `comparison::number_and` meets its contract.
use native.Mathlib.Omega.{arith}
use lib.ListN.{length}
use Rattle.lines.proofs.Printing.{decimal_most, wrote_more, wrote_room}
use Rattle.comparison.proofs.number_and.Goals as goal

pub text-requires : goal.text-requires
text-requires c =
    wrote_room (length c.args.words.now) c.number-at.ensures (omega (arith, decimal_most c.args.n, c.requires))

pub returns : goal.returns
returns c =
    wrote_more (omega (arith, c.requires)) c.number-at.ensures c.text.ensures
