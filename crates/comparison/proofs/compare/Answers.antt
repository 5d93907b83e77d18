-- `comparison::compare` meets its contract.
use Prim.Native.Nat.{◌+◌}
use native.Mathlib.Omega.{arith}
use lib.ListN.{length-append}
use Rattle.lines.specs.Lines.{most_digits}
use Rattle.lines.proofs.Printing.{decimal_most, wrote_more, wrote_room}
use Rattle.comparison.specs.Records.{compared_line}
use Rattle.comparison.proofs.Printed.{verdict_most, difference_most}
use Rattle.comparison.proofs.compare.Goals as goal

pub subtract-behind-requires : goal.subtract-behind-requires
subtract-behind-requires c =
    let a = c.args in
    wrote_room (1 + most_digits + 1) c.tell-at.ensures (simp length-append (omega (arith, decimal_most a.n, verdict_most a.ours a.theirs, c.requires)))

pub number_and-requires : goal.number_and-requires
number_and-requires c =
    let a = c.args in
    wrote_room (most_digits + 1) (wrote_more (omega (arith, c.requires)) c.tell-at.ensures c.subtract-behind.ensures)
    (simp length-append (omega (arith, decimal_most a.n, verdict_most a.ours a.theirs, difference_most a.ours a.theirs, c.requires)))

pub returns : goal.returns
unfolding compared_line
returns c =
    let a = c.args in
    let room = wrote_room (1 + most_digits + 1) c.tell-at.ensures (simp length-append (omega (arith, decimal_most a.n, verdict_most a.ours a.theirs, c.requires))) in
    wrote_more (omega (arith, c.requires)) c.tell-at.ensures (wrote_more (omega (arith, room)) c.subtract-behind.ensures c.number_and.ensures)
