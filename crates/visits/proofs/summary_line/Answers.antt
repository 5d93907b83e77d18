-- `visits::summary_line` meets its contract.
use mathlib.Core.Path.{sym}
use Prim.Native.Nat.{◌≤◌}
use native.Mathlib.Omega.{arith}
use lib.ListN.{length, length-append}
use borrow.Author.Tests.{eq-eqb, ne_eqb}
use Rattle.octets.proofs.Runs.{put_none}
use Rattle.lines.specs.Lines.{most_digits}
use Rattle.lines.proofs.Printing.{decimal_most, wrote_more, wrote_room, wrote_within}
use Rattle.ledger.specs.Ledger.{count_in, last_in}
use Rattle.visits.specs.Day.{summary_line}
use Rattle.visits.proofs.Printing.{time_most}
use Rattle.visits.proofs.summary_line.Goals as goal

pub returns-then-count-eq0 : goal.returns-then-count-eq0
unfolding summary_line
returns-then-count-eq0 c =
    let a = c.args in
    rw (eq-eqb (count_in a.n a.tallies.now) 0 c.if-count-eq0.true) (record { end = omega arith; puts = sym (put_none a.to a.out.now) })

pub text-b-requires : goal.text-b-requires
text-b-requires c =
    let w = c.number-a.ensures in
    wrote_room 1 w (omega (arith, decimal_most c.args.n, decimal_most (count_in c.args.n c.args.tallies.now), time_most (last_in c.args.n c.args.tallies.now), c.requires.2))

pub number-c-requires : goal.number-c-requires
number-c-requires c =
    let w = c.number-a.ensures in
    let w = wrote_more (omega (arith, c.requires.2)) w c.text-b.ensures in
    wrote_room most_digits w rw (length-append) (omega (arith, decimal_most c.args.n, decimal_most (count_in c.args.n c.args.tallies.now), time_most (last_in c.args.n c.args.tallies.now), c.requires.2))

pub text-d-requires : goal.text-d-requires
text-d-requires c =
    let w = c.number-a.ensures in
    let w = wrote_more (omega (arith, c.requires.2)) w c.text-b.ensures in
    let w = wrote_more (omega (arith, c.requires.2)) w c.number-c.ensures in
    wrote_room 1 w rw (length-append, length-append) (omega (arith, decimal_most c.args.n, decimal_most (count_in c.args.n c.args.tallies.now), time_most (last_in c.args.n c.args.tallies.now), c.requires.2))

pub time-e-requires : goal.time-e-requires
time-e-requires c =
    let w = c.number-a.ensures in
    let w = wrote_more (omega (arith, c.requires.2)) w c.text-b.ensures in
    let w = wrote_more (omega (arith, c.requires.2)) w c.number-c.ensures in
    let w = wrote_more (omega (arith, c.requires.2)) w c.text-d.ensures in
    wrote_room most_digits w rw (length-append, length-append, length-append) (omega (arith, decimal_most c.args.n, decimal_most (count_in c.args.n c.args.tallies.now), time_most (last_in c.args.n c.args.tallies.now), c.requires.2))

pub text-requires : goal.text-requires
text-requires c =
    let w = c.number-a.ensures in
    let w = wrote_more (omega (arith, c.requires.2)) w c.text-b.ensures in
    let w = wrote_more (omega (arith, c.requires.2)) w c.number-c.ensures in
    let w = wrote_more (omega (arith, c.requires.2)) w c.text-d.ensures in
    let w = wrote_more (omega (arith, c.requires.2)) w c.time-e.ensures in
    wrote_room 1 w rw (length-append, length-append, length-append, length-append) (omega (arith, decimal_most c.args.n, decimal_most (count_in c.args.n c.args.tallies.now), time_most (last_in c.args.n c.args.tallies.now), c.requires.2))

pub returns : goal.returns
unfolding summary_line
returns c =
    let h : c.args.to ≤ length c.args.out.now = omega (arith, c.requires.2) in
    let w0 = c.number-a.ensures in
    let h0 = wrote_within w0 h in
    let w1 = c.text-b.ensures in
    let h1 = wrote_within w1 h0 in
    let w2 = c.number-c.ensures in
    let h2 = wrote_within w2 h1 in
    let w3 = c.text-d.ensures in
    let h3 = wrote_within w3 h2 in
    let w4 = c.time-e.ensures in
    let h4 = wrote_within w4 h3 in
    let w5 = c.text.ensures in
    let h5 = wrote_within w5 h4 in
    rw (ne_eqb (count_in c.args.n c.args.tallies.now) 0 c.if-count-eq0.false)
    (wrote_more h w0 (wrote_more h0 w1 (wrote_more h1 w2 (wrote_more h2 w3 (wrote_more h3 w4 w5)))))
