use mathlib.Core.Path.{◌≡◌}
use native.Mathlib.Omega.{arith}
use Rattle.ledger.specs.Ledger.{advertisers}
use Rattle.visits.proofs.Printing.{summing_none, summing_on, summing_room}
use Rattle.visits.proofs.summary.Goals as goal

pub loop-n-init : goal.loop-n-init
loop-n-init c = summing_none _ _

pub summary_line-to-requires : goal.summary_line-to-requires
summary_line-to-requires c =
    let p = c.requires in
    (p.0, c.loop-n-test.true, summing_room c.loop-n.invariant c.loop-n-test.true p.1)

pub loop-n-preserved : goal.loop-n-preserved
loop-n-preserved c = summing_on c.loop-n.invariant c.summary_line-to.ensures c.summary_line-to.auto.out

pub returns : goal.returns
returns c =
    let e : advertisers ≡ c.loop-n.n = omega arith in
    rw e c.loop-n.invariant.wrote
