-- `comparison::chunk_size` meets its contract.
use borrow.Author.Tests.{lt-ltb, le-ltb, eq-eqb, ne_eqb}
use native.Mathlib.Omega.{arith}
use Rattle.record.specs.Layout.{simulated_kind}
use Rattle.comparison.specs.Comparing.{most_lines}
use Rattle.comparison.proofs.chunk_size.Goals as goal

pub returns-then-count-eq18446744073709551615 : goal.returns-then-count-eq18446744073709551615
returns-then-count-eq18446744073709551615 c = rw (le-ltb c.args.count most_lines (omega (arith, c.if-count-eq18446744073709551615.true)))

pub returns-then-first-eq-SIMULATED_KIND : goal.returns-then-first-eq-SIMULATED_KIND
returns-then-first-eq-SIMULATED_KIND c =
    rw (lt-ltb c.args.count most_lines (omega (arith, c.if-count-eq18446744073709551615.false, c.ranges.count)), eq-eqb c.args.first simulated_kind c.if-first-eq-SIMULATED_KIND.true)

pub returns : goal.returns
returns c =
    rw (lt-ltb c.args.count most_lines (omega (arith, c.if-count-eq18446744073709551615.false, c.ranges.count)), ne_eqb c.args.first simulated_kind c.if-first-eq-SIMULATED_KIND.false)
