-- `events::chunk_size` meets its contract.
use mathlib.Core.Path.{◌≡◌}
use mathlib.Core.Bool.{true, false}
use borrow.Author.Tests.{lt-ltb, le-ltb}
use native.Mathlib.Omega.{arith}
use Rattle.events.specs.Log.{most_records}
use Rattle.events.proofs.chunk_size.Goals as goal

pub returns-then-not-keyed : goal.returns-then-not-keyed
returns-then-not-keyed c = let k : c.args.keyed ≡ false = c.if-not-keyed.true in rw k

pub returns-then-count-eq18446744073709551615 : goal.returns-then-count-eq18446744073709551615
returns-then-count-eq18446744073709551615 c =
    let k : c.args.keyed ≡ true = c.if-not-keyed.false in
    rw (k, le-ltb c.args.count most_records (omega (arith, c.if-count-eq18446744073709551615.true)))

pub returns : goal.returns
returns c =
    let k : c.args.keyed ≡ true = c.if-not-keyed.false in
    rw (k, lt-ltb c.args.count most_records (omega (arith, c.if-count-eq18446744073709551615.false, c.ranges.count))) c.size.ensures
