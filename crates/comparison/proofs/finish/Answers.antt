-- `comparison::finish` meets its contract.
use mathlib.Core.Path.{refl, sym}
use lib.ListN.{length}
use borrow.Author.Tests.{le-leb, lt-leb}
use Rattle.octets.proofs.Runs.{put_none}
use Rattle.comparison.specs.Records.{line_limit}
use Rattle.comparison.specs.Comparing.{last_line}
use Rattle.comparison.proofs.finish.Goals as goal

pub returns-then-out-lt-LINE : goal.returns-then-out-lt-LINE
returns-then-out-lt-LINE c =
    let out = c.args.out.now in
    rw (lt-leb line_limit (length out) c.if-out-lt-LINE.true) (record { end = refl; puts = sym (put_none 0 out) })

pub returns-then-complete : goal.returns-then-complete
unfolding last_line
returns-then-complete c =
    let out = c.args.out.now in
    rw (le-leb line_limit (length out) c.if-out-lt-LINE.false, ← c.complete.ensures, c.if-complete.true) (record { end = refl; puts = sym (put_none 0 out) })

pub returns : goal.returns
unfolding last_line
returns c =
    let out = c.args.out.now in
    rw (le-leb line_limit (length out) c.if-out-lt-LINE.false, ← c.complete.ensures, c.if-complete.false) c.stopped.ensures
