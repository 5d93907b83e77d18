-- `cache::check_clock` meets its contract: a row of the table for each test.
use Rattle.std.proofs.Common.{sym, ◌∙◌, le-ltb, lt-ltb}
use Rattle.record.proofs.Refusals.{refused, passed, last_passed}
use Rattle.cache.specs.Rows.{clock_rows}
use Rattle.cache.proofs.check_clock.Goals as goal
use Rattle.cache.proofs.check_clock.Goals.{then-clock-via-then-clock, then-clock-via-else-clock+then-clock-gt-LAST_CLOCK}

pub returns-then-clock : goal.returns-then-clock
unfolding clock_rows
returns-then-clock c =
    elim c.then-clock.branch [
      | then-clock-via-then-clock w ↦ sym (refused 3 _ (rw (← c.clock.ensures) (lt-ltb _ _ w.if-clock.true)))
      | then-clock-via-else-clock+then-clock-gt-LAST_CLOCK w ↦
          sym (passed 3 _ (rw (← c.clock.ensures) (le-ltb _ _ w.if-clock.false)) ∙ refused 3 _ (lt-ltb _ _ w.if-clock-gt-LAST_CLOCK.true))
    ]

pub returns : goal.returns
unfolding clock_rows
returns c =
    sym (passed 3 _ (rw (← c.clock.ensures) (le-ltb _ _ c.if-clock.false)) ∙ last_passed 3 (le-ltb _ _ c.if-clock-gt-LAST_CLOCK.false))
