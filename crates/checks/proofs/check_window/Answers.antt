-- `checks::check_window` meets its contract: the row's test.
use Rattle.record.specs.Refusals.{refusal}
use Rattle.checks.proofs.check_window.Goals as goal

pub returns-then-is_window : goal.returns-then-is_window
unfolding refusal
returns-then-is_window c = rw (← c.is_window.ensures, c.if-is_window.true)

pub returns : goal.returns
unfolding refusal
returns c = rw (← c.is_window.ensures, c.if-is_window.false)
