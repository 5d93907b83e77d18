-- `checks::check_vouched` meets its contract.
use mathlib.Core.Path.{sym}
use Rattle.std.proofs.lemmas.Bool.{not_from_false, not_from_true}
use Rattle.record.proofs.Refusals.{refused, last_passed}
use Rattle.checks.specs.Rows.{vouched_rows}
use Rattle.checks.proofs.check_vouched.Goals as goal

pub returns-then-not-vouched : goal.returns-then-not-vouched
unfolding vouched_rows
returns-then-not-vouched c = sym (refused 5 _ (not_from_false _ c.if-not-vouched.true))

pub returns : goal.returns
unfolding vouched_rows
returns c = sym (last_passed 5 (not_from_true _ c.if-not-vouched.false))
