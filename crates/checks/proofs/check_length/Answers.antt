-- `checks::check_length` meets its contract.
use mathlib.Core.Path.{◌≡◌, sym, ◌∙◌}
use lib.ListN.{drop}
use Rattle.record.specs.Refusals.{refusal}
use Rattle.record.proofs.Refusals.{refused, passed, differ, agree}
use Rattle.checks.specs.Rows.{length_rows}
use Rattle.checks.proofs.check_length.Goals as goal
use Rattle.checks.proofs.check_length.Goals.{Else-reply-ne-TICKET_SIZE}

pub returns-then-key-ne-KEY_SIZE : goal.returns-then-key-ne-KEY_SIZE
unfolding length_rows
returns-then-key-ne-KEY_SIZE c = sym (refused 2 _ (differ _ _ c.if-key-ne-KEY_SIZE.true))

pub returns-then-reply-ne-TICKET_SIZE : goal.returns-then-reply-ne-TICKET_SIZE
unfolding length_rows
returns-then-reply-ne-TICKET_SIZE c = sym (passed 2 _ (agree _ _ c.if-key-ne-KEY_SIZE.false) ∙ refused 2 _ (differ _ _ c.if-reply-ne-TICKET_SIZE.true))

-- the two lengths are right
sized : (c : goal.Else-reply-ne-TICKET_SIZE) → let a = c.args in refusal (length_rows a.window a.key.now a.reply.now) ≡ refusal (drop 2 (length_rows a.window a.key.now a.reply.now))
unfolding length_rows
sized c = passed 2 _ (agree _ _ c.if-key-ne-KEY_SIZE.false) ∙ passed 2 _ (agree _ _ c.if-reply-ne-TICKET_SIZE.false)

pub returns : goal.returns
unfolding length_rows
returns c = c.check_window.ensures ∙ sym (sized (goal.at.returns c).Else-reply-ne-TICKET_SIZE)
