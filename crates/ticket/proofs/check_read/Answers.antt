-- `ticket::check_read` meets its contract.
use mathlib.Core.Path.{◌≡◌, sym, ap, ◌∙◌}
use mathlib.Core.Bool.{not}
use borrow.Author.Tests.{eq-eqb, ne_eqb}
use Rattle.settings.specs.Settings.{last_clock}
use Rattle.record.specs.Refusals.{refusal}
use Rattle.ticket.specs.Tickets.{ticket_rows, ticket_read_rows}
use Rattle.record.proofs.Refusals.{refused, passed}
use Rattle.ticket.proofs.Tickets.{unformed}
use Rattle.ticket.proofs.check_read.Goals as goal
use Rattle.ticket.proofs.check_read.Goals.{Else-key-ne-KEY_SIZE}

pub returns-then-key-ne-KEY_SIZE : goal.returns-then-key-ne-KEY_SIZE
unfolding ticket_read_rows
returns-then-key-ne-KEY_SIZE c = sym (refused 2 _ (ap not (ne_eqb _ _ c.if-key-ne-KEY_SIZE.true)))

-- the key has its length, so the check tells
told : (c : goal.Else-key-ne-KEY_SIZE) → let a = c.args in
    refusal (ticket_read_rows a.key.now a.ticket.now) ≡ refusal (ticket_rows last_clock a.key.now a.ticket.now)
unfolding ticket_read_rows
told c = passed 2 _ (ap not (eq-eqb _ _ c.if-key-ne-KEY_SIZE.false))

pub returns-then-not-is_formed : goal.returns-then-not-is_formed
returns-then-not-is_formed c =
    sym (told (goal.at.returns-then-not-is_formed c).Else-key-ne-KEY_SIZE ∙ unformed last_clock _ _ (sym c.is_formed.ensures ∙ c.if-not-is_formed.true))

pub check_ticket-requires : goal.check_ticket-requires
check_ticket-requires c = sym c.is_formed.ensures ∙ c.if-not-is_formed.false

pub returns : goal.returns
returns c =
    c.check_ticket.ensures c.args.key.now c.key_states.ensures ∙ sym (told (goal.at.returns c).Else-key-ne-KEY_SIZE)
