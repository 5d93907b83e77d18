-- `ticket::read_ticket` meets its contract.
use mathlib.Core.Path.{refl, sym, ap, ◌∙◌}
use Rattle.settings.specs.Settings.{last_clock}
use Rattle.record.specs.Layout.{ticket_body}
use Rattle.ticket.specs.Tickets.{no_ticket, ticket_given, as_ticket_read, ticket_read, ticket_read_rows, ticket_in}
use Rattle.record.proofs.Refusals.{none_refused, beside_refused, beside_none, handed_on, number_not_0}
use Rattle.ticket.proofs.Tickets.{ticket_accepted}
use Rattle.ticket.proofs.read_ticket.Goals as goal

pub returns-in_err-check_read : goal.returns-in_err-check_read
unfolding ticket_read
returns-in_err-check_read c =
    let e = c.in_err-check_read.field-0.0 in
    ap as_ticket_read (handed_on c.from_residual.result e c.from_residual.ensures.1)
    ∙ beside_refused ticket_given no_ticket _ _ (ticket_in (ticket_body c.args.ticket.now)) c.in_err-check_read.ensures (number_not_0 e)

pub fields-requires : goal.fields-requires
unfolding ticket_read_rows
fields-requires c =
    let args = c.args in
    (ticket_accepted last_clock args.key.now args.ticket.now (none_refused _ _ _ (sym c.in_ok-check_read.ensures)).behind).size

pub returns : goal.returns
unfolding ticket_read
returns c = ap (ticket_given 0) c.fields.ensures ∙ beside_none ticket_given no_ticket _ _ _ c.in_ok-check_read.ensures refl
