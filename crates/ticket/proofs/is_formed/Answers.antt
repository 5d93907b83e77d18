-- `ticket::is_formed` meets its contract.
use borrow.Author.Tests.{eq-eqb, ne_eqb}
use Rattle.ticket.specs.Tickets.{is_formed}
use Rattle.ticket.proofs.is_formed.Goals as goal

pub returns-then-ticket-eq-TICKET_SIZE : goal.returns-then-ticket-eq-TICKET_SIZE
unfolding is_formed
returns-then-ticket-eq-TICKET_SIZE c = simp (eq-eqb _ _ c.if-ticket-eq-TICKET_SIZE.true)

pub returns-else-ticket-eq-TICKET_SIZE : goal.returns-else-ticket-eq-TICKET_SIZE
unfolding is_formed
returns-else-ticket-eq-TICKET_SIZE c = simp (ne_eqb _ _ c.if-ticket-eq-TICKET_SIZE.false)
