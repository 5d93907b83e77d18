-- `ticket::check_fields` meets its contract: a row of the table for each test.
use mathlib.Core.Path.{sym, ◌∙◌}
use borrow.Author.Tests.{eq-eqb, ne_eqb}
use Rattle.record.specs.Refusals.{refusal}
use Rattle.ticket.specs.Tickets.{ticket_write_rows}
use Rattle.ticket.proofs.check_fields.Goals as goal

pub returns-then-key-ne-KEY_SIZE : goal.returns-then-key-ne-KEY_SIZE
unfolding refusal ticket_write_rows
returns-then-key-ne-KEY_SIZE c = simp (ne_eqb _ _ c.if-key-ne-KEY_SIZE.true)

pub returns-then-out-ne-TICKET_SIZE : goal.returns-then-out-ne-TICKET_SIZE
unfolding refusal ticket_write_rows
returns-then-out-ne-TICKET_SIZE c = simp (eq-eqb _ _ c.if-key-ne-KEY_SIZE.false, ne_eqb _ _ c.if-out-ne-TICKET_SIZE.true)

pub returns-then-hash-ne-HASH_SIZE : goal.returns-then-hash-ne-HASH_SIZE
unfolding refusal ticket_write_rows
returns-then-hash-ne-HASH_SIZE c = simp (eq-eqb _ _ c.if-key-ne-KEY_SIZE.false, eq-eqb _ _ c.if-out-ne-TICKET_SIZE.false, ne_eqb _ _ c.if-hash-ne-HASH_SIZE.true)

pub returns-then-not-is_timely : goal.returns-then-not-is_timely
unfolding refusal ticket_write_rows
returns-then-not-is_timely c = simp (eq-eqb _ _ c.if-key-ne-KEY_SIZE.false, eq-eqb _ _ c.if-out-ne-TICKET_SIZE.false, eq-eqb _ _ c.if-hash-ne-HASH_SIZE.false, sym c.is_timely.ensures ∙ c.if-not-is_timely.true)

pub returns : goal.returns
unfolding refusal ticket_write_rows
returns c = simp (eq-eqb _ _ c.if-key-ne-KEY_SIZE.false, eq-eqb _ _ c.if-out-ne-TICKET_SIZE.false, eq-eqb _ _ c.if-hash-ne-HASH_SIZE.false, sym c.is_timely.ensures ∙ c.if-not-is_timely.false)
