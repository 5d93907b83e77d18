-- `checks::check_return` meets its contract: the ticket's own rows, then 10 and 11 for the ad's hash.
use mathlib.Core.Path.{◌≡◌, refl, sym, ap, ◌∙◌}
use native.Mathlib.Omega.{arith}
use Rattle.std.specs.Prelude.{Some}
use Rattle.sha256.proofs.Sizes.{length_digest}
use Rattle.record.specs.Refusals.{refusal}
use Rattle.record.proofs.Refusals.{number_not_0}
use Rattle.record.proofs.Segments.{first_rows, told_first, told_next}
use Rattle.ticket.specs.Tickets.{ticket_rows}
use Rattle.ticket.proofs.Tickets.{AcceptedTicket, ticket_accepted, unformed}
use Rattle.checks.specs.Rows.{return_rows}
use Rattle.checks.proofs.Rows.{ticket_numbered, verdict_handed}
use Rattle.checks.proofs.check_return.Goals as goal
use Rattle.checks.proofs.check_return.Goals.{In_ok-check_ticket}

pub returns-then-not-is_formed : goal.returns-then-not-is_formed
unfolding return_rows
returns-then-not-is_formed c =
    let a = c.args in
    let r = unformed a.clock a.key.now a.ticket.now (sym c.is_formed.ensures ∙ c.if-not-is_formed.true) in
    record { number = sym (first_rows _ _ (λ z. omega (arith, r, z)) ∙ r); passed = tt }

pub returns-in_err-check_ticket : goal.returns-in_err-check_ticket
unfolding return_rows
returns-in_err-check_ticket c =
    let e = c.in_err-check_ticket.field-0.0 in
    verdict_handed c.from_residual.result e c.from_residual.ensures.1 (told_first _ _ (c.in_err-check_ticket.ensures c.args.key.now c.key_states-states.ensures) (number_not_0 e))

-- the ticket passes it
checked : (c : goal.In_ok-check_ticket) → let a = c.args in 0 ≡ refusal (ticket_rows a.clock a.key.now a.ticket.now)
checked c = c.in_ok-check_ticket.ensures c.args.key.now c.key_states-states.ensures

accepted : (c : goal.In_ok-check_ticket) → let a = c.args in AcceptedTicket a.clock a.key.now a.ticket.now
accepted c =
    let a = c.args in
    ticket_accepted a.clock a.key.now a.ticket.now (sym (checked c))

pub check_bound-requires : goal.check_bound-requires
check_bound-requires c =
    let t = accepted (goal.at.check_bound-requires c).In_ok-check_ticket in
    record { ticket_len = (t.size, rw c.ad_hash-hash.ensures (length_digest _)); clock_le_last_clock = c.requires; ticket_value = t.times }

pub returns-in_err-check_bound : goal.returns-in_err-check_bound
unfolding return_rows
returns-in_err-check_bound c =
    let a = c.args in
    verdict_handed c.from_residual-in_err-check_bound.result _ c.from_residual-in_err-check_bound.ensures.1
    (told_next (ticket_rows a.clock a.key.now a.ticket.now) _ (ticket_numbered a.clock a.key.now a.ticket.now) (checked (goal.at.returns-in_err-check_bound c).In_ok-check_ticket) refl
    (rw c.ad_hash-hash.ensures at c.in_err-check_bound.ensures))

pub read_first-first-requires : goal.read_first-first-requires
read_first-first-requires c = (accepted (goal.at.read_first-first-requires c).In_ok-check_ticket).size

pub returns : goal.returns
unfolding return_rows
returns c =
    let a = c.args in
    record {
      number = told_next (ticket_rows a.clock a.key.now a.ticket.now) _ (ticket_numbered a.clock a.key.now a.ticket.now) (checked (goal.at.returns c).In_ok-check_ticket) refl
          (rw c.ad_hash-hash.ensures at c.in_ok-check_bound.ensures);
      passed = record { counted = refl; asked = c.read_first-first.ensures; hashed = c.ad_hash-hash.ensures; keyed = ap Some c.key_states-states.ensures };
    }
