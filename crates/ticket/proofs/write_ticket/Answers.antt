-- `ticket::write_ticket` meets its contract.
use mathlib.Core.Path.{refl, ap, ◌∙◌}
use mathlib.Core.List.{List}
use Prim.Native.Nat.{ℕ}
use native.Mathlib.Omega.{arith}
use Rattle.octets.proofs.Runs.{part_all}
use Rattle.record.specs.Layout.{hash_size}
use Rattle.ticket.specs.Tickets.{ticket_written, ticket_fields, ticket_of}
use Rattle.record.proofs.Refusals.{replied_err, replied_ok}
use Rattle.ticket.proofs.Tickets.{Writable, writable}
use Rattle.ticket.proofs.write_ticket.Goals as goal
use Rattle.ticket.proofs.write_ticket.Goals.{In_ok-check_fields}

pub returns-in_err-check_fields : goal.returns-in_err-check_fields
unfolding ticket_written
returns-in_err-check_fields c = replied_err c.from_residual.result _ _ _ _ c.from_residual.ensures.1 c.in_err-check_fields.ensures

fits : (c : goal.In_ok-check_fields) → let a = c.args in Writable a.key.now a.out.now (ticket_fields a.hash.now a.first a.issued a.wait)
fits c = writable _ _ _ 0 c.in_ok-check_fields.ensures refl

pub array-requires : goal.array-requires
array-requires c = let l = (fits (goal.at.array-requires c).In_ok-check_fields).sized in omega arith

pub fill_ticket-requires : goal.fill_ticket-requires
fill_ticket-requires c = (fits (goal.at.fill_ticket-requires c).In_ok-check_fields).size

pub returns : goal.returns
unfolding ticket_written
returns c =
    let args = c.args in
    let whole = c.array.ensures ∙ part_all hash_size args.hash.now (fits (goal.at.returns c).In_ok-check_fields).sized in
    replied_ok _ _ _ _ c.in_ok-check_fields.ensures
    (c.fill_ticket.ensures args.key.now c.key_states-states.ensures
    ∙ ap (λ (l : List ℕ). ticket_of args.key.now (ticket_fields l args.first args.issued args.wait)) whole)
