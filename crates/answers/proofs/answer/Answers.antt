-- `answers::answer` meets its contract.
use Rattle.answers.proofs.Answering.{size_list, step_ask, step_return, step_list, list_keeps}
use native.Mathlib.Omega.{arith}
use mathlib.Core.Path.{sym, ap, ◌∙◌}
use Rattle.answers.specs.Records.{record_size}
use Rattle.answers.proofs.answer.Goals as goal

pub register-requires : goal.register-requires
unfolding record_size
register-requires c =
    let e = c.requires.event_len.0 ∙ ap record_size c.if-kind-eq-ASK_KIND.true in
    (omega arith, omega (arith, c.requires.longest_line_in_bounds))

pub returns-then-kind-eq-ASK_KIND : goal.returns-then-kind-eq-ASK_KIND
returns-then-kind-eq-ASK_KIND c = rw (step_ask _ _ _ c.if-kind-eq-ASK_KIND.true) c.register.ensures

pub ticket_of_record-ticket-requires : goal.ticket_of_record-ticket-requires
unfolding record_size
ticket_of_record-ticket-requires c =
    let e = c.requires.event_len.0 ∙ ap record_size c.if-kind-eq-RETURN_KIND.true in
    omega arith

pub register-requires-then-kind-eq-RETURN_KIND : goal.register-requires-then-kind-eq-RETURN_KIND
unfolding record_size
register-requires-then-kind-eq-RETURN_KIND c =
    let e = c.requires.event_len.0 ∙ ap record_size c.if-kind-eq-RETURN_KIND.true in
    (omega arith, omega (arith, c.requires.longest_line_in_bounds))

pub returns-then-kind-eq-RETURN_KIND : goal.returns-then-kind-eq-RETURN_KIND
returns-then-kind-eq-RETURN_KIND c = rw (step_return _ _ _ c.if-kind-eq-ASK_KIND.false c.if-kind-eq-RETURN_KIND.true, ← c.ticket_of_record-ticket.ensures) c.register-then-kind-eq-RETURN_KIND.ensures

pub list-requires : goal.list-requires
list-requires c =
    (c.requires.event_len.0 ∙ size_list _ c.if-kind-eq-ASK_KIND.false c.if-kind-eq-RETURN_KIND.false (omega arith), omega (arith, c.requires.longest_line_in_bounds))

pub returns : goal.returns
returns c = rw (step_list _ _ _ c.if-kind-eq-ASK_KIND.false c.if-kind-eq-RETURN_KIND.false) (record { wrote = c.list.ensures; caches = sym (list_keeps _ _) })
