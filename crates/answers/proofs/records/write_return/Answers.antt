-- `answers::records::write_return` meets its contract.
use Rattle.answers.proofs.Bodies.{return_laid}
use Rattle.answers.specs.Records.{ask_size, return_written}
use Rattle.record.specs.Refusals.{refusal, replied, reply}
use Rattle.octets.specs.Runs.{put}
use borrow.Author.Tests.{eq-eqb, ne_eqb}
use mathlib.Core.Path.{ap, ◌∙◌}
use Rattle.answers.proofs.records.write_return.Goals as goal

pub returns-then-out-ne-RETURN : goal.returns-then-out-ne-RETURN
unfolding return_written refusal replied
returns-then-out-ne-RETURN c = simp (ne_eqb _ _ c.if-out-ne-RETURN.true)

pub returns-then-body-ne-AD_BODY : goal.returns-then-body-ne-AD_BODY
unfolding return_written refusal replied
returns-then-body-ne-AD_BODY c = simp (eq-eqb _ _ c.if-out-ne-RETURN.false, ne_eqb _ _ c.if-body-ne-AD_BODY.true)

pub returns-then-ticket-ne-TICKET_BODY_SIZE : goal.returns-then-ticket-ne-TICKET_BODY_SIZE
unfolding return_written refusal replied
returns-then-ticket-ne-TICKET_BODY_SIZE c = simp (eq-eqb _ _ c.if-out-ne-RETURN.false, eq-eqb _ _ c.if-body-ne-AD_BODY.false, ne_eqb _ _ c.if-ticket-ne-TICKET_BODY_SIZE.true)

pub returns : goal.returns
unfolding return_written refusal replied
returns c =
    let a = c.args in
    let out = c.if-out-ne-RETURN.false in
    let body = c.if-body-ne-AD_BODY.false in
    let ticket = c.if-ticket-ne-TICKET_BODY_SIZE.false in
    simp (eq-eqb _ _ out, eq-eqb _ _ body, eq-eqb _ _ ticket)
    (ap (reply 0) (c.copy.ensures ∙ ap (put ask_size a.ticket.now) c.fill_request.ensures ∙ return_laid a.clock a.vouched a.body.now a.ticket.now a.out.now out body ticket))
