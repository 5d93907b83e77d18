-- `answers::records::write_ask` meets its contract.
use Rattle.answers.proofs.Bodies.{ask_laid}
use Rattle.answers.specs.Records.{ask_written}
use Rattle.record.specs.Refusals.{refusal, replied, reply}
use borrow.Author.Tests.{eq-eqb, ne_eqb}
use mathlib.Core.Path.{ap, ◌∙◌}
use Rattle.answers.proofs.records.write_ask.Goals as goal

pub returns-then-out-ne-ASK : goal.returns-then-out-ne-ASK
unfolding ask_written refusal replied
returns-then-out-ne-ASK c = simp (ne_eqb _ _ c.if-out-ne-ASK.true)

pub returns-then-body-ne-AD_BODY : goal.returns-then-body-ne-AD_BODY
unfolding ask_written refusal replied
returns-then-body-ne-AD_BODY c = simp (eq-eqb _ _ c.if-out-ne-ASK.false, ne_eqb _ _ c.if-body-ne-AD_BODY.true)

pub returns : goal.returns
unfolding ask_written refusal replied
returns c =
    let a = c.args in
    let out = c.if-out-ne-ASK.false in
    let body = c.if-body-ne-AD_BODY.false in
    simp (eq-eqb _ _ out, eq-eqb _ _ body)
    (ap (reply 0) (c.fill_request.ensures ∙ ask_laid a.clock a.vouched a.body.now a.out.now out body))
