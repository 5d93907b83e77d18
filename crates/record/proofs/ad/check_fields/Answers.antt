-- `record::ad::check_fields` meets its contract: a row of the table for each test.
use mathlib.Core.Path.{sym, ◌∙◌}
use borrow.Author.Tests.{eq-eqb, ne_eqb}
use Rattle.record.specs.Refusals.{refusal}
use Rattle.record.specs.Ads.{ad_write_rows}
use Rattle.record.proofs.Refusals.{passed, agree}
use Rattle.record.proofs.ad.check_fields.Goals as goal

pub returns-then-out-a : goal.returns-then-out-a
unfolding refusal ad_write_rows
returns-then-out-a c = simp (ne_eqb _ _ c.if-out-a.true)

pub returns-then-service-ne-IDENTIFIER_SIZE : goal.returns-then-service-ne-IDENTIFIER_SIZE
unfolding refusal ad_write_rows
returns-then-service-ne-IDENTIFIER_SIZE c = simp (eq-eqb _ _ c.if-out-a.false, ne_eqb _ _ c.if-service-ne-IDENTIFIER_SIZE.true)

pub returns-then-peer-ne-IDENTIFIER_SIZE : goal.returns-then-peer-ne-IDENTIFIER_SIZE
unfolding refusal ad_write_rows
returns-then-peer-ne-IDENTIFIER_SIZE c = simp (eq-eqb _ _ c.if-out-a.false, eq-eqb _ _ c.if-service-ne-IDENTIFIER_SIZE.false, ne_eqb _ _ c.if-peer-ne-IDENTIFIER_SIZE.true)

pub returns-then-address-a : goal.returns-then-address-a
unfolding refusal ad_write_rows
returns-then-address-a c = simp (eq-eqb _ _ c.if-out-a.false, eq-eqb _ _ c.if-service-ne-IDENTIFIER_SIZE.false, eq-eqb _ _ c.if-peer-ne-IDENTIFIER_SIZE.false, ne_eqb _ _ c.if-address-a.true)

pub returns-then-signature-ne-SIGNATURE_SIZE : goal.returns-then-signature-ne-SIGNATURE_SIZE
unfolding refusal ad_write_rows
returns-then-signature-ne-SIGNATURE_SIZE c = simp (eq-eqb _ _ c.if-out-a.false, eq-eqb _ _ c.if-service-ne-IDENTIFIER_SIZE.false, eq-eqb _ _ c.if-peer-ne-IDENTIFIER_SIZE.false, eq-eqb _ _ c.if-address-a.false, ne_eqb _ _ c.if-signature-ne-SIGNATURE_SIZE.true)

-- the rows above have failed, so the port's decides
pub returns : goal.returns
unfolding ad_write_rows
returns c =
    c.check_port.ensures
    ∙ sym (passed 2 _ (agree _ _ c.if-out-a.false) ∙ passed 2 _ (agree _ _ c.if-service-ne-IDENTIFIER_SIZE.false)
    ∙ passed 2 _ (agree _ _ c.if-peer-ne-IDENTIFIER_SIZE.false) ∙ passed 2 _ (agree _ _ c.if-address-a.false) ∙ passed 2 _ (agree _ _ c.if-signature-ne-SIGNATURE_SIZE.false))
