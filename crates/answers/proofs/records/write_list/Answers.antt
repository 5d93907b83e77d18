-- `answers::records::write_list` meets its contract.
use Rattle.answers.proofs.Bodies.{list_laid}
use Rattle.answers.specs.Records.{list_service_at, list_written}
use Rattle.record.specs.Refusals.{refusal, replied, reply}
use Rattle.octets.specs.Runs.{put}
use borrow.Author.Tests.{eq-eqb, ne_eqb}
use lib.ListN.{length-set}
use native.Mathlib.Omega.{arith}
use mathlib.Core.Path.{ap, ◌∙◌}
use Rattle.answers.proofs.records.write_list.Goals as goal

pub returns-then-out-ne-LIST_SIZE : goal.returns-then-out-ne-LIST_SIZE
unfolding list_written refusal replied
returns-then-out-ne-LIST_SIZE c = simp (ne_eqb _ _ c.if-out-ne-LIST_SIZE.true)

pub returns-then-service-ne-IDENTIFIER_SIZE : goal.returns-then-service-ne-IDENTIFIER_SIZE
unfolding list_written refusal replied
returns-then-service-ne-IDENTIFIER_SIZE c = simp (eq-eqb _ _ c.if-out-ne-LIST_SIZE.false, ne_eqb _ _ c.if-service-ne-IDENTIFIER_SIZE.true)

pub write_u64-requires : goal.write_u64-requires
write_u64-requires c = simp length-set (omega arith)

pub copy-requires : goal.copy-requires
copy-requires c =
    let l = simp length-set at c.write_u64.auto.s in
    omega arith

pub returns : goal.returns
unfolding list_written refusal replied
returns c =
    let a = c.args in
    let out = c.if-out-ne-LIST_SIZE.false in
    let service = c.if-service-ne-IDENTIFIER_SIZE.false in
    simp (eq-eqb _ _ out, eq-eqb _ _ service)
    (ap (reply 0) (c.copy.ensures ∙ ap (put list_service_at a.service.now) c.write_u64.ensures ∙ list_laid a.clock a.service.now a.out.now out service))
