-- `answers::records::size` meets its contract.
use borrow.Author.Tests.{eq-eqb, ne_eqb}
use Rattle.answers.specs.Records.{record_size}
use Rattle.answers.proofs.records.size.Goals as goal

pub returns-then-kind-eq-ASK_KIND : goal.returns-then-kind-eq-ASK_KIND
unfolding record_size
returns-then-kind-eq-ASK_KIND c = simp (eq-eqb _ _ c.if-kind-eq-ASK_KIND.true)

pub returns-then-kind-eq-RETURN_KIND : goal.returns-then-kind-eq-RETURN_KIND
unfolding record_size
returns-then-kind-eq-RETURN_KIND c = simp (ne_eqb _ _ c.if-kind-eq-ASK_KIND.false, eq-eqb _ _ c.if-kind-eq-RETURN_KIND.true)

pub returns-then-kind-eq-LIST_KIND : goal.returns-then-kind-eq-LIST_KIND
unfolding record_size
returns-then-kind-eq-LIST_KIND c = simp (ne_eqb _ _ c.if-kind-eq-ASK_KIND.false, ne_eqb _ _ c.if-kind-eq-RETURN_KIND.false, eq-eqb _ _ c.if-kind-eq-LIST_KIND.true)

pub returns : goal.returns
unfolding record_size
returns c = simp (ne_eqb _ _ c.if-kind-eq-ASK_KIND.false, ne_eqb _ _ c.if-kind-eq-RETURN_KIND.false, ne_eqb _ _ c.if-kind-eq-LIST_KIND.false)
