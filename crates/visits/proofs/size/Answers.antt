-- `visits::size` meets its contract.
use borrow.Author.Tests.{eq-eqb, ne_eqb}
use Rattle.record.specs.Layout.{visit_kind, revisit_kind}
use Rattle.visits.specs.Visits.{record_size}
use Rattle.visits.proofs.size.Goals as goal

pub returns-then-kind-eq-VISIT_KIND : goal.returns-then-kind-eq-VISIT_KIND
unfolding record_size
returns-then-kind-eq-VISIT_KIND c = rw (eq-eqb c.args.kind visit_kind c.if-kind-eq-VISIT_KIND.true)

pub returns-then-kind-eq-REVISIT_KIND : goal.returns-then-kind-eq-REVISIT_KIND
unfolding record_size
returns-then-kind-eq-REVISIT_KIND c = rw (ne_eqb c.args.kind visit_kind c.if-kind-eq-VISIT_KIND.false, eq-eqb c.args.kind revisit_kind c.if-kind-eq-REVISIT_KIND.true)

pub returns : goal.returns
unfolding record_size
returns c = rw (ne_eqb c.args.kind visit_kind c.if-kind-eq-VISIT_KIND.false, ne_eqb c.args.kind revisit_kind c.if-kind-eq-REVISIT_KIND.false)
