-- `visits::ad_of_visit` meets its contract.
use mathlib.Core.Path.{refl, ◌∙◌}
use native.Mathlib.Omega.{arith}
use lib.ListN.{replicate}
use Rattle.record.specs.Layout.{ad_kind, address_size, ad_size, body_size, visit_body_at}
use Rattle.answers.proofs.Bodies.{body_laid}
use Rattle.visits.proofs.ad_of_visit.Goals as goal

pub returns : goal.returns
returns c =
    c.copy.ensures ∙ body_laid ad_kind visit_body_at (body_size address_size) (replicate (ad_size address_size) 0) c.args.event.now refl (omega (arith, c.requires))
