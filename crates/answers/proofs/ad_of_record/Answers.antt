-- `answers::ad_of_record` meets its contract.
use lib.ListN.{replicate}
use Rattle.record.specs.Layout.{ad_kind, address_size, ad_size}
use Rattle.answers.specs.Records.{ask_body_at, ad_body_size}
use Rattle.answers.proofs.Bodies.{body_laid}
use mathlib.Core.Path.{refl, ◌∙◌}
use Rattle.answers.proofs.ad_of_record.Goals as goal

pub returns : goal.returns
returns c = c.copy.ensures ∙ body_laid ad_kind ask_body_at ad_body_size (replicate (ad_size address_size) 0) c.args.event.now refl c.requires
