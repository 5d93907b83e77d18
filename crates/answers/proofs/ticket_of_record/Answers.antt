-- `answers::ticket_of_record` meets its contract.
use lib.ListN.{replicate}
use Rattle.record.specs.Layout.{ticket_kind, ticket_size}
use Rattle.answers.specs.Records.{ask_size, ticket_body_size}
use Rattle.answers.proofs.Bodies.{body_laid}
use mathlib.Core.Path.{refl, ◌∙◌}
use Rattle.answers.proofs.ticket_of_record.Goals as goal

pub returns : goal.returns
returns c = c.copy.ensures ∙ body_laid ticket_kind ask_size ticket_body_size (replicate ticket_size 0) c.args.event.now refl c.requires
