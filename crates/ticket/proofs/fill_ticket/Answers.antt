-- `ticket::fill_ticket` meets its contract: the tag is of what was written, and stands behind it.
use mathlib.Core.Path.{◌≡◌, ap, ◌∙◌}
use lib.ListN.{length}
use Rattle.octets.specs.Runs.{part, put}
use Rattle.record.specs.Layout.{hash_size, tagged_size}
use Rattle.ticket.proofs.Tickets.{ticket_laid}
use Rattle.sha256.proofs.Masking.{tag_by_lem}
use borrow.Author.Rules.{rules}
use Rattle.ticket.proofs.fill_ticket.Goals as goal
use Rattle.ticket.proofs.fill_ticket.Goals.{Start}

-- the hash has its length
sized : (s : goal.Start) → length s.args.ticket.now.hash ≡ hash_size
sized s = search rules

pub returns : goal.returns
unfolding part
returns c key e =
    let p = c.requires in
    let args = c.args in
    let t = args.ticket.now in
    c.copy.ensures
    ∙ ap (λ m. put tagged_size m c.fill_tagged.new.out) (tag_by_lem key _ _ _ e c.tag-tag.ensures)
    ∙ ticket_laid key t args.out.now c.fill_tagged.new.out (sized (goal.at.returns c).Start) p c.fill_tagged.ensures
