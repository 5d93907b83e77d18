-- `cache::gone` meets its contract: all entries are lent, and those at the front that are expired counted.
use Rattle.std.proofs.Common.{ap, ◌∙◌, zero-le, arith}
use Rattle.cache.specs.Expiry.{gone}
use Rattle.cache.proofs.Check.{HeadFacts, head_facts, stored_room, stored_entries}
use Rattle.cache.proofs.gone.Goals as goal
use Rattle.cache.proofs.gone.Goals.{Start}

facts : (c : goal.Start) → HeadFacts c.args.shape c.args.cache.now
facts c = head_facts c.args.shape c.args.cache.now c.requires.0 c.requires.1

pub count_gone-requires : goal.count_gone-requires
count_gone-requires c = (
  omega (arith, c.width.ensures),
  stored_room c.args.shape 0 c.args.cache.now (facts (goal.at.count_gone-requires c).Start) zero-le c.width.result c.count.result _ c.width.ensures (omega (arith, c.count.ensures)) c.stored_from-stored.ensures,
)

pub returns : goal.returns
returns c =
    c.count_gone.ensures
    ∙ ap (gone c.args.clock)
    (stored_entries c.args.shape 0 c.args.cache.now (facts (goal.at.returns c).Start) zero-le c.width.result c.count.result _ c.width.ensures (omega (arith, c.count.ensures)) c.stored_from-stored.ensures)
