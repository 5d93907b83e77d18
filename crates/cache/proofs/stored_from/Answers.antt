-- `cache::stored_from` meets its contract: what lies between two slots is lent.
use Rattle.std.proofs.Common.{◌≡◌, ap, ◌∙◌}
use Rattle.cache.specs.Cache.{count_of, size_of}
use Rattle.cache.proofs.Check.{HeadFacts, head_facts, stored_lent}
use Rattle.cache.proofs.stored_from.Goals as goal
use Rattle.cache.proofs.stored_from.Goals.{After-slot_at-end, Start}

facts : (c : goal.Start) → HeadFacts c.args.shape c.args.cache.now
facts c = head_facts c.args.shape c.args.cache.now c.requires.sound.0 c.requires.sound.1

-- the last entry's end
ends : (c : goal.After-slot_at-end) → let a = c.args in c.slot_at-end.result ≡ size_of a.shape (count_of a.cache.now)
ends c = c.slot_at-end.ensures ∙ ap (size_of c.args.shape) c.count.ensures

pub returns : goal.returns
returns c = stored_lent c.args.shape c.args.index c.args.cache.now (facts (goal.at.returns c).Start) c.requires.index_bound _ _ c.slot_at-at.ensures (ends (goal.at.returns c).After-slot_at-end)
