-- `cache::holds_around` meets its contract: the first entries and the rest are checked by one call each.
use Rattle.std.proofs.Common.{◌≡◌, true, false, take, sym, ap, ◌∙◌, arith}
use Rattle.cache.specs.Cache.{count_of, clock_of, size_of, entries}
use Rattle.cache.specs.Check.{is_in_order}
use Rattle.cache.proofs.Check.{HeadFacts, head_facts, first_room, first_entries, in_rest}
use Rattle.cache.proofs.holds_around.Goals as goal
use Rattle.cache.proofs.holds_around.Goals.{After-in_order, After-slot_at-behind, Start}

facts : (c : goal.Start) → HeadFacts c.args.shape c.args.cache.now
facts c = head_facts c.args.shape c.args.cache.now c.requires.sound.0 c.requires.sound.1

pub in_order-requires : goal.in_order-requires
in_order-requires c =
    let a = c.args in
    (omega (arith, c.width.ensures), first_room a.shape a.n a.cache.now (facts (goal.at.in_order-requires c).Start) c.requires.n_bound c.width.result _ c.width.ensures c.stored_from-first.ensures)

ordered : (c : goal.After-in_order) → let a = c.args in
    c.in_order.result ≡ is_in_order a.shape.kinds (clock_of a.cache.now) 0 (take a.n (entries a.shape a.cache.now))
ordered c =
    let a = c.args in
    c.in_order.ensures
    ∙ rw (← c.clock-latest.ensures)
    (ap (is_in_order a.shape.kinds c.clock-latest.result 0)
    (first_entries a.shape a.n a.cache.now (facts (goal.at.After-in_order c).Start) c.requires.n_bound c.width.result _ c.width.ensures c.stored_from-first.ensures))

pub returns-then-not-in_order : goal.returns-then-not-in_order
returns-then-not-in_order c =
    let a = c.args in
    let h : is_in_order a.shape.kinds (clock_of a.cache.now) 0 (take a.n (entries a.shape a.cache.now)) ≡ false = sym (ordered (goal.at.returns-then-not-in_order c).After-in_order) ∙ c.if-not-in_order.true in
    rw h

-- where the last entry ends
ends : (c : goal.After-slot_at-behind) → let a = c.args in c.slot_at-behind.result ≡ size_of a.shape (count_of a.cache.now)
ends c = c.slot_at-behind.ensures ∙ ap (size_of c.args.shape) c.count.ensures

pub returns : goal.returns
returns c =
    let a = c.args in
    let o : is_in_order a.shape.kinds (clock_of a.cache.now) 0 (take a.n (entries a.shape a.cache.now)) ≡ true = sym (ordered (goal.at.returns c).After-in_order) ∙ c.if-not-in_order.false in
    rw o (in_rest a.shape a.cache.now c.slot_at-behind.result c.is_zero.result (ends (goal.at.returns c).After-slot_at-behind) c.is_zero.ensures)
