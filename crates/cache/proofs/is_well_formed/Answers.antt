-- `cache::is_well_formed` meets its contract: the head, the entries and the rest are checked by one call each, and together these are the definition.
use Rattle.std.proofs.Common.{◌≡◌, true, false, sym, ap, ◌∙◌, zero-le, arith}
use Rattle.octets.proofs.Runs.{both_false}
use Rattle.cache.specs.Cache.{count_of, clock_of, size_of, entries}
use Rattle.cache.specs.Check.{head_holds, is_in_order}
use Rattle.cache.proofs.Check.{HeadFacts, head_facts, check_parts, stored_room, stored_entries, in_rest}
use Rattle.cache.proofs.is_well_formed.Goals as goal
use Rattle.cache.proofs.is_well_formed.Goals.{After-in_order, After-slot_at-end, Else-not-head_holds}

-- the head holds, and what follows from that
held : (c : goal.Else-not-head_holds) → let a = c.args in head_holds a.shape a.cache.now ≡ true
held c = sym c.head_holds.ensures ∙ c.if-not-head_holds.false

facts : (c : goal.Else-not-head_holds) → let a = c.args in HeadFacts a.shape a.cache.now
facts c = head_facts c.args.shape c.args.cache.now c.requires (held c)

pub returns-then-not-head_holds : goal.returns-then-not-head_holds
returns-then-not-head_holds c =
    let a = c.args in
    let h : head_holds a.shape a.cache.now ≡ false = sym c.head_holds.ensures ∙ c.if-not-head_holds.true in
    rw (check_parts, h)

pub in_order-requires : goal.in_order-requires
in_order-requires c =
    let a = c.args in (
      omega (arith, c.width.ensures),
      stored_room a.shape 0 a.cache.now (facts (goal.at.in_order-requires c).Else-not-head_holds) zero-le c.width.result c.count-n.result _ c.width.ensures (omega (arith, c.count-n.ensures)) c.stored_from-stored.ensures,
    )

ordered : (c : goal.After-in_order) → let a = c.args in
    c.in_order.result ≡ is_in_order a.shape.kinds (clock_of a.cache.now) 0 (entries a.shape a.cache.now)
ordered c =
    let a = c.args in
    c.in_order.ensures
    ∙ rw (← c.clock-last.ensures)
    (ap (is_in_order a.shape.kinds c.clock-last.result 0)
    (stored_entries a.shape 0 a.cache.now (facts (goal.at.After-in_order c).Else-not-head_holds) zero-le c.width.result c.count-n.result _ c.width.ensures (omega (arith, c.count-n.ensures)) c.stored_from-stored.ensures))

pub returns-then-not-in_order : goal.returns-then-not-in_order
returns-then-not-in_order c =
    let a = c.args in
    let h : is_in_order a.shape.kinds (clock_of a.cache.now) 0 (entries a.shape a.cache.now) ≡ false = sym (ordered (goal.at.returns-then-not-in_order c).After-in_order) ∙ c.if-not-in_order.true in
    rw (check_parts, h, both_false)

-- where the last entry ends
ends : (c : goal.After-slot_at-end) → let a = c.args in c.slot_at-end.result ≡ size_of a.shape (count_of a.cache.now)
ends c = c.slot_at-end.ensures ∙ ap (size_of c.args.shape) c.count-n.ensures

pub returns : goal.returns
returns c =
    let a = c.args in
    let o : is_in_order a.shape.kinds (clock_of a.cache.now) 0 (entries a.shape a.cache.now) ≡ true = sym (ordered (goal.at.returns c).After-in_order) ∙ c.if-not-in_order.false in
    rw (check_parts, held (goal.at.returns c).Else-not-head_holds, o) (in_rest a.shape a.cache.now c.slot_at-end.result c.is_zero.result (ends (goal.at.returns c).After-slot_at-end) c.is_zero.ensures)
