use Rattle.std.proofs.Common.{◌≡◌, ◌+◌, ◌*◌, ◌<◌, ◌≤◌, length, sym, ◌∙◌, arith}
use Rattle.octets.proofs.Runs.{length_part, lent_part}
use Rattle.record.specs.Layout.{bound_size, pair_at, pair_size}
use Rattle.bounds.specs.Bounds.{most_bounds}
use Rattle.bounds.specs.Hashing.{slots, slot_of}
use Rattle.bounds.specs.Chains.{pair_of}
use Rattle.bounds.proofs.Records.{next_within, next_all}
use Rattle.bounds.proofs.Passed.{passed_start, passed_all, until_next, late_refused, slot_is, slot_in, chained, twice_refused, passed_next}
use Rattle.bounds.proofs.Noted.{noted_start, noted_next, told_wrong, told_all, lent_pair}
use Rattle.bounds.proofs.once.walk.Goals as goal
use Rattle.bounds.proofs.once.walk.Goals.{After-slot_of-slot, Else-is_chained, In-loop-i}

-- the next record lies within the bounds
room : (c : goal.In-loop-i) → let a = c.args in bound_size a.address * c.loop-i.i + bound_size a.address ≤ length a.bounds.now
room c =
    let a = c.args in
    next_within (bound_size a.address) c.loop-i.i a.n (length a.bounds.now) (omega arith) c.requires.2

pub returns-then-until-gt-LAST_UNTIL : goal.returns-then-until-gt-LAST_UNTIL
returns-then-until-gt-LAST_UNTIL c =
    let a = c.args in
    let l = c.loop-i in
    told_wrong _ _ _ _
    (late_refused a.address a.bounds.now _ a.n l.i l.heads l.nexts l.invariant.0 (omega arith) c.read_u64-until.result c.read_u64-until.ensures c.if-until-gt-LAST_UNTIL.true)

pub first_of-index-requires : goal.first_of-index-requires
first_of-index-requires c =
    let a = c.args in
    let r = room (goal.at.first_of-index-requires c).In-loop-i in
    let l = length_part (bound_size a.address * c.loop-i.i + pair_at) (pair_size a.address) a.bounds.now (omega arith) in
    rw lent_part (l ∙ sym c.requires.3, omega (arith, c.requires.3))

pub slot_of-slot-requires : goal.slot_of-slot-requires
slot_of-slot-requires c =
    let a = c.args in
    let r = room (goal.at.slot_of-slot-requires c).In-loop-i in
    let l = length_part (bound_size a.address * c.loop-i.i + pair_at) (pair_size a.address) a.bounds.now (omega arith) in
    rw lent_part (omega arith)

-- the slot of the next record
here : (c : goal.After-slot_of-slot) → let a = c.args in slot_of c.keys_of-keys.result (pair_of a.address a.bounds.now (c.loop-i.i + 1)) ≡ c.slot_of-slot.result
here c =
    let a = c.args in
    let l = c.loop-i in
    slot_is a.address a.bounds.now _ a.n l.i l.heads l.nexts l.invariant.0 (omega arith) c.slot_of-slot.result c.slot_of-slot.ensures

below : (c : goal.After-slot_of-slot) → c.slot_of-slot.result < slots
below c =
    let a = c.args in
    let l = c.loop-i in
    slot_in a.address a.bounds.now _ a.n l.i l.heads l.nexts l.invariant.0 (omega arith) c.slot_of-slot.result (here c)

pub is_chained-requires : goal.is_chained-requires
is_chained-requires c =
    let a = c.args in
    let l = c.loop-i in
    let r = room (goal.at.is_chained-requires c).In-loop-i in
    record { address_le_address_size_v6 = (omega arith, omega arith, next_all (bound_size a.address) l.i a.n (length a.bounds.now) (omega arith) c.requires.2); chained = chained a.address a.bounds.now _ a.n l.i l.heads l.nexts l.invariant.0 (omega arith) c.slot_of-slot.result (here (goal.at.is_chained-requires c).After-slot_of-slot) }

pub returns-then-is_chained : goal.returns-then-is_chained
returns-then-is_chained c =
    let a = c.args in
    let l = c.loop-i in
    told_wrong _ _ _ _
    (twice_refused a.address a.bounds.now _ a.n l.i l.heads l.nexts l.invariant.0 (omega arith) c.slot_of-slot.result (here (goal.at.returns-then-is_chained c).After-slot_of-slot)
    c.is_chained.result c.is_chained.ensures c.if-is_chained.true)

-- the number of records is small
small : (c : goal.Else-is_chained) → c.loop-i.i < most_bounds
small c = omega (arith, c.requires.1)

pub loop-i-preserved : goal.loop-i-preserved
loop-i-preserved c =
    let a = c.args in
    let l = c.loop-i in
    let u = until_next a.address a.bounds.now _ a.n l.i l.heads l.nexts l.invariant.0 (omega arith) c.read_u64-until.result c.read_u64-until.ensures in (
      passed_next a.address a.bounds.now _ a.n l.i l.heads l.nexts l.invariant.0 (omega arith) c.slot_of-slot.result (here (goal.at.loop-i-preserved c).After-slot_of-slot)
          c.read_u64-until.result c.read_u64-until.ensures c.if-until-gt-LAST_UNTIL.false c.is_chained.result c.is_chained.ensures c.if-is_chained.false c.requires.1,
      noted_next a.address a.pair.now a.bounds.now a.n l.i l.least l.index l.invariant.1 (omega arith) c.read_u64-until.result u _
          (lent_pair a.address l.i a.pair.now a.bounds.now) c.min-least.result c.first_of-index.result c.min-least.ensures c.first_of-index.ensures,
    )

pub returns : goal.returns
returns c =
    let l = c.loop-i in
    let a = c.args in
    told_all a.address a.pair.now a.bounds.now a.n l.i l.least l.index l.invariant.1 (omega (arith, l.invariant.0.few))
    (passed_all a.address a.bounds.now _ a.n l.i l.heads l.nexts l.invariant.0 (omega arith))

pub loop-i-init : goal.loop-i-init
loop-i-init c = (passed_start _ _ _ _, noted_start _ _ _ _ _)

pub overflow_add-start : goal.overflow_add-start
overflow_add-start c = let r = room (goal.at.overflow_add-start c).In-loop-i in omega arith

pub overflow_add-end : goal.overflow_add-end
overflow_add-end c = let r = room (goal.at.overflow_add-end c).In-loop-i in omega arith

pub read_u64-until-requires : goal.read_u64-until-requires
read_u64-until-requires c = let r = room (goal.at.read_u64-until-requires c).In-loop-i in omega arith

pub slice_bounds-first_of-end : goal.slice_bounds-first_of-end
slice_bounds-first_of-end c = let r = room (goal.at.slice_bounds-first_of-end c).In-loop-i in omega arith

pub slice_bounds-slot_of-end : goal.slice_bounds-slot_of-end
slice_bounds-slot_of-end c = let r = room (goal.at.slice_bounds-slot_of-end c).In-loop-i in omega arith

pub offset_bounds-heads-slot : goal.offset_bounds-heads-slot
offset_bounds-heads-slot c = let b = below (goal.at.offset_bounds-heads-slot c).After-slot_of-slot in omega arith

pub bounds-heads-slot : goal.bounds-heads-slot
bounds-heads-slot c = below (goal.at.bounds-heads-slot c).After-slot_of-slot

pub offset_bounds-nexts-i : goal.offset_bounds-nexts-i
offset_bounds-nexts-i c = let m = small (goal.at.offset_bounds-nexts-i c).Else-is_chained in omega arith

pub bounds-nexts-i : goal.bounds-nexts-i
bounds-nexts-i c = let m = small (goal.at.bounds-nexts-i c).Else-is_chained in omega arith

pub overflow_cast-heads : goal.overflow_cast-heads
overflow_cast-heads c = let m = small (goal.at.overflow_cast-heads c).Else-is_chained in omega arith

pub offset_bounds-heads-slot-in-loop-i : goal.offset_bounds-heads-slot-in-loop-i
offset_bounds-heads-slot-in-loop-i c = let b = below (goal.at.offset_bounds-heads-slot-in-loop-i c).After-slot_of-slot in omega arith

pub bounds-heads-slot-in-loop-i : goal.bounds-heads-slot-in-loop-i
bounds-heads-slot-in-loop-i c = below (goal.at.bounds-heads-slot-in-loop-i c).After-slot_of-slot
