use Prim.Native.Nat.{◌+◌, ◌*◌, ◌≤◌}
use native.Mathlib.Omega.{arith}
use mathlib.Core.Path.{◌≡◌}
use lib.ListN.{length}
use Rattle.record.specs.Layout.{bound_size}
use Rattle.entering.proofs.Packing.{packing_start, at_room, packing_goes_on, packing_moves, packing_ends}
use Rattle.entering.proofs.pack.Goals as goal
use Rattle.entering.proofs.pack.Goals.{After-loop-i, At-loop-i, In-loop-i, then-until-clock, else-until-clock}

-- the next record lies within the bounds, as they are by now
room : (c : goal.In-loop-i) → bound_size c.args.address * c.loop-i.i + bound_size c.args.address ≤ length c.loop-i.bounds
room c =
    let l = c.loop-i in
    let a = c.args in
    let r = at_room a.address a.clock a.used a.bounds.now c.requires.1 l.i l.to l.run l.bounds l.invariant (omega arith) in
    omega (arith, l.invariant.long)

pub move_down-requires : goal.move_down-requires
move_down-requires c =
    let l = c.loop-i in
    let r = room (goal.at.move_down-requires c).In-loop-i in
    (l.invariant.front_first, omega (arith, l.invariant.run_first))

pub overflow_add-to : goal.overflow_add-to
overflow_add-to c = let r = room (goal.at.overflow_add-to c).In-loop-i in omega (arith, c.loop-i.invariant.run_first, c.loop-i.invariant.front_first)

pub loop-i-preserved : goal.loop-i-preserved
loop-i-preserved c =
    let l = c.loop-i in
    let a = c.args in
    elim c.if-until-clock.branch [
      | then-until-clock w ↦
          rw (w.to-is, w.run-is, w.bounds-is, w.move_down.ensures)
          (packing_moves a.address a.clock a.used a.bounds.now c.requires.1 l.i l.to l.run l.bounds l.invariant (omega arith)
          c.read_u64-until.result c.read_u64-until.ensures w.if-until-clock.true)
      | else-until-clock w ↦
          rw (w.to-is, w.run-is, w.bounds-is)
          (packing_goes_on a.address a.clock a.used a.bounds.now c.requires.1 l.i l.to l.run l.bounds l.invariant (omega arith)
          c.read_u64-until.result c.read_u64-until.ensures w.if-until-clock.false)
    ]

-- all are passed, and lie within the bounds
inside : (c : goal.After-loop-i) → (bound_size c.args.address * c.args.used ≤ length c.loop-i.bounds) × (c.loop-i.run ≤ bound_size c.args.address * c.args.used)
inside c =
    let l = c.loop-i in
    let e : l.i ≡ c.args.used = omega (arith, l.invariant.few) in
    (omega (arith, l.invariant.long, c.requires.1), rw e at l.invariant.run_first)

pub move_down-requires-2 : goal.move_down-requires-2
move_down-requires-2 c = let l = c.loop-i in let i = inside (goal.at.move_down-requires-2 c).After-loop-i in (l.invariant.front_first, omega arith)

pub returns : goal.returns
returns c =
    let l = c.loop-i in
    let a = c.args in
    rw c.move_down-2.ensures
    (packing_ends a.address a.clock a.used a.bounds.now c.requires.1 l.i l.to l.run l.bounds l.invariant (omega arith))

pub loop-i-init : goal.loop-i-init
loop-i-init c = packing_start _ _ _ _ c.requires.1

pub overflow_mul-at : goal.overflow_mul-at
overflow_mul-at c = let r = room (goal.at.overflow_mul-at c).In-loop-i in omega arith

pub overflow_add-at : goal.overflow_add-at
overflow_add-at c = let r = room (goal.at.overflow_add-at c).In-loop-i in omega arith

pub read_u64-until-requires : goal.read_u64-until-requires
read_u64-until-requires c = let r = room (goal.at.read_u64-until-requires c).In-loop-i in omega arith

pub overflow_add-run : goal.overflow_add-run
overflow_add-run c = let r = room (goal.at.overflow_add-run c).In-loop-i in omega arith

pub overflow_sub-at : goal.overflow_sub-at
overflow_sub-at c = omega (arith, c.loop-i.invariant.run_first)

pub overflow_sub-to : goal.overflow_sub-to
overflow_sub-to c = omega (arith, c.loop-i.invariant.run_first)

pub overflow_mul-end : goal.overflow_mul-end
overflow_mul-end c = let i = inside (goal.at.overflow_mul-end c).After-loop-i in omega arith

pub overflow_sub-end : goal.overflow_sub-end
overflow_sub-end c = let i = inside (goal.at.overflow_sub-end c).After-loop-i in omega arith

pub overflow_sub-result : goal.overflow_sub-result
overflow_sub-result c = let i = inside (goal.at.overflow_sub-result c).After-loop-i in omega arith

pub overflow_add-result : goal.overflow_add-result
overflow_add-result c = let i = inside (goal.at.overflow_add-result c).After-loop-i in omega (arith, c.loop-i.invariant.front_first)
