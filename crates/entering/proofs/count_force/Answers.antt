use native.Mathlib.Omega.{arith}
use native.Mathlib.Nat.{add-zero, mul-zero}
use Prim.Native.Nat.{◌+◌, ◌-◌, ◌*◌, ◌≤◌}
use mathlib.Core.Path.{◌≡◌, sym}
use mathlib.Core.Bool.{true, false}
use lib.ListN.{length}
use borrow.Author.Tests.{lt-ltb, le-ltb}
use Rattle.record.specs.Layout.{bound_size}
use Rattle.cache.specs.Chunks.{chunks, keep}
use Rattle.bounds.proofs.Records.{next_within}
use Rattle.entering.proofs.Told.{stay_next}
use Rattle.entering.proofs.count_force.Goals as goal
use Rattle.entering.proofs.count_force.Goals.{In-loop-i, then-clock-until, else-clock-until}

pub loop-i-init : goal.loop-i-init
loop-i-init c = let e : c.args.n - 0 ≡ c.args.n = omega arith in (omega arith, rw (mul-zero, add-zero, e) (omega arith))

-- the next record lies within the bounds
room : (c : goal.In-loop-i) → let a = c.args in a.from + bound_size a.address * c.loop-i.i + bound_size a.address ≤ length a.bounds.now
room c =
    let a = c.args in
    let k = next_within (bound_size a.address) c.loop-i.i a.n (bound_size a.address * a.n) (omega arith) (omega arith) in
    omega (arith, c.requires.1)

pub loop-i-preserved : goal.loop-i-preserved
loop-i-preserved c =
    let a = c.args in
    let l = c.loop-i in
    let next = stay_next a.address a.clock a.n l.i a.from c.read_u64-until.result a.bounds.now in
    elim c.if-clock-until.branch [
      | then-clock-until w ↦
          let k = next true (omega arith) c.requires.1 c.read_u64-until.ensures (lt-ltb a.clock c.read_u64-until.result w.if-clock-until.true) in
          (omega (arith, w.force-is, l.invariant.0), rw (l.invariant.1, k, w.force-is) (omega arith))
      | else-clock-until w ↦
          let k = next false (omega arith) c.requires.1 c.read_u64-until.ensures (le-ltb a.clock c.read_u64-until.result w.if-clock-until.false) in
          (omega (arith, w.force-is, l.invariant.0), rw (l.invariant.1, k, w.force-is) (omega arith))
    ]

pub returns : goal.returns
unfolding chunks keep
returns c =
    let l = c.loop-i in
    let none : c.args.n - l.i ≡ 0 = omega arith in
    rw (l.invariant.1, none) (sym (add-zero l.force))

pub overflow_mul-width : goal.overflow_mul-width
overflow_mul-width c = let r = room (goal.at.overflow_mul-width c).In-loop-i in omega arith

pub overflow_add-from : goal.overflow_add-from
overflow_add-from c = let r = room (goal.at.overflow_add-from c).In-loop-i in omega arith

pub overflow_add-from-in-loop-i : goal.overflow_add-from-in-loop-i
overflow_add-from-in-loop-i c = let r = room (goal.at.overflow_add-from-in-loop-i c).In-loop-i in omega arith

pub read_u64-until-requires : goal.read_u64-until-requires
read_u64-until-requires c = let r = room (goal.at.read_u64-until-requires c).In-loop-i in omega arith
