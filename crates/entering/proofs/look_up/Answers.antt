-- `entering::look_up` meets its contract, for every pair whose first record has the index: how many are in force before and behind it.
use Prim.Native.Nat.{ℕ, ◌+◌, ◌-◌, ◌*◌, ◌≤◌}
use native.Mathlib.Omega.{arith}
use native.Mathlib.Nat.{mul-sub, mul-le-mul_left, eq-or-lt_of_le}
use mathlib.Core.Logic.{⊎_elim}
use mathlib.Core.List.{List}
use lib.ListN.{length, drop}
use Rattle.record.specs.Layout.{bound_size}
use Rattle.cache.specs.Chunks.{chunks}
use Rattle.cache.proofs.Chunks.{keep_le, length_chunks}
use Rattle.bounds.specs.Told.{not_before}
use Rattle.bounds.proofs.Records.{used_within_lem, next_within}
use Rattle.entering.specs.Entering.{in_force}
use Rattle.entering.specs.Packing.{stay}
use Rattle.entering.proofs.Told.{every_before, every_behind, none_told, force_standing, past_standing}
use Rattle.entering.proofs.Written.{well}
use Rattle.entering.proofs.look_up.Goals as goal
use Rattle.entering.proofs.look_up.Goals.{Else-index-used, Start, then-index-used, else-index-used}

within : (c : goal.Start) → bound_size c.args.address * c.args.used ≤ length c.args.bounds.now
within c = used_within_lem c.args.address c.args.used c.args.bounds.now c.requires.address_le_address_size_v6.2

-- so many at most are in force
stay-few : (a clock n : ℕ) (s : List ℕ) → length (stay a clock n s) ≤ n
stay-few a clock n s = rw length_chunks at (keep_le (in_force a clock) (chunks (bound_size a) n s))

-- what both counts take lies within the bounds
inside : (c : goal.Start) → let a = c.args in bound_size a.address * a.form.index + bound_size a.address * (a.used - a.form.index) ≤ length a.bounds.now
inside c =
    let a = c.args in
    let w = within c in
    let l = mul-le-mul_left (bound_size a.address) c.requires.index_le_used.0 in
    omega (arith, mul-sub (bound_size a.address) a.used a.form.index)

pub force_from-before-requires : goal.force_from-before-requires
force_from-before-requires c =
    let a = c.args in
    let i = inside (goal.at.force_from-before-requires c).Start in
    record { address_le_address_size_v6 = (c.requires.address_le_address_size_v6.0, omega arith); bounds_value = every_before a.address a.used a.form.index a.bounds.now (not_before a.address a.form.least) c.requires.address_le_address_size_v6.2 c.requires.index_le_used.0 c.requires.index_le_used.1 }

pub force_from-behind-requires : goal.force_from-behind-requires
force_from-behind-requires c =
    let a = c.args in
    record { address_le_address_size_v6 = (c.requires.address_le_address_size_v6.0, inside (goal.at.force_from-behind-requires c).Start); bounds_value = every_behind a.address a.used a.form.index a.bounds.now (not_before a.address a.form.least) c.requires.address_le_address_size_v6.2 c.requires.index_le_used.0 c.requires.index_le_used.1 }

pub overflow_add-force : goal.overflow_add-force
overflow_add-force c =
    let a = c.args in
    let b = stay-few a.address a.clock a.form.index a.bounds.now in
    let d = stay-few a.address a.clock (a.used - a.form.index) (drop (bound_size a.address * a.form.index) a.bounds.now) in
    omega (arith, c.force_from-before.ensures, c.force_from-behind.ensures, c.requires.index_le_used.0)

-- the pair's own record lies within the bounds
own_room : (c : goal.Else-index-used) → let a = c.args in bound_size a.address * a.form.index + bound_size a.address ≤ length a.bounds.now
own_room c =
    let a = c.args in
    next_within (bound_size a.address) a.form.index a.used (length a.bounds.now) (⊎_elim (λ d. absurd (c.if-index-used.false d)) (λ d. d) (eq-or-lt_of_le c.requires.index_le_used.0)) (within (goal.at.Else-index-used c).Start)

pub returns-then-clock-until : goal.returns-then-clock-until
returns-then-clock-until c =
    let a = c.args in
    elim c.if-index-used.branch [
      | then-index-used w ↦ absurd (omega (arith, w.until-is, c.if-clock-until.true))
      | else-index-used w ↦
          λ k d. rw w.until-is
          (force_standing a.address a.clock a.used k a.bounds.now a.form.index c.force_from-before.result c.force_from-behind.result c.requires.address_le_address_size_v6.2 d c.requires.index_le_used.0
          c.force_from-before.ensures c.force_from-behind.ensures w.if-index-used.false w.read_u64-until.result w.read_u64-until.ensures (omega (arith, w.until-is, c.if-clock-until.true)))
    ]

pub returns-else-clock-until : goal.returns-else-clock-until
returns-else-clock-until c =
    let a = c.args in
    elim c.if-index-used.branch [
      | then-index-used w ↦
          λ k e. rw w.until-is
          (none_told a.address a.clock a.used k a.bounds.now a.form.index c.force_from-before.result c.force_from-behind.result c.requires.address_le_address_size_v6.2 e c.requires.index_le_used.0
          c.force_from-before.ensures c.force_from-behind.ensures w.if-index-used.true)
      | else-index-used w ↦
          λ k d. rw w.until-is
          (past_standing a.address a.clock a.used k a.bounds.now a.form.index c.force_from-before.result c.force_from-behind.result c.requires.address_le_address_size_v6.2 d c.requires.index_le_used.0
          c.force_from-before.ensures c.force_from-behind.ensures w.if-index-used.false w.read_u64-until.result w.read_u64-until.ensures (well a.address a.bounds.now c.requires.address_le_address_size_v6.1).once (omega (arith, w.until-is, c.if-clock-until.false)))
    ]

pub overflow_mul-at : goal.overflow_mul-at
overflow_mul-at c = let i = inside (goal.at.overflow_mul-at c).Start in omega arith

pub overflow_sub-used : goal.overflow_sub-used
overflow_sub-used c = omega (arith, c.requires.index_le_used.0)

pub overflow_add-at-else-index-used : goal.overflow_add-at-else-index-used
overflow_add-at-else-index-used c = let r = own_room (goal.at.overflow_add-at-else-index-used c).Else-index-used in omega arith

pub read_u64-until-requires : goal.read_u64-until-requires
read_u64-until-requires c = let r = own_room (goal.at.read_u64-until-requires c).Else-index-used in omega arith
