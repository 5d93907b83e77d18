use Rattle.std.proofs.Common.{◌≡◌, ℕ, ◌+◌, ◌-◌, ◌*◌, ◌<◌, ◌≤◌, Bool, true, false, List, length, take, drop, sym, refl, ap, ◌∙◌, arith}
use Rattle.octets.specs.Runs.{same, part}
use Rattle.octets.proofs.Runs.{length_part, lent_part, same_true, same_refl}
use Rattle.record.specs.Layout.{bound_size, pair_at, pair_size}
use Rattle.bounds.specs.Bounds.{most_bounds}
use Rattle.bounds.specs.Chains.{pair_of}
use Rattle.bounds.proofs.Records.{next_within}
use Rattle.bounds.proofs.Table.{rest_start, rest_next, rest_falls}
use Rattle.bounds.proofs.once.is_chained.Goals as goal
use Rattle.bounds.proofs.once.is_chained.Goals.{After-is_pair, Else-is_pair, In-loop-p, Start}

-- a record up to the last lies within the bounds, and no number overflows
room : (c : goal.Start) (p : ℕ) → p ≤ c.args.n → bound_size c.args.address * p + bound_size c.args.address ≤ length c.args.bounds.now
room c p h = next_within (bound_size c.args.address) p (c.args.n + 1) (length c.args.bounds.now) (omega arith) c.requires.address_le_address_size_v6.2

-- the record at p
at_room : (c : goal.In-loop-p) → let a = c.args in bound_size a.address * (c.loop-p.p - 1) + bound_size a.address ≤ length a.bounds.now
at_room c = room (goal.at.In-loop-p c).Start (c.loop-p.p - 1) (omega (arith, c.loop-p.invariant.few))

own_room : (c : goal.In-loop-p) → let a = c.args in bound_size a.address * a.n + bound_size a.address ≤ length a.bounds.now
own_room c = room (goal.at.In-loop-p c).Start c.args.n (omega arith)

-- parts of one length within the bytes
parts : (x y n : ℕ) (s : List ℕ) → x + n ≤ length s → y + n ≤ length s → 8 ≤ n → (length (part x n s) ≡ length (part y n s)) × (8 ≤ length (part y n s))
parts x y n s h k l = rw (length_part x n s h, length_part y n s k) (refl, l)

pub is_pair-requires : goal.is_pair-requires
is_pair-requires c =
    let r = at_room (goal.at.is_pair-requires c).In-loop-p in
    let o = own_room (goal.at.is_pair-requires c).In-loop-p in
    rw (lent_part, lent_part) (parts _ _ _ _ (omega arith) (omega arith) (omega arith))

-- what is compared are the pairs
compared : (a n p : ℕ) (s : List ℕ) (b : Bool) → b ≡ same (take (bound_size a * (p - 1) + pair_at + pair_size a - (bound_size a * (p - 1) + pair_at)) (drop (bound_size a * (p - 1) + pair_at) s)) (take (bound_size a * n + pair_at + pair_size a - (bound_size a * n + pair_at)) (drop (bound_size a * n + pair_at) s)) → b ≡ same (pair_of a s p) (pair_of a s (n + 1))
unfolding pair_of
compared a n p s b e = let i : n + 1 - 1 ≡ n = omega arith in e ∙ rw (lent_part, lent_part, i)

seen : (c : goal.After-is_pair) → let a = c.args in c.is_pair.result ≡ same (pair_of a.address a.bounds.now c.loop-p.p) (pair_of a.address a.bounds.now (a.n + 1))
seen c = let a = c.args in compared a.address a.n c.loop-p.p a.bounds.now c.is_pair.result c.is_pair.ensures

pub returns-then-is_pair : goal.returns-then-is_pair
returns-then-is_pair c =
    (c.loop-p.p, omega arith, c.loop-p.invariant.few, same_true _ _ (sym (seen (goal.at.returns-then-is_pair c).After-is_pair) ∙ c.if-is_pair.true))

differs : (x y : List ℕ) (b : Bool) → b ≡ same x y → b ≡ false → x ≡ y → ⊥
differs x y b e f d =
    let z : true ≡ false = sym (same_refl y) ∙ (ap (λ (l : List ℕ). same l y) (sym d) ∙ (sym e ∙ f)) in
    let n : ◌≡◌ {A = ℕ} 0 1 = cc in
    omega arith

-- a record of the table
pointed : (c : goal.Else-is_pair) → c.loop-p.p < most_bounds
pointed c = omega (arith, c.loop-p.invariant.few, c.requires.address_le_address_size_v6)

pub loop-p-smaller : goal.loop-p-smaller
loop-p-smaller c =
    let f = rest_falls c.loop-p.p c.loop-p.invariant (omega arith) in
    omega (arith, c.from-p-in-loop-p.ensures)

pub loop-p-preserved : goal.loop-p-preserved
loop-p-preserved c =
    rw c.from-p-in-loop-p.ensures (rest_next c.loop-p.p c.loop-p.invariant (omega arith) (differs _ _ c.is_pair.result (seen (goal.at.loop-p-preserved c).After-is_pair) c.if-is_pair.false))

pub returns : goal.returns
returns c = λ q l m e. c.loop-p.invariant.none q (omega arith) m e

pub overflow_mul-own : goal.overflow_mul-own
overflow_mul-own c = let r = room (goal.at.overflow_mul-own c).Start c.args.n (omega arith) in omega arith

pub overflow_add-own : goal.overflow_add-own
overflow_add-own c = let r = room (goal.at.overflow_add-own c).Start c.args.n (omega arith) in omega arith

pub loop-p-init : goal.loop-p-init
loop-p-init c = rw c.from-p.ensures (rest_start c.args.first c.requires.chained)

pub overflow_mul-at : goal.overflow_mul-at
overflow_mul-at c = let r = at_room (goal.at.overflow_mul-at c).In-loop-p in omega arith

pub overflow_add-at : goal.overflow_add-at
overflow_add-at c = let r = at_room (goal.at.overflow_add-at c).In-loop-p in omega arith

pub overflow_add-at-in-loop-p : goal.overflow_add-at-in-loop-p
overflow_add-at-in-loop-p c = let r = at_room (goal.at.overflow_add-at-in-loop-p c).In-loop-p in omega arith

pub slice_bounds-is_pair-end : goal.slice_bounds-is_pair-end
slice_bounds-is_pair-end c = let r = at_room (goal.at.slice_bounds-is_pair-end c).In-loop-p in omega arith

pub overflow_add-own-in-loop-p : goal.overflow_add-own-in-loop-p
overflow_add-own-in-loop-p c = let o = own_room (goal.at.overflow_add-own-in-loop-p c).In-loop-p in omega arith

pub slice_bounds-is_pair-end-in-loop-p : goal.slice_bounds-is_pair-end-in-loop-p
slice_bounds-is_pair-end-in-loop-p c = let o = own_room (goal.at.slice_bounds-is_pair-end-in-loop-p c).In-loop-p in omega arith

pub offset_bounds-nexts-p : goal.offset_bounds-nexts-p
offset_bounds-nexts-p c = let p = pointed (goal.at.offset_bounds-nexts-p c).Else-is_pair in omega arith

pub bounds-nexts-p : goal.bounds-nexts-p
bounds-nexts-p c = let p = pointed (goal.at.bounds-nexts-p c).Else-is_pair in omega arith
