use Rattle.std.proofs.Common.{◌≡◌, ℕ, ◌+◌, ◌-◌, ◌*◌, ◌<◌, ◌≤◌, List, length, get_or, sym, ap, ◌∙◌, add-zero, mul-zero, mul-add, arith, eq-eqb, ne_eqb}
use Rattle.record.specs.Layout.{bound_kind, bound_size}
use Rattle.cache.specs.Chunks.{first_of, chunks}
use Rattle.bounds.specs.Bounds.{places, in_use}
use Rattle.bounds.proofs.Records.{counted, places_within, next_within}
use Rattle.bounds.proofs.in_use.Invariants.{Left}
use Rattle.bounds.proofs.in_use.Goals as goal
use Rattle.bounds.proofs.in_use.Goals.{Else-bounds-at-ne-BOUND_KIND, In-loop-two, else-places-gt0-via-then-places-gt0+else-bounds-width-ne-BOUND_KIND, else-places-gt0-via-else-places-gt0}

module _ {a : ℕ} {s : List ℕ} {passed : ℕ} (h : Left a s passed) where
  all_left : places a s ≤ passed → passed ≡ in_use a s
  unfolding chunks first_of
  all_left l = let none : places a s - passed ≡ 0 = omega arith in rw (h.count, none) (sym (add-zero passed))

  module _ (some : passed < places a s) where
    -- the next record lies within the buffer, and so do those behind it
    room : bound_size a * passed + bound_size a * (places a s - passed) ≤ length s
    room =
        let e : passed + (places a s - passed) ≡ places a s = omega arith in
        let m = sym (mul-add (bound_size a) passed (places a s - passed)) ∙ ap (λ (j : ℕ). bound_size a * j) e in
        omega (arith, places_within a s)

    -- the next record is not of its kind, and so the count ends
    stops : (get_or s (bound_size a * passed) 0 ≡ bound_kind → ⊥) → passed ≡ in_use a s
    stops e = rw (h.count, counted (bound_size a) (places a s - passed) (bound_size a * passed) s (omega arith) (omega arith) room, ne_eqb (get_or s (bound_size a * passed) 0) bound_kind e) (sym (add-zero passed))

    -- it is, and so one more is passed
    goes_on : get_or s (bound_size a * passed) 0 ≡ bound_kind → Left a s (passed + 1)
    goes_on e =
        let m = mul-add (bound_size a) passed 1 in
        let d : bound_size a * (passed + 1) ≡ bound_size a * passed + bound_size a = omega arith in
        let f : places a s - (passed + 1) ≡ places a s - passed - 1 = omega arith in
        record {
          few = omega arith;
          count = rw (h.count, d, f, counted (bound_size a) (places a s - passed) (bound_size a * passed) s (omega arith) (omega arith) room, eq-eqb (get_or s (bound_size a * passed) 0) bound_kind e) (omega arith);
        }

start : (a : ℕ) (s : List ℕ) → Left a s 0
unfolding in_use
start a s = let e : places a s - 0 ≡ places a s = omega arith in record { few = omega arith; count = rw (mul-zero, e) (omega arith) }

pub loop-two-init : goal.loop-two-init
loop-two-init c = start _ _

-- both records of a turn are there
two_left : (c : goal.In-loop-two) → 2 * c.loop-two.two + 1 < places c.args.address c.args.bounds.now
two_left c = omega (arith, c.loop-two-test.true)

pub returns-then-bounds-at-ne-BOUND_KIND : goal.returns-then-bounds-at-ne-BOUND_KIND
returns-then-bounds-at-ne-BOUND_KIND c =
    let t = two_left (goal.at.returns-then-bounds-at-ne-BOUND_KIND c).In-loop-two in
    stops c.loop-two.invariant (omega arith) c.if-bounds-at-ne-BOUND_KIND.true

-- what is left behind the first of two
behind-first : (c : goal.Else-bounds-at-ne-BOUND_KIND) → Left c.args.address c.args.bounds.now (2 * c.loop-two.two + 1)
behind-first c =
    let t = two_left (goal.at.Else-bounds-at-ne-BOUND_KIND c).In-loop-two in
    goes_on c.loop-two.invariant (omega arith) c.if-bounds-at-ne-BOUND_KIND.false

-- where the second stands
second : (a i : ℕ) → bound_size a * (i + 1) ≡ bound_size a * i + bound_size a
second a i = let m = mul-add (bound_size a) i 1 in omega arith

pub bounds-bounds-at-in-loop-two : goal.bounds-bounds-at-in-loop-two
bounds-bounds-at-in-loop-two c =
    let a = c.args in
    let t = two_left (goal.at.bounds-bounds-at-in-loop-two c).In-loop-two in
    let n = next_within (bound_size a.address) (2 * c.loop-two.two + 1) (places a.address a.bounds.now) (length a.bounds.now) t (places_within a.address a.bounds.now) in
    omega (arith, second a.address (2 * c.loop-two.two))

pub returns-then-bounds-at-ne-BOUND_KIND-2 : goal.returns-then-bounds-at-ne-BOUND_KIND-2
returns-then-bounds-at-ne-BOUND_KIND-2 c =
    let a = c.args in
    let t = two_left (goal.at.returns-then-bounds-at-ne-BOUND_KIND-2 c).In-loop-two in
    stops (behind-first (goal.at.returns-then-bounds-at-ne-BOUND_KIND-2 c).Else-bounds-at-ne-BOUND_KIND) t (rw (second a.address (2 * c.loop-two.two)) c.if-bounds-at-ne-BOUND_KIND-2.true)

-- the same, by another name
left_at : {a i j : ℕ} {s : List ℕ} → i ≡ j → Left a s i → Left a s j
left_at e h = rw e at h

pub loop-two-preserved : goal.loop-two-preserved
loop-two-preserved c =
    let a = c.args in
    let t = two_left (goal.at.loop-two-preserved c).In-loop-two in
    left_at (omega arith) (goes_on (behind-first (goal.at.loop-two-preserved c).Else-bounds-at-ne-BOUND_KIND) t (rw (second a.address (2 * c.loop-two.two)) c.if-bounds-at-ne-BOUND_KIND-2.false))

-- the last alone
pub returns-then-bounds-width-ne-BOUND_KIND : goal.returns-then-bounds-width-ne-BOUND_KIND
returns-then-bounds-width-ne-BOUND_KIND c =
    let a = c.args in
    let l = c.loop-two.invariant in
    let e : 2 * c.loop-two.two ≡ places a.address a.bounds.now - 1 = omega (arith, l.few, c.loop-two-test.false, c.if-places-gt0.true) in
    stops (left_at e l) (omega arith) c.if-bounds-width-ne-BOUND_KIND.true

pub returns : goal.returns
returns c =
    let a = c.args in
    let l = c.loop-two.invariant in
    elim c.else-places-gt0.branch [
      | else-places-gt0-via-then-places-gt0+else-bounds-width-ne-BOUND_KIND w ↦
          let e : 2 * c.loop-two.two ≡ places a.address a.bounds.now - 1 = omega (arith, l.few, c.loop-two-test.false, w.if-places-gt0.true) in
          let d : places a.address a.bounds.now - 1 + 1 ≡ places a.address a.bounds.now = omega arith in
          all_left (left_at d (goes_on (left_at e l) (omega arith) w.if-bounds-width-ne-BOUND_KIND.false)) (omega arith)
      | else-places-gt0-via-else-places-gt0 w ↦
          let e : 2 * c.loop-two.two ≡ places a.address a.bounds.now = omega (arith, l.few, c.loop-two-test.false, w.if-places-gt0.false) in
          all_left (left_at e l) (omega arith)
    ]
