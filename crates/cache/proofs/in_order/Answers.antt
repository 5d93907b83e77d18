-- `cache::in_order` meets its contract: each look goes on, or stops all.
use Rattle.std.proofs.Common.{◌≡◌, ℕ, ◌+◌, ◌-◌, ◌*◌, ◌/◌, ◌%◌, ◌<◌, sym, refl, ap, mod-lt, div-add-mod', mul-add, arith}
use Rattle.octets.proofs.Runs.{both_one}
use Rattle.cache.specs.Chunks.{chunks}
use Rattle.cache.specs.Check.{is_in_order}
use Rattle.cache.proofs.Looking.{Left, all_left, left_at, look_stops, look_goes_on}
use Rattle.cache.proofs.in_order.Goals as goal
use Rattle.cache.proofs.in_order.Goals.{In-Some-look_at, In-loop-pair, then-odd-gt0+in-Some, else-odd-gt0}

-- an odd number is not 0
some : (n : ℕ) → 0 < n % 2 → 0 < n
some n h = let e = div-add-mod' n 2 in omega arith

-- two entries further on
two_on : (w k m : ℕ) → k + 2 ≡ m → w * k + w + w ≡ w * m
two_on w k m h = let e = mul-add w k 2 in let f = ap (λ i. w * i) h in omega arith

-- of the pairs one is left, and so two entries are
two_left : (n pair : ℕ) → pair < n / 2 → 1 < n - (n % 2 + 2 * pair)
two_left n pair h = let e = div-add-mod' n 2 in omega arith

pub returns-in_default : goal.returns-in_default
returns-in_default c = sym (look_stops (omega arith) (some c.args.n c.if-odd-gt0.true) (all_left (omega arith)) c.in_default.ensures)

pub loop-pair-init : goal.loop-pair-init
loop-pair-init c =
    let a = c.args in
    elim c.if-odd-gt0.branch [
      | then-odd-gt0+in-Some w ↦
          let one : a.n % 2 ≡ 1 = let l : a.n % 2 < 2 = mod-lt a.n (omega arith) in omega (arith, w.if-odd-gt0.true) in
          let here : a.width * (a.n % 2 + 0) ≡ 0 + a.width = rw one (omega arith) in
          left_at w.last-is (omega arith) here (look_goes_on (omega arith) (some a.n w.if-odd-gt0.true) (all_left (omega arith)) w.in-Some.ensures)
      | else-odd-gt0 w ↦
          let none : a.n % 2 ≡ 0 = omega (arith, w.if-odd-gt0.false) in
          let here : a.width * (a.n % 2 + 0) ≡ 0 = rw none (omega arith) in
          left_at w.last-is (omega arith) here (all_left (omega arith))
    ]

pub returns-in_default-look_at : goal.returns-in_default-look_at
returns-in_default-look_at c =
    let t = two_left c.args.n c.loop-pair.pair c.loop-pair-test.true in
    sym (look_stops (omega arith) (omega arith) c.loop-pair.invariant c.in_default-look_at.ensures)

-- what is left behind the first of two
behind-first : (c : goal.In-Some-look_at) → let a = c.args in
    Left a.kinds a.clock a.width a.n a.stored.now c.in-Some-look_at.first (a.n - (a.n % 2 + 2 * c.loop-pair.pair) - 1) (a.width * (a.n % 2 + 2 * c.loop-pair.pair) + a.width)
behind-first c =
    let t = two_left c.args.n c.loop-pair.pair c.loop-pair-test.true in
    look_goes_on (omega arith) (omega arith) c.loop-pair.invariant c.in-Some-look_at.ensures

pub returns-in_default-look_at-2 : goal.returns-in_default-look_at-2
returns-in_default-look_at-2 c =
    let t = two_left c.args.n c.loop-pair.pair c.loop-pair-test.true in
    sym (look_stops (omega arith) (omega arith) (behind-first (goal.at.returns-in_default-look_at-2 c).In-Some-look_at) c.in_default-look_at-2.ensures)

pub loop-pair-preserved : goal.loop-pair-preserved
loop-pair-preserved c =
    let a = c.args in
    let k = a.n % 2 + 2 * c.loop-pair.pair in
    let t = two_left a.n c.loop-pair.pair c.loop-pair-test.true in
    left_at refl (omega arith) (sym (two_on a.width k (a.n % 2 + 2 * (c.loop-pair.pair + 1)) (omega arith)))
    (look_goes_on (omega arith) (omega arith) (behind-first (goal.at.loop-pair-preserved c).In-Some-look_at) c.in-Some-look_at-2.ensures)

pub returns : goal.returns
unfolding chunks is_in_order
returns c =
    let a = c.args in
    let e = div-add-mod' a.n 2 in
    let none : a.n - (a.n % 2 + 2 * c.loop-pair.pair) ≡ 0 = omega arith in
    rw (c.loop-pair.invariant.answer, none) (sym (both_one _))
