-- `cache::count_gone` meets its contract: each entry that is passed is expired.
use Rattle.std.proofs.Common.{◌≡◌, ℕ, suc, ◌+◌, ◌-◌, ◌*◌, List, drop, sym, ap, ◌∙◌, mul-add, add-sub_of_le, arith, le-leb}
use borrow.Author.Tests.{lt-leb}
use Rattle.cache.specs.Chunks.{first_of, chunks}
use Rattle.cache.specs.Expiry.{gone}
use Rattle.cache.proofs.Expiry.{Ages, ages}
use Rattle.cache.proofs.count_gone.Goals as goal
use Rattle.cache.proofs.count_gone.Goals.{In-loop-passed}

aged : (c : goal.In-loop-passed) → let a = c.args in Ages a.width (a.n - c.loop-passed.passed) (a.width * c.loop-passed.passed) a.clock a.stored.now
aged c =
    let a = c.args in
    let i = c.loop-passed.passed in
    let room : a.width * i + a.width * (a.n - i) ≡ a.width * a.n = sym (mul-add a.width i (a.n - i)) ∙ ap (λ k. a.width * k) (add-sub_of_le (omega arith)) in
    ages a.width (a.n - i) (a.width * i) a.clock a.stored.now (omega arith) (omega arith) (omega arith)

pub returns-then-from-read_u64 : goal.returns-then-from-read_u64
returns-then-from-read_u64 c =
    let h = c.horizon-from in
    let young = le-leb h.result c.read_u64.result (omega arith) in
    rw (c.loop-passed.invariant, aged (goal.at.returns-then-from-read_u64 c).In-loop-passed, ← c.read_u64.ensures, ← h.ensures, young) (omega arith)

-- the next is where this one ends
next : (clock w n i : ℕ) (s : List ℕ) → i + suc (gone clock (chunks w (n - i - 1) (drop (w * i + w) s))) ≡ i + 1 + gone clock (chunks w (n - (i + 1)) (drop (w * (i + 1)) s))
next clock w n i s =
    let e : w * (i + 1) ≡ w * i + w = let m = mul-add w i 1 in omega arith in
    let f : n - (i + 1) ≡ n - i - 1 = omega arith in
    rw (e, f) (omega arith)

pub loop-passed-preserved : goal.loop-passed-preserved
loop-passed-preserved c =
    let a = c.args in
    let h = c.horizon-from in
    let old = lt-leb h.result c.read_u64.result (omega arith) in
    rw (c.loop-passed.invariant, aged (goal.at.loop-passed-preserved c).In-loop-passed, ← c.read_u64.ensures, ← h.ensures, old) (next a.clock a.width a.n c.loop-passed.passed a.stored.now)

pub returns : goal.returns
unfolding chunks first_of
returns c =
    let a = c.args in
    let all : c.loop-passed.passed ≡ a.n = omega arith in
    let none : a.n - c.loop-passed.passed ≡ 0 = omega arith in
    rw (c.loop-passed.invariant, none) (omega arith)
