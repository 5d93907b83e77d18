-- `upkeep::open_as` meets its contract: at each refusal a condition fails, and at the end all hold.
use borrow.Author.Tests.{le-leb, lt-leb, eq-eqb, ne_eqb}
use native.Mathlib.Omega.{arith}
use mathlib.Core.Path.{◌≡◌, ap}
use mathlib.Core.Bool.{true, false}
use Prim.Native.Nat.{ℕ, ◌-◌, ◌/◌}
use lib.Dec.{leb, eqb}
use lib.ListN.{length}
use Rattle.cache.specs.Cache.{head_size, size_of}
use Rattle.cache.specs.Opening.{capacity_for}
use Rattle.octets.proofs.Runs.{both_false}
use Rattle.upkeep.proofs.Opening.{refused, granted}
use Rattle.upkeep.proofs.open_as.Goals as goal
use Rattle.upkeep.proofs.open_as.Goals.{After-width-width}

-- the capacity that was worked out is the definition's
fitting : (c : goal.After-width-width) → let a = c.args in (length a.cache.now - head_size) / c.width-width.result ≡ capacity_for a.shape (length a.cache.now)
fitting c = let a = c.args in ap (λ (w : ℕ). (length a.cache.now - head_size) / w) c.width-width.ensures

pub returns-then-size-lt-HEAD_SIZE : goal.returns-then-size-lt-HEAD_SIZE
returns-then-size-lt-HEAD_SIZE c =
    let a = c.args in
    let s = a.cache.now in
    let sh = a.shape in
    let h : eqb (length s) (size_of sh (capacity_for sh (length s))) ≡ false = ne_eqb (length s) (size_of sh (capacity_for sh (length s))) (omega arith) in
    refused sh s (simp (h, both_false))

pub returns-then-capacity-lt1 : goal.returns-then-capacity-lt1
returns-then-capacity-lt1 c =
    let a = c.args in
    let h : leb 1 (capacity_for a.shape (length a.cache.now)) ≡ false = rw (← fitting (goal.at.returns-then-capacity-lt1 c).After-width-width) (lt-leb _ _ c.if-capacity-lt1.true) in
    refused a.shape a.cache.now (simp h)

pub returns-then-capacity-most : goal.returns-then-capacity-most
returns-then-capacity-most c =
    let a = c.args in
    let h : leb (capacity_for a.shape (length a.cache.now)) a.shape.most ≡ false = rw (← fitting (goal.at.returns-then-capacity-most c).After-width-width) (lt-leb _ _ c.if-capacity-most.true) in
    refused a.shape a.cache.now (simp (h, both_false))

pub returns-then-size-slot_at : goal.returns-then-size-slot_at
returns-then-size-slot_at c =
    let a = c.args in
    let s = a.cache.now in
    let h : eqb (length s) (size_of a.shape (capacity_for a.shape (length s))) ≡ false = rw (← fitting (goal.at.returns-then-size-slot_at c).After-width-width, ← c.slot_at.ensures) (ne_eqb _ _ c.if-size-slot_at.true) in
    refused a.shape s (simp (h, both_false))

pub returns : goal.returns
returns c =
    let a = c.args in
    let s = a.cache.now in
    let C = capacity_for a.shape (length s) in
    let some : leb 1 C ≡ true = rw (← fitting (goal.at.returns c).After-width-width) (le-leb _ _ c.if-capacity-lt1.false) in
    let most : leb C a.shape.most ≡ true = rw (← fitting (goal.at.returns c).After-width-width) (le-leb _ _ c.if-capacity-most.false) in
    let size : eqb (length s) (size_of a.shape C) ≡ true = rw (← fitting (goal.at.returns c).After-width-width, ← c.slot_at.ensures) (eq-eqb _ _ c.if-size-slot_at.false) in
    rw (c.write_head.ensures, c.clear.ensures, fitting (goal.at.returns c).After-width-width) (granted a.shape s (simp (some, most, size)))
