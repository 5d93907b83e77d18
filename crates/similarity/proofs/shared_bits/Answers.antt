-- `similarity::shared_bits` meets its contract: the first words decide, or the second do, or none differs.
use borrow.Author.Tests.{leb-true, leb-false}
use mathlib.Core.Path.{◌≡◌, refl, sym, ap, ◌∙◌}
use mathlib.Core.Bool.{Bool, true, false}
use mathlib.Core.Logic.{◌⊎◌, inl, inr}
use Prim.Native.Nat.{ℕ, ◌+◌, ◌-◌, ◌*◌, min}
use native.Mathlib.Omega.{arith}
use lib.Dec.{leb}
use Rattle.octets.specs.Numbers.{number, Octets}
use Rattle.octets.specs.Runs.{part}
use Rattle.similarity.specs.Bits.{shared}
use Rattle.similarity.proofs.Bits.{shared_le}
use Rattle.similarity.proofs.Words.{first_decides, second_decides, none_differs}
use Rattle.similarity.proofs.shared_bits.Goals as goal
use Rattle.similarity.proofs.shared_bits.Goals.{After-differing-first, After-differing-second, After-min-front}

-- an address has its first word full, or nothing behind it
words : (b m : ℕ) → m ≡ min b 8 → (m ≡ 8) ⊎ (b - m ≡ 0)
words b m e = go (leb 8 b) refl
  where
    go : (t : Bool) → leb 8 b ≡ t → (m ≡ 8) ⊎ (b - m ≡ 0)
    go true h = inl (omega (arith, leb-true 8 b h))
    go false h = inr (omega (arith, leb-false 8 b h))

octets-x : (c : goal.After-min-front) → Octets c.args.x.now
octets-x c i = (c.type_inv.x i).fits

octets-y : (c : goal.After-min-front) → Octets c.args.y.now
octets-y c i = (c.type_inv.y i).fits

-- the bytes in the first word, and those behind it, are all
all : (c : goal.After-min-front) → c.min-front.result + (c.args.bytes - c.min-front.result) ≡ c.args.bytes
all c = omega (arith, c.min-front.ensures)

-- the bits that are asked for
abbrev asked : goal.After-min-front → ℕ
asked c = let a = c.args in shared (8 * a.bytes) (number (part 0 a.bytes a.x.now)) (number (part 0 a.bytes a.y.now))

by_first : (c : goal.After-differing-first) → (c.differing-first.result ≡ 0 → ⊥) → asked (goal.at.After-differing-first c).After-min-front ≡ shared 64 c.differing-first.result 0
by_first c d =
    let a = c.args in
    let m = c.min-front.result in
    let u = c.read_u64 in
    let v = c.read_u64-2 in
    rw (all (goal.at.After-differing-first c).After-min-front) at
    (rw (← c.differing-first.ensures) at
    (first_decides m (a.bytes - m) u.result v.result a.x.now a.y.now u.ensures v.ensures (omega (arith, c.min-front.ensures)) (omega (arith, c.min-front.ensures))
    (omega arith) (omega arith) (octets-x (goal.at.After-differing-first c).After-min-front) (octets-y (goal.at.After-differing-first c).After-min-front) (omega arith) (omega arith)
    (rw c.differing-first.ensures at d)))

pub returns-then-first-ne0 : goal.returns-then-first-ne0
returns-then-first-ne0 c = c.leading_zeros.ensures ∙ sym (by_first (goal.at.returns-then-first-ne0 c).After-differing-first c.if-first-ne0.true)

by-second : (c : goal.After-differing-second) → (c.differing-second.result ≡ 0 → ⊥) → asked (goal.at.After-differing-second c).After-min-front ≡ 8 * c.min-front.result + shared 64 c.differing-second.result 0
by-second c e =
    let a = c.args in
    let m = c.min-front.result in
    let u = c.read_u64 in
    let v = c.read_u64-2 in
    let u2 = c.read_u64-3 in
    let v2 = c.read_u64-4 in
    rw (all (goal.at.After-differing-second c).After-min-front) at
    (rw (← c.differing-second.ensures) at
    (second_decides m (a.bytes - m) u.result v.result a.x.now a.y.now u.ensures v.ensures (omega (arith, c.min-front.ensures)) (omega (arith, c.min-front.ensures))
    (omega arith) (omega arith) (octets-x (goal.at.After-differing-second c).After-min-front) (octets-y (goal.at.After-differing-second c).After-min-front) (omega arith) (omega arith) u2.result v2.result u2.ensures v2.ensures
    (words a.bytes m c.min-front.ensures) (sym c.differing-first.ensures ∙ c.if-first-ne0.false) (omega arith) (omega arith)
    (rw c.differing-second.ensures at e)))

by-none : (c : goal.After-differing-second) → c.differing-second.result ≡ 0 → asked (goal.at.After-differing-second c).After-min-front ≡ 8 * c.args.bytes
by-none c e =
    let a = c.args in
    let m = c.min-front.result in
    let u = c.read_u64 in
    let v = c.read_u64-2 in
    let u2 = c.read_u64-3 in
    let v2 = c.read_u64-4 in
    let n = none_differs m (a.bytes - m) u.result v.result a.x.now a.y.now u.ensures v.ensures (omega (arith, c.min-front.ensures)) (omega (arith, c.min-front.ensures))
    (omega arith) (omega arith) (octets-x (goal.at.After-differing-second c).After-min-front) (octets-y (goal.at.After-differing-second c).After-min-front) (omega arith) (omega arith) u2.result v2.result u2.ensures v2.ensures
    (words a.bytes m c.min-front.ensures) (sym c.differing-first.ensures ∙ c.if-first-ne0.false) (omega arith) (omega arith)
    (sym c.differing-second.ensures ∙ e) in
    (rw (all (goal.at.After-differing-second c).After-min-front) at n) ∙ omega (arith, all (goal.at.After-differing-second c).After-min-front)

pub returns-then-second-ne0 : goal.returns-then-second-ne0
returns-then-second-ne0 c =
    ap (λ (k : ℕ). 8 * c.min-front.result + k) c.leading_zeros-then-second-ne0.ensures ∙ sym (by-second (goal.at.returns-then-second-ne0 c).After-differing-second c.if-second-ne0.true)

pub overflow_add-result : goal.overflow_add-result
overflow_add-result c = omega (arith, c.min-front.ensures, c.leading_zeros-then-second-ne0.ensures, shared_le 64 c.differing-second.result 0)

pub returns : goal.returns
returns c = sym (by-none (goal.at.returns c).After-differing-second c.if-second-ne0.false)
