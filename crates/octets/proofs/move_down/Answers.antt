use mathlib.Core.Path.{◌≡◌, sym, ap, ◌∙◌}
use mathlib.Core.List.{List}
use Prim.Native.Nat.{ℕ, ◌+◌, ◌≤◌, min}
use native.Mathlib.Omega.{arith}
use lib.ListN.{length}
use Rattle.octets.specs.Runs.{part, put}
use Rattle.octets.proofs.Runs.{length_part, part_add, part_none, part_put_behind, put_next, put_none}
use Rattle.octets.proofs.move_down.Goals as goal

-- where the first k bytes are moved, m more
moved_on : (to from k m n : ℕ) (s t : List ℕ) → to ≤ from → from + n ≤ length s → k + m ≡ n → t ≡ put to (part from k s) s
    → put (to + k) (part (from + k) m t) t ≡ put to (part from n s) s
moved_on to from k m n s t h f g e =
    let p = part from k s in
    let q = part (from + k) m s in
    let long : length p ≡ k = length_part from k s (omega arith) in
    ap (λ (l : List ℕ). put (to + k) (part (from + k) m l) l) e
    ∙ ap (λ (r : List ℕ). put (to + k) r (put to p s)) (part_put_behind to s (omega arith) p (from + k) m (omega arith))
    ∙ ap (λ (i : ℕ). put (to + i) q (put to p s)) (sym long)
    ∙ put_next to s (omega arith) p q
    ∙ ap (λ (r : List ℕ). put to r s) (sym (part_add from k m s) ∙ ap (λ (i : ℕ). part from i s) g)

pub loop-done-init : goal.loop-done-init
loop-done-init c =
    let a = c.args in
    let none : min a.n 0 ≡ 0 = omega arith in
    sym (rw (none, part_none) (put_none a.to a.s.now))

pub loop-done-preserved : goal.loop-done-preserved
loop-done-preserved c =
    let a = c.args in
    let d = c.loop-done.done in
    let here : min a.n d ≡ d = omega arith in
    c.move_run.ensures
    ∙ moved_on a.to a.from d c.min.result (min a.n (d + 32768)) a.s.now c.loop-done.s (omega arith) (omega arith) (omega arith) (rw here at c.loop-done.invariant)

pub returns-2 : goal.returns-2
returns-2 c =
    let a = c.args in
    let d = c.loop-done.done in
    let here : min a.n d ≡ d = omega arith in
    c.move_run.ensures
    ∙ moved_on a.to a.from d c.min.result a.n a.s.now c.loop-done.s (omega arith) (omega arith) (omega arith) (rw here at c.loop-done.invariant)
