-- `octets::move_run` meets its contract: the second copy takes from the array what the first has put there.
use mathlib.Core.Path.{◌≡◌, ap, ◌∙◌}
use mathlib.Core.List.{List}
use Prim.Native.Nat.{ℕ, ◌+◌}
use lib.ListN.{length, take, drop, replicate}
use lib.Seq.{take_at}
use borrow.Author.Rules.{rules}
use Rattle.octets.specs.Runs.{part, put}
use Rattle.octets.proofs.Runs.{length_part, lent_part}
use Rattle.octets.proofs.move_run.Goals as goal

-- what was put in front of a list, lent from there
lent_front : (n : ℕ) (p d : List ℕ) → length p ≡ n → take n (put 0 p d) ≡ p
unfolding put
lent_front n p d e = take_at p (drop (0 + length p) d) n e

pub returns : goal.returns
returns c =
    let a = c.args in
    let p = part a.from a.n a.s.now in
    let array = c.copy.ensures ∙ ap (λ (l : List ℕ). put 0 l (replicate 32768 0)) (lent_part a.from a.n a.s.now) in
    c.copy-2.ensures
    ∙ ap (λ (l : List ℕ). put a.to l a.s.now)
    (ap (take a.n) array ∙ lent_front a.n p (replicate 32768 0) (length_part a.from a.n a.s.now (search rules)))
