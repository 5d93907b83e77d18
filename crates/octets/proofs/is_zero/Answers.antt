-- `octets::is_zero` meets its contract: the whole blocks, and what is left.
use mathlib.Core.Path.{◌≡◌, ◌∙◌, ap}
use mathlib.Core.Bool.{Bool}
use mathlib.Core.List.{List}
use Prim.Native.Nat.{ℕ, ◌*◌, ◌/◌}
use native.Mathlib.Omega.{arith}
use borrow.Author.Rules.{rules}
use borrow.Author.Tests.{tests}
use lib.ListN.{length, drop, replicate}
use Rattle.std.specs.Prelude.{nat_eq}
use Rattle.std.specs.List.{list_all}
use Rattle.std.specs.Cmp.Lexicographic.{pointwise}
use Rattle.std.proofs.lemmas.Iterator.{YieldsList-from_slice}
use Rattle.std.proofs.lemmas.Iterator.Search.{all_from_yields_List}
use Rattle.octets.specs.Runs.{both, zeros}
use Rattle.octets.proofs.Words.{zero_blocks, list_all_zeros}
use Rattle.octets.proofs.is_zero.Goals as goal
use Rattle.octets.proofs.is_zero.Goals.{After-all}

-- the blocks, as `all` has looked at them
blocks : (c : After-all) → both c.all.result (zeros (drop (length c.args.s.now / 64 * 64) c.args.s.now)) ≡ zeros c.args.s.now
blocks c =
    let s = c.args.s.now in
    let test : List ℕ → Bool = λ x. pointwise nat_eq x (replicate 64 0) in
    let found = all_from_yields_List test _ _ c.all.result c.all.ensures.ran (YieldsList-from_slice c.as_chunks.result.0.now cc) (λ x b q k. search (rules, tests)) in
    ap (λ (b : Bool). both b (zeros (drop (length s / 64 * 64) s))) (found ∙ ap (list_all test) c.as_chunks.ensures.front) ∙ zero_blocks 64 (length s / 64) s (omega arith)

pub returns-then-all : goal.returns-then-all
returns-then-all c =
    let e = blocks (goal.at.returns-then-all c).After-all in
    let rest = c.as_chunks.result.1.now in
    all_from_yields_List (λ x. nat_eq x 0) _ _ c.all-then-all.result c.all-then-all.ensures.ran (YieldsList-from_slice rest cc) (λ x b q k. search (rules, tests))
    ∙ list_all_zeros rest ∙ ap zeros c.as_chunks.ensures.back ∙ (rw c.if-all.true at e)

pub returns-else-all : goal.returns-else-all
returns-else-all c =
    let e = blocks (goal.at.returns-else-all c).After-all in
    c.if-all.false ∙ (rw c.if-all.false at e)
