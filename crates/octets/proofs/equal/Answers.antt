-- `octets::equal` meets its contract: the whole words, and what is left.
use mathlib.Core.Path.{◌≡◌, ◌∙◌, ap, ap₂, sym}
use mathlib.Core.Bool.{Bool}
use Prim.Native.Nat.{ℕ, ◌*◌, ◌/◌}
use native.Mathlib.Omega.{arith}
use borrow.Author.Rules.{rules}
use borrow.Author.Tests.{tests}
use lib.ListN.{length, drop}
use Rattle.std.specs.List.{list_all, zip}
use Rattle.std.specs.Simd.{first_chunks}
use Rattle.std.proofs.lemmas.Iterator.{YieldsList-from_slice, YieldsList-from_zip}
use Rattle.std.proofs.lemmas.Iterator.Search.{all_from_yields_List}
use Rattle.octets.specs.Numbers.{Octets}
use Rattle.octets.specs.Runs.{both, same}
use Rattle.octets.proofs.Runs.{same_lengths}
use Rattle.octets.proofs.Words.{word_test, pointwise_same, same_words}
use Rattle.octets.proofs.equal.Goals as goal
use Rattle.octets.proofs.equal.Goals.{After-all}

pub returns-then-a-b : goal.returns-then-a-b
returns-then-a-b c = sym (same_lengths c.args.a.now c.args.b.now c.if-a-b.true)

-- the words, as `all` has looked at them
words : (c : After-all) → both c.all.result (same (drop (length c.args.a.now / 8 * 8) c.args.a.now) (drop (length c.args.a.now / 8 * 8) c.args.b.now)) ≡ same c.args.a.now c.args.b.now
words c =
    let s = c.args.a.now in
    let t = c.args.b.now in
    let k = length s / 8 in
    let a-words = c.as_chunks.result.0.now in
    let b-words = c.as_chunks-2.result.0.now in
    let octets-s : Octets s = λ i. (c.type_inv.a i).fits in
    let octets-t : Octets t = λ i. (c.type_inv.b i).fits in
    let found = all_from_yields_List word_test c.all.new.self _ c.all.result c.all.ensures.ran (YieldsList-from_zip (YieldsList-from_slice a-words cc) (YieldsList-from_slice b-words cc)) (λ x b q k. search (rules, tests)) in
    let fronts = ap₂ zip c.as_chunks.ensures.front (c.as_chunks-2.ensures.front ∙ ap (λ (n : ℕ). first_chunks 8 (n / 8) t) (sym c.if-a-b.false)) in
    ap (λ (b : Bool). both b (same (drop (k * 8) s) (drop (k * 8) t))) (found ∙ ap (list_all word_test) fronts)
    ∙ same_words k s t octets-s octets-t (omega arith) (omega arith)

pub returns-then-all : goal.returns-then-all
returns-then-all c =
    let e = words (goal.at.returns-then-all c).After-all in
    let t = c.args.b.now in
    let a-rest = c.as_chunks.result.1.now in
    let b-rest = c.as_chunks-2.result.1.now in
    c.eq.ensures ∙ pointwise_same a-rest b-rest
    ∙ ap₂ same c.as_chunks.ensures.back (c.as_chunks-2.ensures.back ∙ ap (λ (n : ℕ). drop (n / 8 * 8) t) (sym c.if-a-b.false))
    ∙ (rw c.if-all.true at e)

pub returns-else-all : goal.returns-else-all
returns-else-all c =
    let e = words (goal.at.returns-else-all c).After-all in
    c.if-all.false ∙ (rw c.if-all.false at e)
