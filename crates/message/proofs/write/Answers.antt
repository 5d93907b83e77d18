-- `message::write` meets its contract: a row of the table for each refusal, and the message that was made put in front.
use mathlib.Core.Path.{◌≡◌, sym, ap, ◌∙◌}
use mathlib.Core.Bool.{true}
use mathlib.Core.List.{List}
use Prim.Native.Nat.{ℕ, ◌≤◌}
use native.Mathlib.Omega.{arith}
use lib.ListN.{length, take}
use lib.Seq.{length-take-le}
use borrow.Author.Rules.{rules}
use borrow.Author.Tests.{lt-ltb, le-ltb}
use Rattle.octets.specs.Runs.{put}
use Rattle.record.specs.Refusals.{refusal}
use Rattle.message.specs.Calls.{message_of, has_message, write_rows}
use Rattle.advertisement.proofs.Messages.{taken}
use Rattle.message.proofs.Answers.{message_sizes, write_refused, write_done}
use Rattle.message.proofs.write.Goals as goal
use Rattle.message.proofs.write.Goals.{After-fill_written-n, Else-not-has_message}

pub returns-then-not-has_message : goal.returns-then-not-has_message
unfolding write_rows refusal
returns-then-not-has_message c =
    let a = c.args in
    let f = sym c.has_message.ensures ∙ c.if-not-has_message.true in
    write_refused a.epoch a.ad.now a.out.now 16 (rw f) (λ z. omega arith)

-- the ad has a message
has : (c : goal.Else-not-has_message) → let a = c.args in has_message a.epoch a.ad.now ≡ true
has c = sym c.has_message.ensures ∙ c.if-not-has_message.false

pub fill_written-n-requires : goal.fill_written-n-requires
fill_written-n-requires c = (has (goal.at.fill_written-n-requires c).Else-not-has_message, search rules)

pub returns-then-out-n : goal.returns-then-out-n
unfolding write_rows refusal
returns-then-out-n c =
    let a = c.args in
    let b = c.fill_written-n.ensures.behind in
    write_refused a.epoch a.ad.now a.out.now 2 (rw (has (goal.at.returns-then-out-n c).Else-not-has_message, lt-ltb (length a.out.now) (length (message_of a.epoch a.ad.now)) (omega (arith, b, c.if-out-n.true)))) (λ z. omega arith)

-- the message is no longer than what it was made in
within : (w : goal.After-fill_written-n) → w.fill_written-n.result ≤ length w.fill_written-n.new.out
within w =
    let a = w.args in
    omega (arith, (message_sizes a.epoch a.ad.now (has (goal.at.After-fill_written-n w).Else-not-has_message)).most, w.fill_written-n.ensures.behind, w.fill_written-n.auto.out)

cut : (w : goal.After-fill_written-n) → length (take w.fill_written-n.result w.fill_written-n.new.out) ≡ w.fill_written-n.result
cut w = length-take-le _ _ (within w)

pub copy-requires : goal.copy-requires
copy-requires c = let i = c.if-out-n.false in omega (arith, cut (goal.at.copy-requires c).After-fill_written-n, i)

pub returns : goal.returns
unfolding write_rows refusal
returns c =
    let i = c.if-out-n.false in
    let a = c.args in
    let m = message_of a.epoch a.ad.now in
    let p = c.fill_written-n.ensures in
    let front : take c.fill_written-n.result c.fill_written-n.new.out ≡ m = ap (take c.fill_written-n.result) p.leaves ∙ taken m _ c.fill_written-n.result p.behind in
    write_done a.epoch a.ad.now a.out.now c.fill_written-n.result c.copy.new.dst
    (rw (has (goal.at.returns c).Else-not-has_message, le-ltb (length a.out.now) (length m) (omega (arith, p.behind, i)))) (omega (arith, p.behind))
    (c.copy.ensures ∙ ap (λ (l : List ℕ). put 0 l a.out.now) front)

pub slice_bounds-made-end : goal.slice_bounds-made-end
slice_bounds-made-end c = omega (arith, within (goal.at.slice_bounds-made-end c).After-fill_written-n)

pub slice_bounds-copy-end : goal.slice_bounds-copy-end
slice_bounds-copy-end c = sym (cut (goal.at.slice_bounds-copy-end c).After-fill_written-n)
