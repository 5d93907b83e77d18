-- `message::read` meets its contract: a row of the table for each return.
use mathlib.Core.Path.{◌≡◌, refl, sym, ◌∙◌}
use mathlib.Core.Bool.{true}
use native.Mathlib.Omega.{arith}
use borrow.Author.Tests.{eq-eqb, ne_eqb, lt-ltb, le-ltb}
use Rattle.record.specs.Refusals.{refusal}
use Rattle.record.proofs.Refusals.{replied_refused, replied_done}
use Rattle.advertisement.specs.Advertisement.{accepted}
use Rattle.message.specs.Calls.{read_rows, message_read}
use Rattle.message.proofs.read.Goals as goal
use Rattle.message.proofs.read.Goals.{Else-not-is_accepted}

pub returns-then-ad : goal.returns-then-ad
unfolding message_read read_rows refusal
returns-then-ad c = replied_refused 2 _ _ _ (rw (ne_eqb _ _ c.if-ad.true)) (λ z. omega arith)

pub returns-then-epoch-ge-EPOCH_END : goal.returns-then-epoch-ge-EPOCH_END
unfolding message_read read_rows refusal
returns-then-epoch-ge-EPOCH_END c = replied_refused 16 _ _ _ (rw (eq-eqb _ _ c.if-ad.false, le-ltb _ _ c.if-epoch-ge-EPOCH_END.true)) (λ z. omega arith)

pub returns-then-not-is_accepted : goal.returns-then-not-is_accepted
unfolding message_read read_rows refusal
returns-then-not-is_accepted c =
    let f = sym c.is_accepted.ensures ∙ c.if-not-is_accepted.true in
    replied_refused 15 _ _ _ (rw (eq-eqb _ _ c.if-ad.false, lt-ltb _ _ c.if-epoch-ge-EPOCH_END.false, f)) (λ z. omega arith)

is : (c : goal.Else-not-is_accepted) → let a = c.args in accepted a.epoch a.message.now ≡ true
is c = sym c.is_accepted.ensures ∙ c.if-not-is_accepted.false

pub fill_read-requires : goal.fill_read-requires
fill_read-requires c = (c.if-ad.false, c.if-epoch-ge-EPOCH_END.false, is (goal.at.fill_read-requires c).Else-not-is_accepted)

pub returns : goal.returns
unfolding message_read read_rows refusal
returns c =
    replied_done 0 _ _ _ _ (rw (eq-eqb _ _ c.if-ad.false, lt-ltb _ _ c.if-epoch-ge-EPOCH_END.false, is (goal.at.returns c).Else-not-is_accepted)) refl c.fill_read.ensures
