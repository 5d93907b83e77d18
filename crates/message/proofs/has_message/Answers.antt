-- `message::has_message` meets its contract: a condition for each test.
use mathlib.Core.Path.{◌≡◌, sym, ◌∙◌}
use native.Mathlib.Omega.{arith}
use borrow.Author.Tests.{eq-eqb, ne_eqb, lt-ltb, le-ltb, le-leb, lt-leb}
use Rattle.record.specs.Layout.{ad_kind, address_size}
use Rattle.record.specs.Refusals.{refusal}
use Rattle.record.specs.Ads.{ad_rows}
use Rattle.record.proofs.Refusals.{err_code, ok_code}
use Rattle.record.proofs.Ads.{ad_accepted}
use Rattle.message.specs.Calls.{has_message, stamp_of}
use Rattle.message.proofs.Answers.{stamp_read}
use Rattle.message.proofs.has_message.Goals as goal
use Rattle.message.proofs.has_message.Goals.{After-read_u64-stamp, Else-is_err}

pub returns-then-is_err : goal.returns-then-is_err
unfolding has_message
returns-then-is_err c = rw (ne_eqb _ 0 (λ z. err_code c.check_ad.result (sym c.is_err.ensures.value ∙ c.if-is_err.true) (c.check_ad.ensures ∙ z)))

none : (c : goal.Else-is_err) → refusal (ad_rows address_size ad_kind c.args.ad.now) ≡ 0
none c = sym c.check_ad.ensures ∙ ok_code c.check_ad.result (sym c.is_err.ensures.value ∙ c.if-is_err.false)

pub returns-then-epoch-ge-EPOCH_END : goal.returns-then-epoch-ge-EPOCH_END
unfolding has_message
returns-then-epoch-ge-EPOCH_END c = rw (eq-eqb _ 0 (none (goal.at.returns-then-epoch-ge-EPOCH_END c).Else-is_err), le-ltb _ _ c.if-epoch-ge-EPOCH_END.true)

pub read_u64-stamp-requires : goal.read_u64-stamp-requires
read_u64-stamp-requires c = let s = (ad_accepted address_size ad_kind c.args.ad.now (none (goal.at.read_u64-stamp-requires c).Else-is_err)).size in omega arith

-- the stamp that was read is the ad's
is-stamp : (c : goal.After-read_u64-stamp) → stamp_of c.args.ad.now ≡ c.read_u64-stamp.result
is-stamp c = stamp_read c.args.ad.now ∙ sym c.read_u64-stamp.ensures

pub returns-then-stamp-gt-LAST_CLOCK : goal.returns-then-stamp-gt-LAST_CLOCK
unfolding has_message
returns-then-stamp-gt-LAST_CLOCK c =
    rw (eq-eqb _ 0 (none (goal.at.returns-then-stamp-gt-LAST_CLOCK c).Else-is_err), lt-ltb _ _ c.if-epoch-ge-EPOCH_END.false, is-stamp (goal.at.returns-then-stamp-gt-LAST_CLOCK c).After-read_u64-stamp, lt-leb _ _ c.if-stamp-gt-LAST_CLOCK.true)

pub returns : goal.returns
unfolding has_message
returns c =
    rw (eq-eqb _ 0 (none (goal.at.returns c).Else-is_err), lt-ltb _ _ c.if-epoch-ge-EPOCH_END.false, is-stamp (goal.at.returns c).After-read_u64-stamp, le-leb _ _ c.if-stamp-gt-LAST_CLOCK.false)
