-- `checks::check_request` meets its contract: behind 1, which has passed, 18 at once, and behind it the segments in the table's order.
use mathlib.Core.Path.{◌≡◌, refl, sym}
use mathlib.Core.List.{◌++◌}
use Prim.Native.Nat.{ℕ}
use Rattle.record.specs.Refusals.{refusal}
use Rattle.record.specs.Ads.{ad_rows}
use Rattle.record.proofs.Refusals.{refused, last_passed}
use Rattle.record.proofs.Segments.{told_next, told_either}
use Rattle.cache.specs.Rows.{cache_rows, clock_rows}
use Rattle.cache.proofs.Rows.{head_there}
use Rattle.checks.specs.Rows.{form_rows, length_rows, vouched_rows, own_rows}
use Rattle.checks.proofs.Rows.{told_handed}
use Rattle.checks.proofs.check_request.Goals as goal
use Rattle.checks.proofs.check_request.Goals.{Else-not-terms}

pub returns-then-not-terms : goal.returns-then-not-terms
unfolding own_rows cache_rows form_rows
returns-then-not-terms c =
    told_next _ _ refl c.requires.passed refl (sym (refused 18 _ c.if-not-terms.true))

-- 1 and 18 have passed, so that the rows behind them decide
behind : (c : goal.Else-not-terms) (n : ℕ) → let a = c.args in
    n ≡ refusal (length_rows a.terms.window a.key.now a.reply.now ++ (clock_rows a.cache.now a.clock ++ (ad_rows a.shape.address a.shape.kinds.ad a.ad.now ++ vouched_rows a.vouched)))
    → n ≡ refusal (own_rows a.shape a.terms a.cache.now a.key.now a.clock a.ad.now a.vouched a.reply.now)
unfolding own_rows cache_rows form_rows
behind c n e = told_next _ _ refl c.requires.passed refl (told_next _ _ refl (sym (last_passed 18 c.if-not-terms.false)) refl e)

pub returns-in_err-check_length : goal.returns-in_err-check_length
returns-in_err-check_length c =
    behind (goal.at.returns-in_err-check_length c).Else-not-terms _ (told_handed _ _ c.from_residual.result _ c.from_residual.ensures.1 c.in_err-check_length.ensures)

pub check_clock-requires : goal.check_clock-requires
check_clock-requires c = head_there _ _ c.requires.sound c.requires.passed refl

pub returns-in_err-check_clock : goal.returns-in_err-check_clock
unfolding length_rows
returns-in_err-check_clock c =
    behind (goal.at.returns-in_err-check_clock c).Else-not-terms _
    (told_next _ _ refl c.in_ok-check_length.ensures refl
    (told_handed _ _ c.from_residual-in_err-check_clock.result _ c.from_residual-in_err-check_clock.ensures.1 c.in_err-check_clock.ensures))

pub returns-in_err-check_ad : goal.returns-in_err-check_ad
unfolding length_rows clock_rows
returns-in_err-check_ad c =
    behind (goal.at.returns-in_err-check_ad c).Else-not-terms _
    (told_next _ _ refl c.in_ok-check_length.ensures refl
    (told_next _ _ refl c.in_ok-check_clock.ensures refl
    (told_handed _ _ c.from_residual-in_err-check_ad.result _ c.from_residual-in_err-check_ad.ensures.1 c.in_err-check_ad.ensures)))

pub returns : goal.returns
unfolding length_rows clock_rows ad_rows
returns c =
    behind (goal.at.returns c).Else-not-terms _
    (told_next _ _ refl c.in_ok-check_length.ensures refl
    (told_next _ _ refl c.in_ok-check_clock.ensures refl
    (told_either _ _ refl refl c.in_ok-check_ad.ensures c.check_vouched.ensures)))
