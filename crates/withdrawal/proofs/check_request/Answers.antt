-- `withdrawal::check_request` meets its contract: the segments in the table's order.
use mathlib.Core.Path.{refl, ap, ◌∙◌}
use Rattle.record.specs.Refusals.{code}
use Rattle.record.proofs.Refusals.{handed_on, number_not_0}
use Rattle.record.proofs.Segments.{told_first, told_next, told_either}
use Rattle.cache.specs.Rows.{cache_rows, clock_rows}
use Rattle.cache.proofs.Rows.{head_there}
use Rattle.withdrawal.specs.Withdrawing.{pair_rows, request_rows}
use Rattle.withdrawal.proofs.check_request.Goals as goal

pub returns-in_err-check_cache : goal.returns-in_err-check_cache
unfolding request_rows
returns-in_err-check_cache c =
    let e = c.in_err-check_cache.field-0.0 in
    ap code (handed_on c.from_residual.result e c.from_residual.ensures.1) ∙ told_first _ _ c.in_err-check_cache.ensures (number_not_0 e)

pub returns-in_err-check_pair : goal.returns-in_err-check_pair
unfolding request_rows cache_rows
returns-in_err-check_pair c =
    let e = c.in_err-check_pair.field-0.0 in
    ap code (handed_on c.from_residual-in_err-check_pair.result e c.from_residual-in_err-check_pair.ensures.1)
    ∙ told_next _ _ refl c.in_ok-check_cache.ensures refl (told_first _ _ c.in_err-check_pair.ensures (number_not_0 e))

pub check_clock-requires : goal.check_clock-requires
check_clock-requires c = head_there _ _ c.requires c.in_ok-check_cache.ensures refl

pub returns-in_err-check_clock : goal.returns-in_err-check_clock
unfolding request_rows cache_rows pair_rows
returns-in_err-check_clock c =
    let e = c.in_err-check_clock.field-0.0 in
    ap code (handed_on c.from_residual-in_err-check_clock.result e c.from_residual-in_err-check_clock.ensures.1)
    ∙ told_next _ _ refl c.in_ok-check_cache.ensures refl (told_next _ _ refl c.in_ok-check_pair.ensures refl (told_first _ _ c.in_err-check_clock.ensures (number_not_0 e)))

pub returns : goal.returns
unfolding request_rows cache_rows pair_rows clock_rows
returns c =
    told_next _ _ refl c.in_ok-check_cache.ensures refl
    (told_next _ _ refl c.in_ok-check_pair.ensures refl (told_either _ _ refl refl c.in_ok-check_clock.ensures c.check_vouched.ensures))
