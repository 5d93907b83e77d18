-- `listing::check_call` meets its contract: refusal 1 at once, then 2 or else 3.
use mathlib.Core.Path.{refl, ap, ◌∙◌}
use Rattle.record.specs.Refusals.{code}
use Rattle.record.proofs.Refusals.{handed_on, number_not_0}
use Rattle.record.proofs.Segments.{told_first, told_next}
use Rattle.cache.specs.Rows.{cache_rows}
use Rattle.cache.proofs.Rows.{head_there}
use Rattle.listing.specs.Listing.{length_rows, rows}
use Rattle.listing.proofs.check_call.Goals as goal

pub returns-in_err-check_cache : goal.returns-in_err-check_cache
unfolding rows
returns-in_err-check_cache c =
    let e = c.in_err-check_cache.field-0.0 in
    ap code (handed_on c.from_residual.result e c.from_residual.ensures.1) ∙ told_first _ _ c.in_err-check_cache.ensures (number_not_0 e)

pub returns-in_err-check_lengths : goal.returns-in_err-check_lengths
unfolding rows cache_rows length_rows
returns-in_err-check_lengths c =
    let e = c.in_err-check_lengths.field-0.0 in
    ap code (handed_on c.from_residual-in_err-check_lengths.result e c.from_residual-in_err-check_lengths.ensures.1)
    ∙ told_next _ _ refl c.in_ok-check_cache.ensures refl (told_first _ _ c.in_err-check_lengths.ensures (number_not_0 e))

pub check_clock-requires : goal.check_clock-requires
check_clock-requires c = head_there _ _ c.requires c.in_ok-check_cache.ensures refl

pub returns : goal.returns
unfolding rows cache_rows length_rows
returns c = told_next _ _ refl c.in_ok-check_cache.ensures refl (told_next _ _ refl c.in_ok-check_lengths.ensures refl c.check_clock.ensures)
