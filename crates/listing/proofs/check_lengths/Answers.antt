-- `listing::check_lengths` meets its contract.
use mathlib.Core.Path.{sym, ◌∙◌}
use Rattle.record.proofs.Refusals.{refused, passed, last_passed, differ, agree}
use Rattle.listing.specs.Listing.{length_rows}
use Rattle.listing.proofs.check_lengths.Goals as goal

pub returns-then-service-ne-IDENTIFIER_SIZE : goal.returns-then-service-ne-IDENTIFIER_SIZE
unfolding length_rows
returns-then-service-ne-IDENTIFIER_SIZE c = sym (refused 2 _ (differ _ _ c.if-service-ne-IDENTIFIER_SIZE.true))

pub returns-then-size-buffer_size : goal.returns-then-size-buffer_size
unfolding length_rows
returns-then-size-buffer_size c =
    sym (passed 2 _ (agree _ _ c.if-service-ne-IDENTIFIER_SIZE.false) ∙ refused 2 _ (differ _ _ (λ e. c.if-size-buffer_size.true (e ∙ sym c.buffer_size.ensures))))

pub returns : goal.returns
unfolding length_rows
returns c =
    sym (passed 2 _ (agree _ _ c.if-service-ne-IDENTIFIER_SIZE.false) ∙ last_passed 2 (agree _ _ (c.if-size-buffer_size.false ∙ c.buffer_size.ensures)))
