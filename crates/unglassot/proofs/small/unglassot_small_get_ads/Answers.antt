-- `unglassot::small::unglassot_small_get_ads` meets its contract: the number for what the registrar answers, which lists at most ten.
use mathlib.Core.Path.{sym, ap, ◌∙◌}
use Rattle.listing.proofs.Since.{few_since}
use Rattle.codes.specs.Codes.{listed_number}
use Rattle.codes.proofs.Signed.{read_back}
use Rattle.unglassot.proofs.Answers.{listed_few}
use Rattle.unglassot.proofs.small.unglassot_small_get_ads.Goals as goal

pub for_listing-requires : goal.for_listing-requires
for_listing-requires c n e = listed_few _ _ n (sym c.small_get_ads.ensures.answered ∙ e) (few_since _ _ _ _ _ _)

pub returns : goal.returns
returns c =
    let g = c.small_get_ads.ensures in
    record { number = read_back c.for_listing.result c.for_listing.type_inv ∙ c.for_listing.ensures ∙ ap listed_number g.answered; buffer = g.leaves }
