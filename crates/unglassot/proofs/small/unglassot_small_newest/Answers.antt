-- `unglassot::small::unglassot_small_newest` meets its contract: the number for the place, and the place in the lent number.
use mathlib.Core.Path.{ap, ◌∙◌}
use Rattle.codes.specs.Codes.{place_number, offset_or}
use Rattle.codes.proofs.Signed.{read_back}
use borrow.Author.Rules.{rules}
use Rattle.unglassot.proofs.small.unglassot_small_newest.Goals as goal

pub returns : goal.returns
returns c =
    let p = c.for_place-answer in
    let e = c.small_newest_at-place.ensures in
    record { number = read_back p.result.0 (search rules) ∙ p.ensures.number ∙ ap place_number e; offset = p.ensures.beside ∙ ap (offset_or _) e }
