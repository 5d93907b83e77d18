-- `search::check_as` meets its contract: the second cache's rows are asked where the first's give none.
use mathlib.Core.Path.{refl, ap, ◌∙◌}
use Rattle.record.specs.Refusals.{code}
use Rattle.record.proofs.Refusals.{handed_on, number_not_0}
use Rattle.record.proofs.Segments.{told_first, told_next}
use Rattle.search.proofs.Answers.{ask_numbered}
use Rattle.search.proofs.check_as.Goals as goal

pub returns-in_err-check_ask : goal.returns-in_err-check_ask
returns-in_err-check_ask c =
    let e = c.in_err-check_ask.field-0.0 in
    ap code (handed_on c.from_residual.result e c.from_residual.ensures.1) ∙ told_first _ _ c.in_err-check_ask.ensures (number_not_0 e)

pub returns : goal.returns
returns c = told_next _ _ (ask_numbered _ _ _ _) c.in_ok-check_ask.ensures refl c.check_ask-2.ensures
