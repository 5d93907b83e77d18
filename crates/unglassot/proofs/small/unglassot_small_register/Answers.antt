-- `unglassot::small::unglassot_small_register` meets its contract: the number for what the registrar answers, and how many entries moved.
use mathlib.Core.Path.{sym, ap, ◌∙◌}
use Rattle.admission.specs.Deciding.{moves_or}
use Rattle.codes.proofs.Signed.{read_back}
use Rattle.unglassot.proofs.Answers.{waits_little, kept_in_numbers}
use borrow.Author.Rules.{rules}
use Rattle.unglassot.proofs.small.unglassot_small_register.Goals as goal

pub for_registration-answer-requires : goal.for_registration-answer-requires
for_registration-answer-requires c m k e = waits_little _ _ _ m k (sym c.small_register-answered.ensures.answered ∙ e)

pub returns : goal.returns
returns c =
    let t = c.for_registration-answer in
    let r = c.small_register-answered.ensures in
    rw (← c.is_vouched-is_vouched.ensures)
    record { kept = kept_in_numbers r (read_back t.result.0 (search rules) ∙ t.ensures.number); moves = t.ensures.beside ∙ ap (moves_or _) r.answered }
