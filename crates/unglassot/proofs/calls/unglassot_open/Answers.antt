-- `unglassot::calls::unglassot_open` meets its contract: what `open` answers for the family that the number tells, or refusal 1.
use mathlib.Core.Path.{refl, ap, ◌∙◌}
use Rattle.codes.specs.Codes.{minus}
use Rattle.codes.proofs.Signed.{read_back}
use Rattle.unglassot.proofs.calls.unglassot_open.Goals as goal
use Rattle.unglassot.proofs.calls.unglassot_open.Goals.{After-open}

pub returns-in-Some : goal.returns-in-Some
returns-in-Some c =
    rw (← c.family_told.ensures, c.in-Some.is)
    record { number = read_back c.for_done.result c.for_done.type_inv ∙ c.for_done.ensures ∙ ap minus (goal.at.returns-in-Some c).After-open.«open».ensures.answered; cache = (goal.at.returns-in-Some c).After-open.«open».ensures.leaves }

pub returns-in-None : goal.returns-in-None
returns-in-None c =
    rw (← c.family_told.ensures, c.in-None.is)
    record { number = read_back c.for_done-in-None.result c.for_done-in-None.type_inv ∙ c.for_done-in-None.ensures; cache = refl }
