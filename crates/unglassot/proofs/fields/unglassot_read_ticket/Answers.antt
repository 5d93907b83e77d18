-- `unglassot::fields::unglassot_read_ticket` meets its contract: the fields that were read, or what was there.
use mathlib.Core.Path.{refl, ◌∙◌}
use Rattle.record.proofs.Refusals.{number_not_0}
use Rattle.codes.proofs.Signed.{read_back}
use Rattle.unglassot.proofs.Kept.{kept}
use Rattle.unglassot.proofs.fields.unglassot_read_ticket.Goals as goal

pub returns-in-Ok : goal.returns-in-Ok
returns-in-Ok c = rw (← c.read_ticket.ensures, c.in-Ok.is) record { number = refl; hash = refl; first = refl; issued = refl; wait = refl }

pub returns-in-Err : goal.returns-in-Err
returns-in-Err c =
    let some = number_not_0 c.in-Err.refusal in
    rw (← c.read_ticket.ensures, c.in-Err.is) record { number = read_back c.for_done.result c.for_done.type_inv ∙ c.for_done.ensures; hash = kept _ _ _ some; first = kept _ _ _ some; issued = kept _ _ _ some; wait = kept _ _ _ some }
