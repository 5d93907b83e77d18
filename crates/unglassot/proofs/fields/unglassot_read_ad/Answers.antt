-- `unglassot::fields::unglassot_read_ad` meets its contract: the fields that were read, or what was there.
use mathlib.Core.Path.{refl, ◌∙◌}
use Rattle.record.proofs.Refusals.{number_not_0}
use Rattle.codes.proofs.Signed.{read_back}
use Rattle.unglassot.proofs.Kept.{kept}
use Rattle.unglassot.proofs.fields.unglassot_read_ad.Goals as goal

pub returns-in-Ok : goal.returns-in-Ok
returns-in-Ok c = rw (← c.read_ad.ensures, c.in-Ok.is) record { number = refl; service = refl; peer = refl; address = refl; port = refl; stamp = refl; signature = refl }

pub returns-in-Err : goal.returns-in-Err
returns-in-Err c =
    let some = number_not_0 c.in-Err.refusal in
    rw (← c.read_ad.ensures, c.in-Err.is) record { number = read_back c.for_done.result c.for_done.type_inv ∙ c.for_done.ensures; service = kept _ _ _ some; peer = kept _ _ _ some; address = kept _ _ _ some; port = kept _ _ _ some; stamp = kept _ _ _ some; signature = kept _ _ _ some }
