-- `unglassot::calls::unglassot_service_id` meets its contract: the registrar's reply, its number taken off 0.
use mathlib.Core.Path.{◌∙◌}
use Rattle.unglassot.proofs.Answers.{replied}
use Rattle.codes.proofs.Signed.{read_back}
use Rattle.unglassot.proofs.calls.unglassot_service_id.Goals as goal

pub returns : goal.returns
returns c =
    let both = replied c.service_id.ensures (read_back c.for_done.result c.for_done.type_inv ∙ c.for_done.ensures) in
    record { number = both.0; buffer = both.1 }
