-- `unglassot::hash::unglassot_hmac` meets its contract: `give` of what `hmac` answers.
use mathlib.Core.Path.{◌∙◌}
use Rattle.codes.proofs.Signed.{read_back}
use Rattle.unglassot.proofs.hash.unglassot_hmac.Goals as goal

pub returns : goal.returns
returns c =
    let value = c.hmac.ensures in
    rw (← value) record { number = read_back c.give.result c.give.type_inv ∙ c.give.ensures.number; buffer = c.give.ensures.buffer }
