-- `unglassot::hash::unglassot_sha256` meets its contract: `give` of what `sha256` answers.
use mathlib.Core.Path.{◌∙◌}
use Rattle.codes.proofs.Signed.{read_back}
use Rattle.unglassot.proofs.hash.unglassot_sha256.Goals as goal

pub returns : goal.returns
returns c =
    let value = c.sha256.ensures in
    rw (← value) record { number = read_back c.give.result c.give.type_inv ∙ c.give.ensures.number; buffer = c.give.ensures.buffer }
