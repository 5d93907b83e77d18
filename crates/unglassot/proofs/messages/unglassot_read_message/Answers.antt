-- `unglassot::messages::unglassot_read_message` meets its contract: the reply's number taken off 0.
use Rattle.codes.proofs.Signed.{read_back}
use mathlib.Core.Path.{◌∙◌}
use Rattle.unglassot.proofs.Answers.{replied}
use Rattle.unglassot.proofs.messages.unglassot_read_message.Goals as goal

pub returns : goal.returns
returns c =
    let both = replied c.read.ensures (read_back c.for_done.result c.for_done.type_inv ∙ c.for_done.ensures) in
    record { number = both.0; buffer = both.1 }
