-- `unglassot::small::unglassot_small_withdraw` meets its contract: the registrar's number taken off 0, and the cache that it leaves.
use mathlib.Core.Path.{◌∙◌}
use Rattle.unglassot.proofs.Answers.{replied}
use Rattle.codes.proofs.Signed.{read_back}
use Rattle.unglassot.proofs.small.unglassot_small_withdraw.Goals as goal

pub returns : goal.returns
returns c =
    let both = replied c.small_withdraw.ensures (read_back c.for_done.result c.for_done.type_inv ∙ c.for_done.ensures) in
    rw (← c.is_vouched-is_vouched.ensures) record { number = both.0; cache = both.1 }
