-- `unglassot::fields::unglassot_write_ad_v6` meets its contract: the record's reply, its number taken off 0.
use Rattle.codes.proofs.Signed.{read_back}
use mathlib.Core.Path.{◌∙◌}
use Rattle.unglassot.proofs.Answers.{replied}
use Rattle.unglassot.proofs.fields.unglassot_write_ad_v6.Goals as goal

pub returns : goal.returns
returns c =
    let both = replied c.write_ad_v6.ensures (read_back c.for_done.result c.for_done.type_inv ∙ c.for_done.ensures) in
    record { number = both.0; buffer = both.1 }
