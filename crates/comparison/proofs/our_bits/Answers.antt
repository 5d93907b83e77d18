-- `comparison::our_bits` meets its contract.
use Rattle.comparison.specs.Records.{ours}
use Rattle.comparison.proofs.Facts.{numbers, number_is_told}
use Rattle.comparison.proofs.our_bits.Goals as goal

pub float_to_bits-result : goal.float_to_bits-result
float_to_bits-result c =
    number_is_told _ (c.wait-wait.ensures.in_order_proper c.args.told.capacity c.settings_for-settings.ensures (numbers c.args.told c.requires)).above_zero

pub returns : goal.returns
unfolding ours
returns c = rw (c.wait-wait.ensures.works_out, c.settings_for-settings.ensures)
