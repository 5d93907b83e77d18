-- `octets::write_u64` meets its contract: the part that was lent comes back as the number's bytes.
use mathlib.Core.Path.{◌∙◌}
use Rattle.octets.proofs.Numbers.{put_high_first}
use Rattle.octets.proofs.write_u64.Goals as goal

pub returns : goal.returns
returns c = put_high_first c.args.at 8 c.args.x c.args.s.now c.copy_from_slice.new.self (c.copy_from_slice.ensures.after ∙ c.to_be_bytes.ensures)
