-- `octets::read_u16` meets its contract.
use mathlib.Core.Path.{◌∙◌}
use native.Mathlib.Omega.{arith}
use Rattle.octets.proofs.Numbers.{number_high_first}
use Rattle.octets.proofs.read_u16.Goals as goal

pub returns : goal.returns
returns c = c.from_be_bytes.ensures ∙ number_high_first c.args.at 1 c.args.s.now c.array.result (omega arith) c.array.ensures
