-- `octets::word_u64` meets its contract.
use mathlib.Core.Path.{◌∙◌}
use native.Mathlib.Omega.{arith}
use Rattle.octets.proofs.Words.{number_low_first}
use Rattle.octets.proofs.word_u64.Goals as goal

pub returns : goal.returns
returns c = c.from_le_bytes.ensures ∙ number_low_first c.args.at 7 c.args.s.now c.array.result (omega arith) c.array.ensures
