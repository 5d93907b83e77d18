-- `sha256::sha256` meets its contract: nothing comes before the message.
use mathlib.Core.Path.{◌∙◌}
use native.Mathlib.Nat.{zero-add}
use Rattle.sha256.specs.Digest.{sha256_of}
use Rattle.sha256.proofs.sha256.Goals as goal

pub returns : goal.returns
unfolding sha256_of
returns c = c.digest.ensures ∙ rw (zero-add, c.initial.ensures)
