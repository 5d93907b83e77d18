-- `sha256::behind` meets its contract: the masked block is compressed into the initial hash value.
use mathlib.Core.Path.{◌∙◌}
use Rattle.sha256.proofs.behind.Goals as goal

pub returns : goal.returns
returns c =
    c.compress.ensures ∙ rw (c.initial.ensures, c.mask.ensures)
