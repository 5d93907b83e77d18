-- `sha256::tag` meets its contract: both passes go on behind the key's block.
use mathlib.Core.Path.{◌∙◌}
use Rattle.sha256.specs.Hmac.{digest_behind, tag_by}
use Rattle.sha256.proofs.tag.Goals as goal

pub returns : goal.returns
unfolding tag_by digest_behind
returns c = c.digest.ensures ∙ rw c.digest-inner.ensures
