-- `sha256::hashing::digest` meets its contract: the whole blocks first, then the rest.
use mathlib.Core.Path.{◌∙◌}
use Rattle.octets.proofs.Runs.{lent_rest}
use Rattle.sha256.specs.Digest.{padding}
use Rattle.sha256.proofs.Blocks.{digested_rest}
use Rattle.sha256.proofs.hashing.digest.Goals as goal

pub returns : goal.returns
returns c =
    let a = c.args in
    let m = a.message.now in
    rw (digested_rest a.h m (padding _)) (c.finish.ensures ∙ rw (lent_rest, c.absorb-v.ensures))
