-- `sha256::hmac` meets its contract: a tag by the states of a key is the tag under the key.
use Rattle.sha256.proofs.Masking.{tag_by_lem}
use Rattle.sha256.proofs.hmac.Goals as goal

pub returns : goal.returns
returns c =
    let a = c.args in
    tag_by_lem a.key.now a.message.now _ _ c.key_states.ensures c.tag.ensures
