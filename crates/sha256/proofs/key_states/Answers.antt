-- `sha256::key_states` meets its contract: the hash values behind the key's block under both masks.
use Rattle.sha256.specs.Hmac.{states_of}
use Rattle.sha256.proofs.key_states.Goals as goal

pub returns : goal.returns
unfolding states_of
returns c = cc
