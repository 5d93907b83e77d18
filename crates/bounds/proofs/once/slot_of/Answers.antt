-- `bounds::once::slot_of` meets its contract.
use Rattle.bounds.specs.Hashing.{slot_of}
use Rattle.bounds.proofs.once.slot_of.Goals as goal

pub returns : goal.returns
unfolding slot_of
returns c = cc
