-- `bounds::once::product` meets its contract.
use Rattle.bounds.specs.Hashing.{product}
use Rattle.bounds.proofs.once.product.Goals as goal

pub returns : goal.returns
unfolding product
returns c = cc
