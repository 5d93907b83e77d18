-- `bounds::once::service_sum` meets its contract: what the calls ensure is the definition, put together.
use Rattle.bounds.specs.Hashing.{service_sum}
use Rattle.bounds.proofs.once.service_sum.Goals as goal

pub returns : goal.returns
unfolding service_sum
returns c = cc
