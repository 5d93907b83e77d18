-- `search::body_from` meets its contract.
use Rattle.record.specs.Layout.{body_size}
use Rattle.octets.proofs.Runs.{lent_part}
use Rattle.search.proofs.body_from.Goals as goal

pub returns : goal.returns
returns c = let a = c.args in lent_part a.at (body_size a.shape.address) a.cache.now
