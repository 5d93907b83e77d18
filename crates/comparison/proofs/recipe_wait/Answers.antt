-- `comparison::recipe_wait` meets its contract.
use Rattle.comparison.specs.Records.{recipe}
use Rattle.comparison.proofs.Facts.{recipe_range}
use Rattle.comparison.proofs.recipe_wait.Goals as goal

pub wait-wait-requires : goal.wait-wait-requires
wait-wait-requires c = recipe_range c.args.told c.requires

pub returns : goal.returns
unfolding recipe
returns c = c.wait-wait.ensures
