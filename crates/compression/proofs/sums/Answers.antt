-- `compression::sums` meets its contract: the closure adds the words at each place.
use borrow.Author.Rules.{rules}
use lib.ListN.{get_or}
use Rattle.round.specs.Words.{◌⊞◌}
use Rattle.compression.specs.Compression.{added}
use Rattle.compression.proofs.Arrays.{made}
use Rattle.compression.proofs.sums.Goals as goal

pub returns : goal.returns
unfolding added
returns c = made _ _ (λ i. get_or c.args.h i 0 ⊞ get_or c.args.v i 0) (λ i y q k. search rules) _ 8 c.from_fn.ensures.items
