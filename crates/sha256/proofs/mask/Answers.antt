-- `sha256::mask` meets its contract: the closure masks each byte.
use borrow.Author.Rules.{rules}
use Rattle.sha256.proofs.Masking.{masked_all}
use Rattle.sha256.proofs.mask.Goals as goal

pub returns : goal.returns
returns c = masked_all _ _ c.args.pad (λ x y q k. search rules) c.args.block _ 64 (search rules) c.map.ensures.items
