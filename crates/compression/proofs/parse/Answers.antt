-- `compression::parse` meets its contract: the closure reads the word at each place.
use mathlib.Core.Path.{◌∙◌, sym}
use Prim.Native.Nat.{◌*◌}
use borrow.Author.Rules.{rules}
use Rattle.octets.specs.Numbers.{number}
use Rattle.octets.specs.Runs.{part}
use Rattle.compression.proofs.Arrays.{made}
use Rattle.compression.proofs.Turns.{words_of_block}
use Rattle.compression.proofs.parse.Goals as goal

pub returns : goal.returns
returns c =
    made _ _ (λ t. number (part (4 * t) 4 c.args.block.now)) (λ i y q k. search rules) _ 16 c.from_fn.ensures.items ∙ sym (words_of_block c.args.block.now)
