-- `round::words::ch` meets its contract: fewer operations than the standard's, with the same result.
use borrow.Author.Rules.{rules}
use Rattle.round.proofs.Bits.{ch_same}
use Rattle.round.proofs.words.ch.Goals as goal

pub returns : goal.returns
returns c = ch_same c.args.x c.args.y c.args.z (search rules) (search rules) (search rules)
