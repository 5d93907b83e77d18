-- `round::shift` meets its contract: fifteen words are kept, and the next is the standard's.
use borrow.Author.Rules.{rules}
use Rattle.round.specs.Turn.{next_word, shifted}
use Rattle.round.proofs.Window.{window}
use Rattle.round.proofs.shift.Goals as goal

pub returns : goal.returns
unfolding next_word shifted
returns c = window c.args.w (search rules) (cc)
