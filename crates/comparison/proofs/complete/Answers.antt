-- `comparison::complete` meets its contract.
use mathlib.Core.Path.{sym, ◌∙◌}
use mathlib.Core.List.{[]}
use Rattle.reader.proofs.Turns.{complete_is}
use Rattle.comparison.specs.Comparing.{comparison_program, hand_is}
use Rattle.comparison.proofs.Turns.{chunk_most}
use Rattle.comparison.proofs.complete.Goals as goal

pub returns : goal.returns
returns c =
    let a = c.args in
    c.complete.ensures ∙ rw c.goes_on.ensures (sym (complete_is comparison_program chunk_most (hand_is a.comparison a.rest.now) []))
