-- `octets::array` meets its contract: the part, as it was lent.
use mathlib.Core.Path.{◌∙◌}
use Rattle.octets.proofs.Runs.{lent_part}
use Rattle.octets.proofs.array.Goals as goal

pub returns : goal.returns
returns g c = c.copy_from_slice.ensures.after ∙ lent_part c.args.at g.row.N c.args.s.now
