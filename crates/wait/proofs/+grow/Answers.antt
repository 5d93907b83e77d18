-- `wait::grow` meets its contract: each return has the equation, and one law supplies the bounds.
use borrow.Author.Rules.{rules}
use Rattle.wait.proofs.Growth.{worked_start, worked_more}
use Rattle.wait.proofs.+grow.Goals as goal

pub returns-then-factors-eq0 : goal.returns-then-factors-eq0
returns-then-factors-eq0 t c = worked_start _ _ _ c.requires.0 c.requires.1 _ _ c.if-factors-eq0.true c.min.ensures

pub returns : goal.returns
returns t c = worked_more _ _ _ c.requires.0 c.requires.1 _ _ _ (search rules) c.grow.ensures c.times_factor.ensures
