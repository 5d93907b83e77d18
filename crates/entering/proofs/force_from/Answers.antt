-- `entering::force_from` meets its contract: before the least until all are in force.
use Rattle.entering.proofs.Told.{all_stay}
use Rattle.entering.proofs.force_from.Goals as goal

pub returns-then-clock-least : goal.returns-then-clock-least
returns-then-clock-least c = let a = c.args in all_stay a.address a.clock a.least a.n _ c.if-clock-least.true c.requires.bounds_value
