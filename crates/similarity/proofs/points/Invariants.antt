-- `similarity::points` meets its contract: the invariant is the record `Points`.
use Rattle.similarity.proofs.Levels.{Points}
use Rattle.similarity.proofs.points.Given as goal

abbrev pub invariant-loop-total : goal.invariant-loop-total
invariant-loop-total l = Points l.totals l.live l.total-index l.near l.rest l.found
