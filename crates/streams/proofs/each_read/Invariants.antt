-- `streams::each_read` meets its contract: what is left falls at each turn.
use Rattle.streams.proofs.each_read.Given as goal

abbrev pub decreases-loop-left : goal.decreases-loop-left
decreases-loop-left g l = l.left
