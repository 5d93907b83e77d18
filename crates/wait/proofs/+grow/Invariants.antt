-- The measure of `wait::grow` is the number of factors.
use Rattle.wait.proofs.+grow.Given as goal

abbrev pub decreases-grow : goal.decreases-grow
decreases-grow l = l.factors
