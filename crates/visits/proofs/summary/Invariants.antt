-- `visits::summary` meets its contract.
use Rattle.visits.proofs.Printing.{Summing}
use Rattle.visits.proofs.summary.Given as goal

abbrev pub invariant-loop-n : goal.invariant-loop-n
invariant-loop-n l = Summing l.initial.out l.tallies l.out l.n l.to
