-- `entering::pack` meets its contract. The invariant: those in force of the first i records are at the front, up to a run that is not moved yet.
use Rattle.entering.proofs.Packing.{Packing}
use Rattle.entering.proofs.pack.Given as goal

abbrev pub invariant-loop-i : goal.invariant-loop-i
invariant-loop-i l = Packing l.address l.clock l.used l.initial.bounds l.i l.to l.run l.bounds
