-- `bounds::once::walk` meets its contract. The invariant: the first i records are passed, and what is noted is of them.
use Rattle.bounds.proofs.Passed.{Passed}
use Rattle.bounds.proofs.Noted.{Noted}
use Rattle.bounds.proofs.once.walk.Given as goal

abbrev pub invariant-loop-i : goal.invariant-loop-i
invariant-loop-i l =
    Passed l.address l.bounds l.keys l.n l.i l.heads l.nexts × Noted l.address l.pair l.bounds l.n l.i l.least l.index
