-- `compression::eight` meets its contract: after each turn, as many rounds are done.
use mathlib.Core.Path.{◌≡◌}
use Rattle.compression.specs.Compression.{turns}
use Rattle.compression.proofs.eight.Given as goal

abbrev pub invariant-loop-i : goal.invariant-loop-i
invariant-loop-i g l = l.s ≡ turns l.i g.row.FIRST l.initial.s
