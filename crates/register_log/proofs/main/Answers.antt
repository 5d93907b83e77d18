-- `register_log::main` meets its contract: the end that was written stands in the output.
use native.Mathlib.Omega.{arith}
use Rattle.lines.proofs.Printing.{wrote_within}
use Rattle.register_log.proofs.main.Goals as goal

pub slice_bounds-write-end : goal.slice_bounds-write-end
slice_bounds-write-end c = wrote_within c.finish-end.ensures (omega arith)
