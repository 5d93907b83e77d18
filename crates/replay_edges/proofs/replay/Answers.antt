-- `replay_edges::replay` is safe: the end lies within the output.
use native.Mathlib.Omega.{arith}
use Rattle.lines.proofs.Printing.{wrote_within}
use Rattle.replay_edges.proofs.replay.Goals as goal

pub slice_bounds-write_all-end-2 : goal.slice_bounds-write_all-end-2
slice_bounds-write_all-end-2 c = wrote_within c.finish-end.ensures (omega arith)
