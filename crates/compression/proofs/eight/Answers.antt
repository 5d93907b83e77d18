-- `compression::eight` meets its contract: one round more a turn.
use mathlib.Core.Path.{sym}
use Rattle.compression.proofs.Turns.{turns_none, turns_next}
use Rattle.compression.proofs.eight.Goals as goal

pub loop-i-init : goal.loop-i-init
loop-i-init g c = sym (turns_none g.row.FIRST c.args.start)

pub loop-i-preserved : goal.loop-i-preserved
loop-i-preserved g c = rw turns_next cc
