-- `ledger::write_tally` meets its contract.
use native.Mathlib.Omega.{arith}
use lib.ListN.{length-set}
use Rattle.ledger.proofs.write_tally.Goals as goal

pub bounds-tallies-n-2 : goal.bounds-tallies-n-2
bounds-tallies-n-2 c = simp length-set (omega arith)

pub bounds-tallies-n-3 : goal.bounds-tallies-n-3
bounds-tallies-n-3 c = simp length-set (omega arith)
