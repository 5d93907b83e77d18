-- `comparison::take_record` meets its contract.
use native.Mathlib.Omega.{arith}
use lib.ListN.{length}
use Rattle.record.specs.Layout.{kind_of}
use Rattle.comparison.proofs.Turns.{Countable, countable, record_taken}
use Rattle.comparison.proofs.take_record.Goals as goal
use Rattle.comparison.proofs.take_record.Goals.{Start}

counts : (s : goal.Start) → Countable s.args.count (length s.args.chunk.now)
counts s = countable s.args.count (kind_of s.args.chunk.now) (length s.args.chunk.now) s.requires.0 s.requires.1

pub overflow_add-count : goal.overflow_add-count
overflow_add-count c = omega (arith, (counts (goal.at.overflow_add-count c).Start).counted)

pub read-requires : goal.read-requires
read-requires c = (counts (goal.at.read-requires c).Start).sized

pub returns : goal.returns
returns c =
    let a = c.args in
    record_taken a.count a.chunk.now a.out.now a.to c.write_line.result _ c.requires.2 (rw (← c.read.ensures) c.write_line.ensures)
