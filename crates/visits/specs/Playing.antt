-- What playing a visit writes and leaves, in the caller's hands.
use Rattle.std.specs.Prelude.{ℕ, ◌≡◌, true, List}
use Rattle.lines.specs.Lines.{LineWritten}
use Rattle.visits.specs.Visits.{visit_in}
use Rattle.visits.specs.Day.{visit_line}
use Rattle.visits.specs.Memory.{memory, memory_after, visit_outcome}

-- playing a visit: the line stands in the output from place `to`, and the rest is what is kept behind it
pub record Playing (key cache tickets tallies event out : List ℕ) (to r : ℕ) (cache' tickets' tallies' out' : List ℕ) : Type 0 where
  pub keeps : memory true key cache' tickets' tallies' ≡ memory_after (memory true key cache tickets tallies) (visit_in event) (visit_outcome (memory true key cache tickets tallies) (visit_in event))
  pub wrote : LineWritten (visit_line (visit_in event).advertiser (visit_in event).clock (visit_outcome (memory true key cache tickets tallies) (visit_in event)).answer) out to r out'
