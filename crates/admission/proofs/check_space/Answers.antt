-- `admission::check_space` meets its contract: the row's test.
use Rattle.record.specs.Refusals.{refusal}
use Rattle.admission.specs.Deciding.{space_rows}
use Rattle.admission.proofs.check_space.Goals as goal

pub returns-then-room : goal.returns-then-room
unfolding refusal space_rows
returns-then-room c = rw c.if-room.true

pub returns-then-is_over : goal.returns-then-is_over
unfolding refusal space_rows
returns-then-is_over c = rw (c.if-room.false, ← c.is_over.ensures, c.if-is_over.true)

pub returns : goal.returns
unfolding refusal space_rows
returns c = rw (c.if-room.false, ← c.is_over.ensures, c.if-is_over.false)
