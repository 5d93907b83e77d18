-- `events::goes_on` meets its contract.
use Rattle.events.proofs.goes_on.Goals as goal

pub returns : goal.returns
returns c = rw (c.goes_on.ensures, c.chunk_size-size.ensures, c.front.ensures)
