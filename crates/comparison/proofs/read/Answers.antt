-- `comparison::read` meets its contract.
use Rattle.comparison.proofs.read.Goals as goal

pub returns : goal.returns
returns c =
    rw (c.read_u16.ensures, c.read_u16-2.ensures, c.read_u16-3.ensures, c.read_u64.ensures)
