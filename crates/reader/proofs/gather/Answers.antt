-- `reader::gather` meets its contract.
use Rattle.reader.proofs.Gathering.{gathered}
use Rattle.reader.proofs.gather.Goals as goal

pub returns : goal.returns
returns c =
    let a = c.args in
    gathered a.rest.now a.have a.piece.now a.at a.size c.min-n.result c.copy.new.dst c.min-n.ensures c.copy.ensures
