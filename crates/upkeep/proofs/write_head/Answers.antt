-- `upkeep::write_head` meets its contract: the fields are put one behind the other.
use Rattle.upkeep.proofs.Head.{head_written}
use Rattle.upkeep.proofs.write_head.Goals as goal

pub returns : goal.returns
returns c =
    let a = c.args in
    head_written a.kind a.n a.head a.cache.now _ _ _ _ _ c.requires c.write_u16.ensures c.write_u16-2.ensures c.write_u64.ensures
    c.write_u64-2.ensures c.write_u64-3.ensures
