-- `double_wait::wait` meets its contract.
use Rattle.double_wait.proofs.Laws.{wait_is, in_order_proper}
use Rattle.double_wait.proofs.wait.Goals as goal

pub returns : goal.returns
returns c =
    let a = c.args in
    let e = wait_is a.settings a.occupancy a.serving a.similarity _ _ c.factor-f.ensures.works_out c.share-x.ensures in
    record { works_out = e; in_order_proper = in_order_proper e }
