-- `double_wait::factor` meets its contract.
use Rattle.double_wait.proofs.Laws.{factor_is, empty_exactly_one}
use Rattle.double_wait.proofs.factor.Goals as goal

pub returns : goal.returns
returns c =
    let a = c.args in
    let e = factor_is a.settings a.occupancy _ _ c.free.ensures c.power.ensures in
    record { works_out = e; empty_exactly_one = empty_exactly_one e }
