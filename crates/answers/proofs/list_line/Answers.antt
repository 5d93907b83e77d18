-- `answers::list_line` meets its contract.
use Rattle.answers.specs.Lines.{ads_line}
use Rattle.answers.proofs.list_line.Goals as goal

pub returns-in-Ok : goal.returns-in-Ok
unfolding ads_line
returns-in-Ok c = rw c.in-Ok.is c.numbered.ensures

pub returns-in-Err : goal.returns-in-Err
returns-in-Err c =
    let told = rw c.number.ensures at c.refused.ensures in
    rw c.in-Err.is told
