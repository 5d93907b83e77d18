-- `answers::register_line` meets its contract.
use Rattle.answers.specs.Lines.{wait_line}
use Rattle.answers.proofs.register_line.Goals as goal

pub returns-in-Ok-Confirmed : goal.returns-in-Ok-Confirmed
returns-in-Ok-Confirmed c =
    let e = rw c.in-Ok-Confirmed.is at c.in-Ok-Confirmed.field-0-is in
    rw (c.in-Ok-Confirmed.is, e) c.ok.ensures

pub returns-in-Ok-Wait : goal.returns-in-Ok-Wait
unfolding wait_line
returns-in-Ok-Wait c =
    let e = rw c.in-Ok-Wait.is at c.in-Ok-Wait.field-0-is in
    rw (c.in-Ok-Wait.is, e) c.numbered.ensures

pub returns-in-Err : goal.returns-in-Err
returns-in-Err c = rw c.in-Err.is c.refused.ensures
