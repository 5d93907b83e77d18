-- `answers::register` meets its contract.
use Rattle.admission.specs.Registered.{as_registered}
use Rattle.answers.proofs.Answering.{registers}
use Rattle.answers.proofs.register.Goals as goal

pub returns : goal.returns
returns c =
    let ad = c.ad_of_record-ad in
    let clock = c.read_u64-clock in
    let a = c.args in
    let line = c.register_line in
    let written = rw c.by_number.ensures at line.ensures in
    registers a.key.now a.cache.now a.event.now a.ticket.now ad.result a.out.now c.register-answer.new.cache _ line.new.out clock.result a.to line.result (as_registered c.register-answer.result)
    clock.ensures ad.ensures c.register-answer.ensures written
