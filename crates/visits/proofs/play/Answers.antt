-- `visits::play` meets its contract.
use Rattle.admission.specs.Registered.{as_registered}
use Rattle.visits.proofs.Playing.{plays}
use Rattle.visits.proofs.play.Goals as goal

pub returns : goal.returns
returns c =
    let a = c.args in
    plays a.key.now a.cache.now a.tickets.now a.tallies.now a.event.now a.out.now _ _ _ _ _ c.read_u64-clock.result a.to c.visit_line.result (as_registered c.call-answer.result)
    c.read_u64-clock.ensures c.call-answer.ensures c.keep_ticket.ensures c.tally.ensures c.visit_line.ensures
