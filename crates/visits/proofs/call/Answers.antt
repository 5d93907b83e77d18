-- `visits::call` meets its contract.
use mathlib.Core.Path.{◌∙◌}
use Rattle.octets.proofs.Runs.{lent_part}
use Rattle.admission.specs.Registered.{as_registered}
use Rattle.visits.proofs.Playing.{called}
use Rattle.visits.proofs.call.Goals as goal

pub returns : goal.returns
returns c =
    let a = c.args in
    called a.key.now a.cache.now a.tickets.now a.event.now c.ad_of_visit-ad.result _ a.reply.now _ _ c.read_u64-clock.result (as_registered c.register.result)
    c.read_u64-clock.ensures c.ad_of_visit-ad.ensures (lent_part _ _ _ ∙ c.brought-n.ensures.1) c.register.ensures
