-- `answers::list` meets its contract.
use Rattle.listing.specs.Listed.{as_listed}
use Rattle.octets.specs.Runs.{part}
use Rattle.answers.proofs.Answering.{lists}
use mathlib.Core.Path.{refl}
use Rattle.answers.proofs.list.Goals as goal

pub returns : goal.returns
unfolding part
returns c =
    let clock = c.read_u64-clock in
    let a = c.args in
    let line = c.list_line in
    lists a.cache.now a.event.now _ a.out.now c.get_ads-answer.new.list line.new.out _ clock.result a.to line.result (as_listed c.get_ads-answer.result)
    clock.ensures refl refl c.get_ads-answer.ensures line.ensures
