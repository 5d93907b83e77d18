-- `admission::postpone` meets its contract: those that stay, how many of them moved, and the ticket.
use mathlib.Core.Path.{ap, ◌∙◌}
use native.Mathlib.Omega.{arith}
use Rattle.cache.specs.Cache.{count_of}
use Rattle.admission.proofs.Admission.{expired_count, moved_counted}
use Rattle.admission.proofs.postpone.Goals as goal

pub expire-requires : goal.expire-requires
expire-requires c =
    record { sound = c.requires.sound; cache_value = c.requires.cache_value; passed_value = c.requires.stays.left }

pub returns : goal.returns
returns c =
    let a = c.args in
    let t = c.requires.stays in
    let e = ap count_of c.expire.ensures ∙ expired_count a.shape a.clock a.cache.now c.requires.sound c.requires.cache_value c.requires.cache_bound.0 c.requires.cache_bound.1 in
    record {
      cache = c.expire.ensures;
      moves = c.count_moved.ensures
          ∙ moved_counted a.shape a.clock a.cache.now c.requires.cache_value 0 a.gone a.live c.expire.new.cache e t.left (omega (arith, t.stay, e));
      reply = c.fill_ticket.ensures a.key.now c.states_for-known.ensures;
    }
