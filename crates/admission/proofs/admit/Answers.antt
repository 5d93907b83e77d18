-- `admission::admit` meets its contract: what is appended behind those that stay, and how many of those moved.
use mathlib.Core.Path.{◌≡◌, ap, ◌∙◌}
use Prim.Native.Nat.{◌+◌}
use native.Mathlib.Omega.{arith}
use lib.ListN.{length}
use Rattle.cache.specs.Chunks.{keep}
use Rattle.cache.specs.Cache.{count_of, entries}
use Rattle.cache.specs.Expiry.{live}
use Rattle.admission.specs.Admission.{holding}
use Rattle.admission.proofs.Admission.{slot_free, held_after, holding_count, moved_counted}
use Rattle.admission.proofs.admit.Goals as goal
use Rattle.admission.proofs.admit.Goals.{After-append}

pub expire-requires : goal.expire-requires
expire-requires c =
    record { sound = c.requires.sound; cache_value = c.requires.cache_value; passed_value = c.requires.stays.left }

pub append-requires : goal.append-requires
append-requires c =
    let a = c.args in
    let f =
    slot_free a.shape a.clock a.ad.now a.cache.now c.requires.sound c.requires.cache_value c.requires.cache_bound.0 c.requires.cache_bound.1 c.expire.new.cache
    c.expire.ensures c.requires.ad_bound in
    record { sound = c.requires.sound; cache_value = f.0; cache_bound = f.1; ad_len = c.requires.ad_len }

-- the cache that is left
leaves : (c : goal.After-append) → let a = c.args in c.append.new.cache ≡ holding a.shape a.clock a.ad.now a.cache.now
leaves c =
    let a = c.args in
    c.append.ensures
    ∙ held_after a.shape a.clock a.ad.now a.cache.now c.requires.sound c.requires.cache_value c.requires.cache_bound.0 c.requires.cache_bound.1 c.expire.new.cache
    c.expire.ensures

-- it holds those that stay, and the newcomer
counted : (c : goal.After-append) → let a = c.args in count_of c.append.new.cache ≡ length (keep (live a.clock) (entries a.shape a.cache.now)) + 1
counted c =
    let a = c.args in
    ap count_of (leaves c)
    ∙ holding_count a.shape a.clock a.ad.now a.cache.now c.requires.sound c.requires.cache_value c.requires.cache_bound.0 c.requires.cache_bound.1 c.requires.ad_len c.requires.ad_bound

pub returns : goal.returns
returns c =
    let a = c.args in
    let t = c.requires.stays in
    record { cache = leaves (goal.at.returns c).After-append; moves = c.count_moved.ensures ∙ moved_counted a.shape a.clock a.cache.now c.requires.cache_value 1 a.gone a.live c.append.new.cache (counted (goal.at.returns c).After-append) t.left (omega (arith, t.stay, counted (goal.at.returns c).After-append)) }
