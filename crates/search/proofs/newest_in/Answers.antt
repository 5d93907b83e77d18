-- `search::newest_in` meets its contract: the last entry that is wanted, with its accepted time.
use native.Mathlib.Omega.{arith}
use mathlib.Core.Path.{◌≡◌, refl, sym, ap, ◌∙◌}
use Prim.Native.Nat.{suc, ◌+◌, ◌≤◌, ◌<◌, zero-le}
use lib.ListN.{length}
use Rattle.cache.specs.Cache.{width, count_of, entries, stored_from}
use Rattle.cache.proofs.Check.{HeadFacts, well_head, sound_head, stored_room, stored_entries}
use Rattle.search.specs.Place.{as_best}
use Rattle.search.specs.Newest.{offers, up_to, last_of}
use Rattle.search.proofs.Parts.{entry_room, nothing_newest, last_inside, entry_newest}
use Rattle.search.proofs.newest_in.Goals as goal
use Rattle.search.proofs.newest_in.Goals.{After-last_wanted, After-slot_at-at, In_ok-index, Start}

facts : (s : goal.Start) → HeadFacts s.args.shape s.args.cache.now
facts s = sound_head s.args.shape s.args.cache.now s.requires.sound s.requires.cache_value

pub count-n-requires : goal.count-n-requires
count-n-requires c = let f = facts (goal.at.count-n-requires c).Start in omega (arith, f.inside)

pub stored_from-stored-requires : goal.stored_from-stored-requires
stored_from-stored-requires c =
    record { sound = (c.requires.sound, well_head c.args.shape c.args.cache.now c.requires.cache_value); index_bound = zero-le }

pub last_wanted-requires : goal.last_wanted-requires
last_wanted-requires c =
    let a = c.args in
    (c.requires.sound, stored_room a.shape 0 a.cache.now (facts (goal.at.last_wanted-requires c).Start) zero-le _ _ _ refl (omega (arith, c.count-n.ensures)) c.stored_from-stored.ensures)

-- the one that was found
place : (c : goal.After-last_wanted) → let a = c.args in up_to c.last_wanted.result ≡ last_of (offers a.shape a.oldest a.clock a.service.now) (entries a.shape a.cache.now)
place c =
    let a = c.args in
    rw (c.stored_from-stored.ensures, stored_entries a.shape 0 a.cache.now (facts (goal.at.After-last_wanted c).Start) zero-le (width a.shape) c.count-n.result (stored_from a.shape 0 a.cache.now) refl (omega (arith, c.count-n.ensures)) refl)
    at c.last_wanted.ensures

pub returns-in_err-index : goal.returns-in_err-index
returns-in_err-index c =
    let a = c.args in
    let z = sym (place (goal.at.returns-in_err-index c).After-last_wanted) ∙ ap up_to c.in_err-index.was in
    ap as_best c.from_residual.ensures ∙ nothing_newest a.shape a.oldest a.cache.now a.clock a.service.now c.requires.cache_value z

-- it is that of an entry
some : (c : goal.In_ok-index) → let a = c.args in last_of (offers a.shape a.oldest a.clock a.service.now) (entries a.shape a.cache.now) ≡ suc c.in_ok-index.index
some c = sym (place (goal.at.In_ok-index c).After-last_wanted) ∙ ap up_to c.in_ok-index.was

-- an entry stands there
there : (c : goal.In_ok-index) → c.in_ok-index.index < count_of c.args.cache.now
there c = let a = c.args in last_inside a.shape a.oldest a.cache.now a.clock a.service.now c.requires.cache_value c.in_ok-index.index (some c)

pub slot_at-at-requires : goal.slot_at-at-requires
slot_at-at-requires c = let f = facts (goal.at.slot_at-at-requires c).Start in (c.requires.sound, omega (arith, there (goal.at.slot_at-at-requires c).In_ok-index, f.few, f.most))

room : (c : goal.After-slot_at-at) → let a = c.args in c.slot_at-at.result + width a.shape ≤ length a.cache.now
room c = rw c.slot_at-at.ensures (entry_room c.args.shape c.args.cache.now c.in_ok-index.index (facts (goal.at.After-slot_at-at c).Start) (there (goal.at.After-slot_at-at c).In_ok-index))

pub overflow_add-at : goal.overflow_add-at
overflow_add-at c = let f = facts (goal.at.overflow_add-at c).Start in omega (arith, room (goal.at.overflow_add-at c).After-slot_at-at, f.small)

pub read_u64-accepted-requires : goal.read_u64-accepted-requires
read_u64-accepted-requires c = omega (arith, room (goal.at.read_u64-accepted-requires c).After-slot_at-at)

pub returns : goal.returns
returns c =
    let a = c.args in
    entry_newest a.shape a.oldest a.cache.now a.clock a.service.now c.requires.cache_value c.in_ok-index.index c.read_u64-accepted.result (some (goal.at.returns c).In_ok-index)
    (rw c.slot_at-at.ensures at c.read_u64-accepted.ensures)
