-- `listing::get_ads_as` meets its contract: a refusal leaves the buffer, and without one the list is written.
use native.Mathlib.Omega.{arith}
use mathlib.Core.Path.{refl, sym}
use Prim.Native.Nat.{zero-le}
use lib.ListN.{length}
use Rattle.cache.specs.Cache.{width, stored_from}
use Rattle.cache.proofs.Check.{HeadFacts, well_head, sound_head, stored_room, stored_entries}
use Rattle.record.proofs.Refusals.{handed_on, number_not_0}
use Rattle.listing.proofs.Promises.{Clear, clear}
use Rattle.listing.proofs.Filling.{refused_got, listed_got}
use Rattle.listing.proofs.get_ads_as.Goals as goal
use Rattle.listing.proofs.get_ads_as.Goals.{In_ok-check_call}

pub returns-in_err-check_call : goal.returns-in_err-check_call
returns-in_err-check_call c =
    let a = c.args in
    let e = c.in_err-check_call.field-0.0 in
    rw (handed_on c.from_residual.result e c.from_residual.ensures.1)
    (refused_got a.shape a.oldest a.cache.now a.clock a.service.now a.list.now _ c.in_err-check_call.ensures (number_not_0 e))

-- there is no refusal, and what follows from that
passed : (c : goal.In_ok-check_call) → let a = c.args in Clear a.shape a.cache.now a.clock a.service.now (length a.list.now)
passed c =
    let a = c.args in
    clear a.shape a.cache.now a.clock a.service.now (length a.list.now) (sym c.in_ok-check_call.ensures)

facts : (c : goal.In_ok-check_call) → HeadFacts c.args.shape c.args.cache.now
facts c = sound_head c.args.shape c.args.cache.now c.requires (passed c).well

pub write_ads-found-requires : goal.write_ads-found-requires
write_ads-found-requires c =
    let a = c.args in
    let p = (goal.at.write_ads-found-requires c).In_ok-check_call in
    record { sound = (c.requires, stored_room a.shape 0 a.cache.now (facts p) zero-le _ _ _ refl (omega (arith, c.count-n.ensures)) c.stored_from-stored.ensures); list_len = (passed p).sized }

pub returns : goal.returns
returns c =
    let a = c.args in
    let p = (goal.at.returns c).In_ok-check_call in
    listed_got a.shape a.oldest a.cache.now a.clock a.service.now a.list.now c.write_ads-found.result c.write_ads-found.new.list (sym c.in_ok-check_call.ensures)
    (rw (c.stored_from-stored.ensures, stored_entries a.shape 0 a.cache.now (facts p) zero-le (width a.shape) c.count-n.result (stored_from a.shape 0 a.cache.now) refl (omega (arith, c.count-n.ensures)) refl)
    at c.write_ads-found.ensures)

pub count-n-requires : goal.count-n-requires
count-n-requires c = let f = facts (goal.at.count-n-requires c).In_ok-check_call in omega (arith, f.inside)

pub stored_from-stored-requires : goal.stored_from-stored-requires
stored_from-stored-requires c =
    record { sound = (c.requires, well_head c.args.shape c.args.cache.now (passed (goal.at.stored_from-stored-requires c).In_ok-check_call).well); index_bound = zero-le }
