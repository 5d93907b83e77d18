-- `withdrawal::withdraw_as` meets its contract: a refusal leaves the cache, and without one the entry's kind is written once the expired are gone.
use mathlib.Core.Path.{◌≡◌, sym, ap, ◌∙◌}
use mathlib.Core.List.{List}
use Prim.Native.Nat.{ℕ}
use native.Mathlib.Omega.{arith}
use lib.ListN.{length, drop, set}
use Rattle.record.proofs.Refusals.{replied_refused, replied_err, replied_ok, number_not_0}
use Rattle.cache.proofs.Check.{well_head}
use Rattle.cache.proofs.Contents.{gone_few, live_behind}
use Rattle.cache.specs.Cache.{entries}
use Rattle.withdrawal.specs.Withdrawing.{Withdrawal, withdrawal, standing, withdrawn, place_of}
use Rattle.withdrawal.proofs.Withdrawing.{Requested, requested, nobody, somebody, asked_first, place_for, There, there, not_there, place_inside, leaves}
use Rattle.withdrawal.proofs.withdraw_as.Goals as goal
use Rattle.withdrawal.proofs.withdraw_as.Goals.{After-place_of, In-Some, In_ok-check_request, Start}

abbrev asked : goal.Start → Withdrawal
asked s = let a = s.args in withdrawal a.cache.now a.service.now a.peer.now a.clock a.vouched

-- what follows where the request is not refused
passed : (c : goal.In_ok-check_request) → Requested c.args.shape (asked (goal.at.In_ok-check_request c).Start)
passed c = requested c.args.shape (asked (goal.at.In_ok-check_request c).Start) (sym c.in_ok-check_request.ensures)

pub returns-in_err-check_request : goal.returns-in_err-check_request
unfolding withdrawn
returns-in_err-check_request c =
    let e = c.in_err-check_request.field-0.0 in
    replied_err c.from_residual.result e _ _ c.args.cache.now c.from_residual.ensures.1
    (asked_first c.args.shape (asked (goal.at.returns-in_err-check_request c).Start) _ c.in_err-check_request.ensures (number_not_0 e))

pub gone-gone-requires : goal.gone-gone-requires
gone-gone-requires c = (c.requires, well_head c.args.shape c.args.cache.now (passed (goal.at.gone-gone-requires c).In_ok-check_request).well)

pub place_of-requires : goal.place_of-requires
place_of-requires c =
    record { sound = (c.requires, well_head c.args.shape c.args.cache.now (passed (goal.at.place_of-requires c).In_ok-check_request).well); passed_bound = omega (arith, c.gone-gone.ensures, gone_few c.args.shape c.args.cache.now c.args.clock) }

-- the place is that of the first live entry that stands
placed : (c : goal.After-place_of) → c.place_of.result ≡ place_for c.args.shape (asked (goal.at.After-place_of c).Start)
placed c =
    let a = c.args in
    c.place_of.ensures
    ∙ ap (place_of a.shape (standing a.shape.kinds a.service.now a.peer.now))
    (ap (λ (n : ℕ). drop n (entries a.shape a.cache.now)) c.gone-gone.ensures ∙ live_behind a.shape a.cache.now a.clock (passed (goal.at.After-place_of c).In_ok-check_request).well)

pub returns-in_default : goal.returns-in_default
unfolding withdrawn
returns-in_default c =
    let q = asked (goal.at.returns-in_default c).Start in
    let none = not_there c.args.shape q (sym c.in_default.is ∙ placed (goal.at.returns-in_default c).After-place_of) in
    replied_refused 17 _ _ c.args.cache.now (sym (nobody c.args.shape q (sym c.in_ok-check_request.ensures) none)) (λ z. omega arith)

pub expire-requires : goal.expire-requires
expire-requires c =
    record { sound = c.requires; cache_value = (passed (goal.at.expire-requires c).In_ok-check_request).well; passed_value = c.gone-gone.ensures }

-- there is such an entry
stands : (c : goal.In-Some) → There c.args.shape (asked (goal.at.In-Some c).Start) c.in-Some.place
stands c = there c.args.shape (asked (goal.at.In-Some c).Start) c.in-Some.place (sym c.in-Some.is ∙ placed (goal.at.In-Some c).After-place_of)

pub bounds-cache-place : goal.bounds-cache-place
bounds-cache-place c =
    omega (arith, ap length c.expire.ensures, place_inside c.args.shape (asked (goal.at.bounds-cache-place c).Start) c.requires (passed (goal.at.bounds-cache-place c).In_ok-check_request) c.in-Some.place (stands (goal.at.bounds-cache-place c).In-Some))

pub returns : goal.returns
unfolding withdrawn
returns c =
    let a = c.args in
    let q = asked (goal.at.returns c).Start in
    let t = stands (goal.at.returns c).In-Some in
    replied_ok _ _ a.cache.now _ (sym (somebody a.shape q (sym c.in_ok-check_request.ensures) t.stands))
    (ap (λ (l : List ℕ). set l c.in-Some.place a.shape.kinds.withdrawn) c.expire.ensures
    ∙ leaves a.shape q c.requires (passed (goal.at.returns c).In_ok-check_request) c.in-Some.place t)
