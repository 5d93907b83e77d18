-- What a call does to the cache that is kept: nothing, or expiry at its clock, with or without a newcomer, with or without a mark. A new call brings, beside its
-- lines of specs/, a law of what it does, as `withdraw_effect`, and a line of `call_effect`: what holds of every run follows from `Effect`.
use mathlib.Core.Path.{◌≡◌, refl}
use mathlib.Core.Bool.{Bool, false, not, cond}
use mathlib.Core.List.{List, [], ◌∷◌, ◌++◌, append-nil, Memᴰ}
use Prim.Native.Nat.{ℕ, zero, suc, ◌≤◌}
use native.Mathlib.Omega.{arith}
use lib.ListN.{length}
use Rattle.octets.proofs.Runs.{both_false}
use Rattle.settings.specs.Settings.{usual_window}
use Rattle.cache.specs.declared.Shape.{Shape}
use Rattle.cache.specs.declared.Head.{Head}
use Rattle.cache.specs.Cache.{Sound, shape_of, head, capacity_of, clock_of, entries, is_withdrawn}
use Rattle.cache.specs.Expiry.{expired_in}
use Rattle.cache.proofs.Contents.{Left, expired_left}
use Rattle.cache.proofs.Counters.{Gained, expiry_gains, confirmation_gains}
use Rattle.cache.proofs.Shapes.{shape_sound}
use Rattle.upkeep.specs.Newcomer.{newcomer}
use Rattle.load.specs.Counts.{entry_of_pair, live_in}
use Rattle.checks.specs.declared.Terms.{Terms}
use Rattle.checks.specs.Request.{Request, request, terms}
use Rattle.withdrawal.specs.Withdrawing.{Withdrawal, withdrawal, standing, withdrawn}
use Rattle.withdrawal.proofs.Marking.{marked_keeps}
use Rattle.withdrawal.proofs.Withdrawing.{WithdrawCame, unchanged, withdraws, withdraw_came, leaving_left, withdraw_refused}
use Rattle.admission.specs.Deciding.{refusal_of, is_confirmed, wait_for, stayed, confirmed_in, waiting_in, answered_by}
use Rattle.admission.specs.Ready.{ReadyFor}
use Rattle.admission.proofs.Admission.{holding_left}
use Rattle.admission.proofs.Deciding.{Came, refuses, confirms, defers, came, stayed_le, over_not_full, used_recipe}
use Rattle.registrar.specs.Registering.{registered}
use Rattle.registrar.proofs.Demand.{ready}
use Rattle.runs.specs.Runs.{State, Call, Deed, doing, takes_back, after, said, refusal_in, step}
use Rattle.bounded.specs.Bounded.{terms_for}
use Rattle.runs.specs.Runs.Profile.{full, small}
use Rattle.runs.specs.Runs.Call.{register, register_bounded, get_ads, withdraw, newest}
use Rattle.runs.specs.Runs.Deed.{looks, clears}
use Rattle.runs.specs.Counters.{newcomers}
use Rattle.runs.specs.Alike.{Twins}
use Rattle.runs.proofs.Twins.{twins_refl, marked_twins}
use Rattle.runs.proofs.Profile.{Profiled, turned, alike, register_profiled, bounded_profiled, withdraw_profiled}

-- expiry at a clock that is not before the cache's: those that are live stay, as they were but for the kinds of those that the call takes back, and the newcomers stand
-- behind them; the counters gain the newcomers and those that are not live
pub record Expiry (sh : Shape) (before : List ℕ) (takes : List ℕ → Bool) (clock : ℕ) (newer : List (List ℕ)) (after : List ℕ) : Type 0 where
  pub later : clock_of before ≤ clock
  pub stay : List (List ℕ)
  pub twins : Twins sh stay (live_in sh before clock)
  pub kept : (e : List ℕ) → Memᴰ e (live_in sh before clock) → takes e ≡ false → Memᴰ e stay
  pub confirmed : ℕ
  pub expired : ℕ
  pub left : Left sh (head (capacity_of before) clock confirmed expired) (stay ++ newer) after
  pub gained : Gained before after (length newer) (expired_in clock (entries sh before))

-- a call leaves all as it was that only looks, or is refused
abbrev pub Idle : Deed → ℕ → Type 0
Idle looks n = Unit {0}
Idle (clears clock) n = 1 ≤ n

-- what a call does that is refused by n, 0 for none, and lets in so many
pub data Effect (sh : Shape) (before : List ℕ) (takes : List ℕ → Bool) : Deed → ℕ → ℕ → List ℕ → Type 0 where
  nothing : {d : Deed} (n : ℕ) → Idle d n → Effect sh before takes d n 0 before
  expiry : {clock : ℕ} (newer : List (List ℕ)) {after : List ℕ} → Expiry sh before takes clock newer after → Effect sh before takes (clears clock) 0 (length newer) after

-- ---- of each call

nobody_new : {sh : Shape} {h : Head} {rs : List (List ℕ)} {after : List ℕ} → Left sh h rs after → Left sh h (rs ++ []) after
nobody_new l = rw append-nil l

-- REGISTER by a refusal's number and a wait, any that is not below the recipe's
pub register_effect : {sh : Shape} {n w : ℕ} {q : Request} → (n ≡ 0 → ReadyFor sh q) → wait_for sh q ≤ w → Came n sh w q
    → let o = answered_by n sh w q in Effect sh q.cache (λ e. false) (clears q.clock) (refusal_of o.answer) (cond (is_confirmed o.answer) 1 0) o.cache
unfolding confirmed_in waiting_in
register_effect {n = n} {q = q} passed least (refuses m e l) = rw l (nothing {d = clears q.clock} n (omega arith))
register_effect {sh} {w = w} {q} passed least (confirms e o l) =
    let r = passed e in
    let left = holding_left sh q.clock q.ad q.cache r.sound r.well r.later r.early r.ad_size_lem (over_not_full r w (stayed q) least o (stayed_le q)) in
    let gained = confirmation_gains sh q.clock q.cache _ _ r.well left in
    rw l (expiry (newcomer sh q.clock q.ad ∷ [])
    (record { later = r.later; stay = _; twins = twins_refl sh _; kept = λ e m h. m; confirmed = _; expired = _; left = left; gained = gained }))
register_effect {sh} {q = q} passed least (defers e o l) =
    let r = passed e in
    let left = expired_left sh q.clock q.cache r.sound r.well r.later r.early in
    let gained = expiry_gains sh q.clock q.cache _ _ r.well left in
    rw l (expiry [] (record { later = r.later; stay = _; twins = twins_refl sh _; kept = λ e m h. m; confirmed = _; expired = _; left = nobody_new left; gained = gained }))

module _ (sh : Shape) (sound : Sound sh) where
  pub withdraw_expiry : (q : Withdrawal) → (withdrawn sh q).number ≡ 0 → WithdrawCame sh q
      → Expiry sh q.cache (entry_of_pair q.service q.peer) q.clock [] (withdrawn sh q).buffer
  unfolding standing
  withdraw_expiry q is (unchanged h l) = absurd (h is)
  withdraw_expiry q is (withdraws d l) =
      let r = d.requested in
      let p = standing sh.kinds q.service q.peer in
      let c = (expired_left sh q.clock q.cache sound r.well r.clock.from r.clock.to).contents in
      let left = leaving_left sh q sound r in
      rw l (record {
        later = r.clock.from;
        stay = _;
        twins = marked_twins sh p _ c.wide c.kinds;
        kept = λ e m h. marked_keeps p sh.kinds.withdrawn m (rw h (both_false (not (is_withdrawn sh.kinds e))));
        confirmed = _;
        expired = _;
        left = nobody_new left;
        gained = expiry_gains sh q.clock q.cache _ _ r.well left;
      })

  pub withdraw_effect : (q : Withdrawal) (n : ℕ) → (withdrawn sh q).number ≡ n
      → Effect sh q.cache (entry_of_pair q.service q.peer) (clears q.clock) n 0 (withdrawn sh q).buffer
  withdraw_effect q zero e = expiry [] (withdraw_expiry q e (withdraw_came sh q))
  withdraw_effect q (suc n) e = rw (withdraw_refused sh q (λ z. omega arith)) (nothing {d = clears q.clock} (suc n) (omega arith))

-- a call of the small-registrar profile does what the full call with the usual window does, or nothing
profiled_effect : {sh : Shape} {takes : List ℕ → Bool} {clock : ℕ} (c d : Call) (s : State) → Profiled c d s
    → Effect sh s.cache takes (clears clock) (refusal_in (said d s)) (newcomers (step d s)) (after d s).cache
    → Effect sh s.cache takes (clears clock) (refusal_in (said c s)) (newcomers (step c s)) (after c s).cache
profiled_effect {clock = clock} c d s (turned some none i same) x = rw (none, same) (nothing {d = clears clock} _ some)
profiled_effect c d s (alike says leaves i) x = rw (says, leaves) x

registered_effect : (t : Terms) (q : Request)
    → let sh = shape_of q.cache in
    let o = registered sh t q in
    Effect sh q.cache (λ e. false) (clears q.clock) (refusal_of o.answer) (cond (is_confirmed o.answer) 1 0) o.cache
unfolding registered
registered_effect t q = register_effect (ready _ t q (shape_sound q.cache)) (used_recipe _ t q) (came _ _ _ q)

pub call_effect : (c : Call) (s : State) → Effect (shape_of s.cache) s.cache (takes_back c) (doing c) (refusal_in (said c s)) (newcomers (step c s)) (after c s).cache
unfolding after said
call_effect (register full window key clock ad vouched ticket reply) s = registered_effect (terms window) (request s.cache key clock ad vouched ticket reply)
call_effect (register small window key clock ad vouched ticket reply) s =
    profiled_effect (register small window key clock ad vouched ticket reply) (register full usual_window key clock ad vouched ticket reply) s
    (register_profiled window key clock ad vouched ticket reply s) (registered_effect (terms usual_window) (request s.cache key clock ad vouched ticket reply))
call_effect (register_bounded full window key clock ad vouched ticket reply) s =
    let q = request s.cache key clock ad vouched ticket reply in registered_effect (terms_for (shape_of s.cache) (terms window) s.bounds q) q
call_effect (register_bounded small window key clock ad vouched ticket reply) s =
    let q = request s.cache key clock ad vouched ticket reply in
    profiled_effect (register_bounded small window key clock ad vouched ticket reply) (register_bounded full usual_window key clock ad vouched ticket reply) s
    (bounded_profiled window key clock ad vouched ticket reply s) (registered_effect (terms_for (shape_of s.cache) (terms usual_window) s.bounds q) q)
call_effect (get_ads full clock service list) s = nothing _ tt
call_effect (get_ads small clock service list) s = nothing _ tt
call_effect (newest full caches clock service) s = nothing _ tt
call_effect (newest small caches clock service) s = nothing _ tt
call_effect (withdraw full service peer clock vouched) s = withdraw_effect _ (shape_sound s.cache) (withdrawal s.cache service peer clock vouched) _ refl
call_effect (withdraw small service peer clock vouched) s =
    profiled_effect (withdraw small service peer clock vouched) (withdraw full service peer clock vouched) s (withdraw_profiled service peer clock vouched s)
    (withdraw_effect _ (shape_sound s.cache) (withdrawal s.cache service peer clock vouched) _ refl)
