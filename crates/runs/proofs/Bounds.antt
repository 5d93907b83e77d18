-- What a call does to the lower bounds that are kept (document 02, order 12): nothing, or it enters that of the ticket that it issued, which REGISTER with lower bounds
-- alone does, and only where it answers WAIT. What holds of the bounds over every run follows from `Bounds`.
use mathlib.Core.Path.{◌≡◌, refl, sym, ap, ◌∙◌}
use mathlib.Core.Bool.{Bool, true, false, not}
use mathlib.Core.List.{List, [], ◌∷◌}
use Prim.Native.Nat.{ℕ, ◌+◌, ◌-◌, ◌≤◌, min, max}
use native.Mathlib.Omega.{arith}
use Rattle.times.specs.declared.Millis.{Millis}
use native.Mathlib.Nat.{le_refl}
use borrow.Author.Tests.{not-true}
use lib.ListN.{length}
use Rattle.settings.specs.Settings.{lifetime, last_clock, usual_window}
use Rattle.record.specs.Layout.{ticket_size, ticket_body, issued, wait, pair_size}
use Rattle.record.specs.Refusals.{refusal}
use Rattle.cache.specs.declared.Shape.{Shape}
use Rattle.ticket.specs.declared.Ticket.{Ticket}
use Rattle.ticket.specs.Tickets.{ticket_in}
use Rattle.ticket.proofs.Tickets.{ticket_accepted, written_passes}
use Rattle.cache.specs.Cache.{shape_of, clock_of}
use Rattle.cache.specs.Expiry.{cleared}
use Rattle.cache.proofs.Contents.{expired_left}
use Rattle.cache.proofs.Shapes.{shape_sound}
use Rattle.upkeep.specs.Moves.{moved}
use Rattle.bounds.specs.Bounds.{bounds_in, well_bounded}
use Rattle.entering.specs.Entering.{until_in, crowded, entered}
use Rattle.checks.specs.declared.Terms.{Terms}
use Rattle.checks.specs.Request.{Request, request, brought, terms}
use Rattle.admission.specs.Registered.{Wait}
use Rattle.admission.specs.Deciding.{wait_for, used_for, register_rows, Outcome, remaining, confirmed_in, waiting_in}
use Rattle.admission.proofs.Deciding.{Came, refuses, confirms, defers, came, first_stayed_none}
use Rattle.registrar.specs.Registering.{registered}
use Rattle.registrar.proofs.Demand.{ready}
use Rattle.registrar.proofs.Consequences.{ticket_reads_back, wrote, sound_fields}
use Rattle.bounded.specs.Bounded.{pair_for, terms_for, bounds_after}
use Rattle.bounded.proofs.Consequences.{issued_facts}
use Rattle.runs.specs.Runs.{State, Call, after, said, refusal_in}
use Rattle.runs.specs.Runs.Profile.{full, small}
use Rattle.runs.specs.Runs.Call.{register, register_bounded, get_ads, withdraw, newest}
use Rattle.runs.specs.Issued.{Issue, issued_by}
use Rattle.runs.proofs.Profile.{Profiled, turned, alike, bounded_profiled}

-- what a ticket tells: at most the wait that was used, cut to the lifetime, and just that where none was brought; and its bytes are those of a ticket of that number,
-- issued at that clock
pub record Tells (i : Issue) : Type 0 where
  pub at_most : i.tells ≤ min lifetime i.used
  pub whole : i.afresh ≡ true → i.tells ≡ min lifetime i.used
  pub size : length i.ticket ≡ ticket_size
  pub issued_at_lem : issued (ticket_body i.ticket) ≡ i.clock
  pub waits : wait (ticket_body i.ticket) ≡ i.tells

-- a ticket that was issued: the bounds that were given were of their form and had a place for it, and it is in those that are left; the clock is its own
pub record Entered (a : ℕ) (i : Issue) (before after : State) : Type 0 where
  pub formed : well_bounded a before.bounds ≡ true
  pub room : crowded a i.clock i.pair before.bounds ≡ false
  pub long : length i.pair ≡ pair_size a
  pub early : i.clock ≤ last_clock
  pub recipe : ℕ
  pub used_is : i.used ≡ max recipe (until_in a i.pair (bounds_in a before.bounds) - i.clock)
  pub later : clock_of before.cache ≤ i.clock
  pub clock_left : clock_of after.cache ≡ i.clock
  pub tells : Tells i
  pub left : after.bounds ≡ entered a i.clock i.pair (i.clock + min lifetime i.used) before.bounds

-- what a call does that is refused by n, 0 for none, and issues these tickets
pub data Bounds (a : ℕ) (before : State) (n : ℕ) : List Issue → State → Type 0 where
  untouched : {after : State} → after.bounds ≡ before.bounds → Bounds a before n [] after
  enters : (i : Issue) {after : State} → n ≡ 0 → Entered a i before after → Bounds a before n (i ∷ []) after

-- ---- REGISTER with lower bounds

module _ (s : State) (window : ℕ) (key : List ℕ) (clock : ℕ) (ad : List ℕ) (vouched : Bool) (ticket reply : List ℕ) where
  abbrev sh : Shape
  sh = shape_of s.cache

  abbrev q : Request
  q = request s.cache key clock ad vouched ticket reply

  abbrev t : Terms
  t = terms_for sh (terms window) s.bounds q

  abbrev c : Call
  c = register_bounded full window key clock ad vouched ticket reply

  used_told : used_for sh t q ≡ max (wait_for sh q) (until_in sh.address (pair_for sh q) (bounds_in sh.address s.bounds) - clock)
  unfolding used_for terms_for
  used_told = refl

  -- by WAIT
  ticket_tells : (registered sh t q).answer ≡ Wait (record { 0 = remaining (used_for sh t q) q }) (moved 0 s.cache (cleared sh clock s.cache))
      → (i : Issue) → i.clock ≡ clock → i.used ≡ used_for sh t q → i.tells ≡ remaining (used_for sh t q) q → i.ticket ≡ (registered sh t q).reply → i.afresh ≡ not (brought q) → Tells i
  unfolding ticket_in
  ticket_tells w i at used tells bytes afresh =
      let sound = shape_sound s.cache in
      let m : Millis = record { 0 = remaining (used_for sh t q) q } in
      let moves = moved 0 s.cache (cleared sh clock s.cache) in
      let back = ticket_reads_back sh t q m moves sound w in
      let f = sound_fields sh t q m moves sound w in
      record {
        at_most = omega (arith, used, tells);
        whole = λ h. omega (arith, used, tells, first_stayed_none q (not-true (brought q) (sym afresh ∙ h)));
        size = rw (bytes, wrote sh t q m moves sound w) (ticket_accepted clock key _ (written_passes key _ f.sized clock f.first_small f.issued_small f.wait_small (f.times clock (le_refl clock)))).size;
        issued_at_lem = rw (bytes, at) (ap (λ (k : Ticket). k.issued) back);
        waits = rw (bytes, tells) (ap (λ (k : Ticket). k.wait) back);
      }

  came_bounds : Came (refusal (register_rows sh t q)) sh (used_for sh t q) q → Bounds sh.address s (refusal_in (said c s)) (issued_by c s (said c s)) (after c s)
  unfolding after said registered bounds_after confirmed_in waiting_in
  came_bounds (refuses m e l) = rw l (untouched refl)
  came_bounds (confirms e o l) = rw l (untouched refl)
  came_bounds (defers e o l) =
      let r = ready sh t q (shape_sound s.cache) e in
      let f = issued_facts sh (terms window) s.bounds q _ _ (ap (λ (o : Outcome). o.answer) l) in
      rw l
      (enters _ refl
      (record {
        formed = f.well;
        room = f.room;
        long = f.pair_long;
        early = f.early;
        recipe = wait_for sh q;
        used_is = used_told;
        later = r.later;
        clock_left = (expired_left sh clock s.cache r.sound r.well r.later r.early).reads.clocked;
        tells = ticket_tells (ap (λ (o : Outcome). o.answer) l) _ refl refl refl (ap (λ (o : Outcome). o.reply) (sym l)) refl;
        left = refl;
      }))

-- ---- every call

-- a call of the small-registrar profile does what the full call with the usual window does, or nothing
profiled_bounds : {a : ℕ} (c d : Call) (s : State) → Profiled c d s → Bounds a s (refusal_in (said d s)) (issued_by d s (said d s)) (after d s)
    → Bounds a s (refusal_in (said c s)) (issued_by c s (said c s)) (after c s)
profiled_bounds c d s (turned some none i same) x = rw (i, same) (untouched refl)
profiled_bounds c d s (alike says leaves issues) x = rw (issues (said c s), says, leaves) x

pub call_bounds : (c : Call) (s : State) → Bounds (shape_of s.cache).address s (refusal_in (said c s)) (issued_by c s (said c s)) (after c s)
unfolding after
call_bounds (register p window key clock ad vouched ticket reply) s = untouched refl
call_bounds (register_bounded full window key clock ad vouched ticket reply) s = came_bounds s window key clock ad vouched ticket reply (came _ _ _ _)
call_bounds (register_bounded small window key clock ad vouched ticket reply) s =
    profiled_bounds (register_bounded small window key clock ad vouched ticket reply) (register_bounded full usual_window key clock ad vouched ticket reply) s
    (bounded_profiled window key clock ad vouched ticket reply s) (came_bounds s usual_window key clock ad vouched ticket reply (came _ _ _ _))
call_bounds (get_ads p clock service list) s = untouched refl
call_bounds (withdraw p service peer clock vouched) s = untouched refl
call_bounds (newest p caches clock service) s = untouched refl

refused_as_were : {a n : ℕ} {s t : State} {is : List Issue} → Bounds a s n is t → (n ≡ 0 → ⊥) → t.bounds ≡ s.bounds
refused_as_were (untouched e) h = e
refused_as_were (enters i z x) h = absurd (h z)

pub refused_bounds : (c : Call) (s : State) → (refusal_in (said c s) ≡ 0 → ⊥) → (after c s).bounds ≡ s.bounds
refused_bounds c s h = refused_as_were (call_bounds c s) h

-- "CONFIRMED, a listing or REGISTER without bounds changes them." Nothing does but a ticket that is issued with them
none_as_were : {a n : ℕ} {s t : State} {is : List Issue} → Bounds a s n is t → is ≡ [] → t.bounds ≡ s.bounds
none_as_were (untouched e) h = e
none_as_were (enters i z x) h = let z : ◌≡◌ {A = ℕ} 0 1 = cc in absurd (omega arith)

pub bounds_untouched : (c : Call) (s : State) → issued_by c s (said c s) ≡ [] → (after c s).bounds ≡ s.bounds
bounds_untouched c s h = none_as_were (call_bounds c s) h
