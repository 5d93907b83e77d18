-- What REGISTER promises its users, each about the definition that `register` equals on every input (specs/Registering.antt), for every address
-- family, window and cache. Each names the mistake that it rules out.
use mathlib.Core.Path.{◌≡◌, refl, sym, ap, ◌∙◌}
use mathlib.Core.Bool.{Bool, true, false, not, cond}
use mathlib.Core.List.{List, [], ◌∷◌, ◌++◌, append_assoc, Memᴰ}
use Prim.Native.Nat.{ℕ, ◌+◌, ◌-◌, ◌≤◌, ◌<◌, ◌^◌, max}
use native.Mathlib.Omega.{arith}
use Rattle.octets.proofs.Runs.{same_refl, same_differ}
use Rattle.sha256.proofs.Sizes.{length_digest}
use Rattle.settings.specs.Settings.{lifetime, last_clock}
use Rattle.record.specs.Layout.{kind_of, hash, issued, wait, accepted, ticket_body}
use Rattle.record.specs.Refusals.{Row, row, refusal}
use Rattle.record.specs.Ads.{ad_rows}
use Rattle.ticket.specs.declared.Ticket.{Ticket}
use Rattle.times.specs.Times.{timely, in_window}
use Rattle.times.proofs.Laws.{timely_holds, in_time}
use Rattle.ticket.specs.Tickets.{ad_hash, ticket_fields, ticket_in, ticket_of, ticket_rows}
use Rattle.ticket.proofs.Tickets.{Sized, fields_back, written_passes}
use Rattle.cache.specs.declared.Shape.{Shape}
use Rattle.cache.specs.Cache.{Sound, capacity_of, entries, well_formed}
use Rattle.cache.specs.Expiry.{cleared}
use Rattle.cache.specs.Rows.{cache_rows, clock_rows}
use Rattle.cache.proofs.Contents.{expired_left}
use Rattle.upkeep.specs.Moves.{moved}
use Rattle.listing.specs.Listing.{chosen}
use Rattle.listing.proofs.Promises.{only_wanted}
use Rattle.times.specs.declared.Millis.{Millis}
use Rattle.wait.specs.Wait.{cap}
use Rattle.wait.proofs.Laws.{wait_not_below_exact}
use Rattle.checks.specs.declared.Terms.{Terms}
use Rattle.checks.specs.Request.{Request, request, brought, first_in, first_asked}
use Rattle.checks.specs.Rows.{form_rows, length_rows, vouched_rows, stamp_rows, held_rows, window_row, bound_rows, return_rows, own_rows, request_rows, admission_rows, early_rows, checked_rows}
use Rattle.record.proofs.Segments.{numbered, rows_behind, stops_there, refused_there}
use Rattle.checks.proofs.Rows.{ticket_numbered}
use Rattle.admission.specs.Registered.{Registered, Refused, Confirmed, Wait}
use Rattle.admission.specs.Admission.{bits, wait_in, holding}
use Rattle.admission.specs.Deciding.{refusal_of, IsConfirmed, counts_for, wait_for, used_for, stayed, register_rows, Full, ExactFor, Outcome, outcome, confirmed_in, remaining, waiting_in, waiting, judged}
use Rattle.admission.proofs.Counting.{in_range}
use Rattle.admission.proofs.Admission.{holding_left}
use Rattle.admission.proofs.Deciding.{stayed_since, full_waits, short_waits, Came, refuses, confirms, defers, came, confirmed_means, told_refusal, stayed_le, stayed_below_cap, over_not_full, used_recipe, used_plain, checks_first, by_first}
use Rattle.registrar.specs.Registering.{registered}
use Rattle.registrar.specs.Promises.{Passes}
use Rattle.registrar.proofs.Demand.{passing, asked_past, ready, passes_decided, promised, refuses as IsRefused-as}

-- ---- what each answer says of its call

-- the three outcomes of a call
abbrev Call : Shape → Terms → Request → Type 0
Call sh t q = Came (refusal (register_rows sh t q)) sh (used_for sh t q) q

abbrev call : (sh : Shape) (t : Terms) (q : Request) → Call sh t q
call sh t q = came (refusal (register_rows sh t q)) sh (used_for sh t q) q

-- what each answer tells
abbrev admitted : Shape → Request → Registered
admitted sh q = Confirmed (moved 1 q.cache (holding sh q.clock q.ad q.cache))

abbrev told : Shape → Terms → Request → Registered
told sh t q = Wait (record { 0 = remaining (used_for sh t q) q }) (moved 0 q.cache (cleared sh q.clock q.cache))

-- "A refused request has changed something." It has not: a refusal has its number, and leaves the cache and the reply as they were
pub record Refusal (sh : Shape) (t : Terms) (q : Request) (n : ℕ) : Type 0 where
  pub number : refusal (register_rows sh t q) ≡ n
  pub some : 1 ≤ n
  pub cache : (registered sh t q).cache ≡ q.cache
  pub reply : (registered sh t q).reply ≡ q.reply

pub refusal_leaves_all : (sh : Shape) (t : Terms) (q : Request) (n : ℕ) → (registered sh t q).answer ≡ Refused n → Refusal sh t q n
unfolding registered confirmed_in waiting_in
refusal_leaves_all sh t q n h = go (call sh t q)
  where
    go : Call sh t q → Refusal sh t q n
    go (refuses m e l) =
        let k : Refused (refusal (register_rows sh t q)) ≡ Refused n = sym (ap (λ (o : Outcome). o.answer) l) ∙ h in
        let number : refusal (register_rows sh t q) ≡ n = cc in
        record { number = number; some = omega (arith, e, number); cache = ap (λ (o : Outcome). o.cache) l; reply = ap (λ (o : Outcome). o.reply) l }
    go (confirms e o l) = let k : admitted sh q ≡ Refused n = rw l at h in let z : ◌≡◌ {A = ℕ} 0 1 = cc in absurd (omega arith)
    go (defers e o l) = let k : told sh t q ≡ Refused n = rw l at h in let z : ◌≡◌ {A = ℕ} 0 1 = cc in absurd (omega arith)

-- "A registrar that refuses everyone, or for a reason of its own." A number is given exactly when its condition is true and none above it is
pub refused_exactly_when : (sh : Shape) (t : Terms) (q : Request) → refusal_of (registered sh t q).answer ≡ refusal (register_rows sh t q)
unfolding registered
refused_exactly_when sh t q = told_refusal (refusal (register_rows sh t q)) sh (used_for sh t q) q

-- "The ticket buffer is cleared on confirmation." It is not touched
pub confirmed_leaves_reply : (sh : Shape) (t : Terms) (q : Request) → IsConfirmed (registered sh t q).answer → (registered sh t q).reply ≡ q.reply
unfolding registered confirmed_in
confirmed_leaves_reply sh t q is =
    ap (λ (o : Outcome). o.reply) (confirmed_means (refusal (register_rows sh t q)) sh (used_for sh t q) q is).leaves

-- WAIT: no refusal, less stayed than the wait, the number is what is left of it, at most the lifetime, the other is how many entries moved, and the outcome
-- is that of the steps
pub record Deferred (sh : Shape) (t : Terms) (q : Request) (m : Millis) (moves : ℕ) : Type 0 where
  pub passes : Passes sh t q
  pub short : stayed q < used_for sh t q
  pub tells : m.0 ≡ remaining (used_for sh t q) q
  pub counts : moves ≡ moved 0 q.cache (cleared sh q.clock q.cache)
  pub leaves : registered sh t q ≡ waiting sh (used_for sh t q) q

pub wait_means : (sh : Shape) (t : Terms) (q : Request) (m : Millis) (moves : ℕ) → (registered sh t q).answer ≡ Wait m moves → Deferred sh t q m moves
unfolding registered confirmed_in waiting_in
wait_means sh t q m moves h = go (call sh t q)
  where
    go : Call sh t q → Deferred sh t q m moves
    go (refuses n e l) =
        let k : Refused (refusal (register_rows sh t q)) ≡ Wait m moves = sym (ap (λ (o : Outcome). o.answer) l) ∙ h in let z : ◌≡◌ {A = ℕ} 0 1 = cc in absurd (omega arith)
    go (confirms e o l) = let k : admitted sh q ≡ Wait m moves = rw l at h in let z : ◌≡◌ {A = ℕ} 0 1 = cc in absurd (omega arith)
    go (defers e o l) =
        let k : told sh t q ≡ Wait m moves = rw l at h in
        record { passes = e; short = o; tells = cc; counts = cc; leaves = l }

-- ---- a full registrar

module _ (sh : Shape) (t : Terms) (q : Request) (sound : Sound sh) where
  -- "A full registrar refuses." It does not: fullness is no refusal, and a call that passes every check gets WAIT and a ticket
  pub full_answers_wait : Passes sh t q → Full sh q → registered sh t q ≡ waiting sh (used_for sh t q) q
  full_answers_wait p full =
      let r = ready sh t q sound p in
      passes_decided sh t q p ∙ short_waits sh (used_for sh t q) q (omega (arith, full_waits sh q full, used_recipe sh t q, stayed_below_cap sh q r))

  -- and its wait, 2^40, is a number like any other: at the last clock, who first asked at 0 is told to come back in 1 ms, where no floor is above it
  pub full_tells_one : t.floor ≤ cap → Full sh q → q.clock ≡ last_clock → first_asked q ≡ 0 → remaining (used_for sh t q) q ≡ 1
  full_tells_one low full late early =
      let s : stayed q ≡ last_clock = sym (stayed_since q) ∙ rw (early, late) in
      let w = full_waits sh q full in
      rw (s, used_plain sh t q (omega (arith, w)), w)

  -- "A first request walks straight in." It never does
  pub first_never_walks_in : brought q ≡ false → IsConfirmed (registered sh t q).answer → ⊥
  first_never_walks_in none is = (promised sh t q sound).first_never_confirmed none is

  -- "The wait is rounded down." It is never below the exact one
  pub wait_never_below_exact : well_formed sh q.cache ≡ true → wait_for sh q < cap
      → ExactFor sh q (wait_for sh q)
  unfolding wait_in
  wait_never_below_exact well less =
      let g = in_range sh q.cache q.clock q.ad sound well in
      wait_not_below_exact (bits sh) (capacity_of q.cache) (counts_for sh q).live (counts_for sh q).service (counts_for sh q).similarity g.some_bits
      g.some_capacity g.occupied less

  -- "A call can spoil the cache." It cannot: what was well formed is well formed after every answer
  pub stays_well_formed : well_formed sh q.cache ≡ true → well_formed sh (registered sh t q).cache ≡ true
  unfolding registered confirmed_in waiting_in
  stays_well_formed well = go (call sh t q)
    where
      go : Call sh t q → well_formed sh (registered sh t q).cache ≡ true
      go (refuses m e l) = rw l well
      go (confirms e o l) =
          let r = ready sh t q sound e in
          rw l (holding_left sh q.clock q.ad q.cache r.sound r.well r.later r.early r.ad_size_lem (over_not_full r (used_for sh t q) (stayed q) (used_recipe sh t q) o (stayed_le q))).well
      go (defers e o l) =
          let r = ready sh t q sound e in
          rw l (expired_left sh q.clock q.cache r.sound r.well r.later r.early).well

-- ---- a listing

-- "Expired ads are still listed." None is: GET_ADS never lists an entry past its time, whether or not a call has dropped it from the cache yet
pub expired_never_listed : (sh : Shape) (cache : List ℕ) (clock : ℕ) (s e : List ℕ) → lifetime ≤ clock - accepted e → Memᴰ e (chosen sh.kinds clock s (entries sh cache)) → ⊥
expired_never_listed sh cache clock s e past listed = omega (arith, (only_wanted sh.kinds clock s (entries sh cache) e listed).young)

-- "A withdrawn ad is still listed." None is
pub withdrawn_never_listed : (sh : Shape) (cache : List ℕ) (clock : ℕ) (s e : List ℕ) → kind_of e ≡ sh.kinds.withdrawn → Memᴰ e (chosen sh.kinds clock s (entries sh cache)) → ⊥
withdrawn_never_listed sh cache clock s e is listed = (only_wanted sh.kinds clock s (entries sh cache) e listed).stands is

-- ---- a ticket

-- "The wait on the ticket is final", "a ticket counts once". Neither: of two tickets that pass every check and have the same first time, whatever
-- their issued, wait and tag, answer, cache and reply are the same. So a ticket shown again inside its window is judged anew, by the first time
-- alone, and nobody remembers it
pub only_first_counts : (sh : Shape) (t : Terms) (cache key : List ℕ) (clock : ℕ) (ad : List ℕ) (vouched : Bool) (reply : List ℕ) (one other : List ℕ)
    → Passes sh t (request cache key clock ad vouched one reply) → Passes sh t (request cache key clock ad vouched other reply)
    → first_in clock one ≡ first_in clock other
    → registered sh t (request cache key clock ad vouched one reply) ≡ registered sh t (request cache key clock ad vouched other reply)
unfolding used_for judged confirmed_in
only_first_counts sh t cache key clock ad vouched reply one other p r e =
    let w = max (wait_in sh cache clock ad) t.floor in
    passes_decided sh t (request cache key clock ad vouched one reply) p ∙ by_first sh w (request cache key clock ad vouched one reply)
    ∙ ap (λ (f : ℕ). judged sh w f cache key clock ad reply) e
    ∙ sym (passes_decided sh t (request cache key clock ad vouched other reply) r ∙ by_first sh w (request cache key clock ad vouched other reply))

-- A ticket of timely fields, brought under its key with the ad that it is for, passes 7 to 10, and 11 exactly when the clock is in the window of its due time
pub ticket_judged : (w : ℕ) (key : List ℕ) (clock : ℕ) (ad : List ℕ) (first issued wait : ℕ) → first < 2 ^ 64 → issued < 2 ^ 64 → wait < 2 ^ 64
    → timely clock first issued wait ≡ true
    → refusal (return_rows w key clock ad (ticket_of key (ticket_fields (ad_hash ad) first issued wait))) ≡ cond (not (in_window w (issued + wait) clock)) 11 0
unfolding ticket_in refusal return_rows bound_rows
ticket_judged w key clock ad f i n hf hi hn timely-is =
    let fields = ticket_fields (ad_hash ad) f i n in
    let ticket = ticket_of key fields in
    let sized = length_digest ad in
    let back = fields_back key fields sized hf hi hn in
    let eh : hash (ticket_body ticket) ≡ ad_hash ad = ap (λ (t : Ticket). t.hash) back in
    let ei : issued (ticket_body ticket) ≡ i = ap (λ (t : Ticket). t.issued) back in
    let ew : wait (ticket_body ticket) ≡ n = ap (λ (t : Ticket). t.wait) back in
    rows_behind (ticket_rows clock key ticket) _ (ticket_numbered clock key ticket) (written_passes key fields sized clock hf hi hn timely-is)
    ∙ rw (eh, ei, ew) (simp (same_refl (ad_hash ad)))

-- A call that was answered WAIT
module _ (sh : Shape) (t : Terms) (q : Request) (m : Millis) (moves : ℕ) (sound : Sound sh) (waits : (registered sh t q).answer ≡ Wait m moves) where
  abbrev pub fields : Ticket
  fields = ticket_fields (ad_hash q.ad) (first_asked q) q.clock m.0

  pub wrote : (registered sh t q).reply ≡ ticket_of q.key fields
  unfolding waiting_in
  wrote = let d = wait_means sh t q m moves waits in ap (λ (o : Outcome). o.reply) d.leaves ∙ rw d.tells

  -- what is told is a wait that a ticket may carry
  pub told_range : (1 ≤ m.0) × (m.0 ≤ lifetime)
  told_range = let d = wait_means sh t q m moves waits in (omega (arith, d.tells, d.short), omega (arith, d.tells))

  -- what a ticket with these fields asks
  pub record Sound-fields : Type 0 where
    pub sized : Sized fields
    pub first_small : first_asked q < 2 ^ 64
    pub issued_small : q.clock < 2 ^ 64
    pub wait_small : m.0 < 2 ^ 64
    -- whatever the latest time is that is allowed, from its issue on
    pub times : (latest : ℕ) → q.clock ≤ latest → timely latest (first_asked q) q.clock m.0 ≡ true

  pub sound_fields : Sound-fields
  sound_fields =
      let passes = (wait_means sh t q m moves waits).passes in
      let r = ready sh t q sound passes in
      let past = asked_past sh t q (passing sh t q passes) in
      record {
        sized = length_digest q.ad;
        first_small = omega (arith, past, r.early);
        issued_small = omega (arith, r.early);
        wait_small = omega (arith, told_range.1);
        times = λ latest h. timely_holds latest (first_asked q) q.clock m.0 past h told_range.0 told_range.1;
      }

  -- "Each ticket has a new first time." It has not: the ticket that is written has the hash of the ad, the first time of the ticket that was brought, or
  -- now where none was, and it was issued now
  pub ticket_reads_back : ticket_in (ticket_body (registered sh t q).reply)
      ≡ ticket_fields (ad_hash q.ad) (first_asked q) q.clock m.0
  ticket_reads_back = let h = sound_fields in ap (λ (t : List ℕ). ticket_in (ticket_body t)) wrote ∙ fields_back q.key fields h.sized h.first_small h.issued_small h.wait_small

  -- "The registrar turns its own ticket away." It does not: brought back with the very same ad and under the same key, at any clock from its issue on, it
  -- passes 7 to 10, and 11 exactly when the clock is in the window of its due time: that of the return, whatever window the call had that wrote it
  module _ (again : Request) (same-ticket : again.ticket ≡ (registered sh t q).reply) (same_key : again.key ≡ q.key) (same-ad : again.ad ≡ q.ad)
      (later : q.clock ≤ again.clock) where
    pub judged_by_window : (w : ℕ) → refusal (return_rows w again.key again.clock again.ad again.ticket) ≡ cond (not (in_window w (q.clock + m.0) again.clock)) 11 0
    judged_by_window w =
        let h = sound_fields in
        rw (same-ticket, same_key, same-ad, wrote)
        (ticket_judged w q.key again.clock q.ad (first_asked q) q.clock m.0 h.first_small h.issued_small h.wait_small (h.times again.clock later))

    -- at its due time, and up to the window's length later, it passes 7 to 11
    pub due_passes : (w : ℕ) → q.clock + m.0 ≤ again.clock → again.clock ≤ q.clock + m.0 + w → refusal (return_rows w again.key again.clock again.ad again.ticket) ≡ 0
    due_passes w h k = judged_by_window w ∙ rw (in_time w (q.clock + m.0) again.clock h k)

    -- so none of 7 to 10 is given, whatever the window
    pub taken_back : (w : ℕ) → 7 ≤ refusal (return_rows w again.key again.clock again.ad again.ticket)
        → refusal (return_rows w again.key again.clock again.ad again.ticket) ≤ 10 → ⊥
    taken_back w least most = go (not (in_window w (q.clock + m.0) again.clock)) (judged_by_window w)
      where
        go : (b : Bool) → refusal (return_rows w again.key again.clock again.ad again.ticket) ≡ cond b 11 0 → ⊥
        go true e = omega arith
        go false e = omega arith

-- ---- a ticket of another ad

-- what is checked before 10, of a return
abbrev pub rows_before10 : Shape → Terms → Request → List Row
rows_before10 sh t q = early_rows sh t q ++ (held_rows (counts_for sh q).held ++ ticket_rows q.clock q.key q.ticket)

before_10_numbered : (sh : Shape) (t : Terms) (q : Request) → numbered (rows_before10 sh t q) ≡ true
unfolding own_rows cache_rows form_rows length_rows clock_rows ad_rows vouched_rows held_rows ticket_rows
before_10_numbered sh t q = go t.judged
  where
    go : (j : Bool)
        → numbered ((request_rows sh t q ++ stamp_rows j sh.address q.clock q.ad) ++ (held_rows (counts_for sh q).held ++ ticket_rows q.clock q.key q.ticket)) ≡ true
    go true = refl
    go false = refl

-- a call that is refused by 10, or by a number that is checked before it
pub record TurnedAway (sh : Shape) (t : Terms) (q : Request) : Type 0 where
  pub number : ℕ
  pub ten_or_earlier : number ≡ refusal (rows_before10 sh t q ++ (row 10 true ∷ []))
  pub some : 1 ≤ number
  pub refused : registered sh t q ≡ outcome (Refused number) q.cache q.reply

-- "Who waited under a quiet address comes back under a crowded one, with its time." It does not: whatever the ticket earned, a return whose ad has another
-- hash than the ticket names is refused, and so neither its time nor anything else of it counts
pub other_ad_refused : (sh : Shape) (t : Terms) (q : Request) → brought q ≡ true → (hash (ticket_body q.ticket) ≡ ad_hash q.ad → ⊥) → TurnedAway sh t q
unfolding checked_rows admission_rows return_rows bound_rows
other_ad_refused sh t q b other =
    let R = early_rows sh t q in
    let H = held_rows (counts_for sh q).held in
    let T = ticket_rows q.clock q.key q.ticket in
    let w : List Row = window_row t.window (issued (ticket_body q.ticket) + wait (ticket_body q.ticket)) q.clock ∷ [] in
    let joined : (R ++ (H ++ T)) ++ (row 10 true ∷ w) ≡ R ++ (H ++ (T ++ (row 10 true ∷ w))) = simp append_assoc in
    let k : refusal (checked_rows sh t q) ≡ refusal ((R ++ (H ++ T)) ++ (row 10 true ∷ [])) =
    rw (b, same_differ (hash (ticket_body q.ticket)) (ad_hash q.ad) other) (ap refusal (sym joined) ∙ stops_there (R ++ (H ++ T)) w 10) in
    let n = refused_there (R ++ (H ++ T)) 10 (before_10_numbered sh t q) (omega arith) in
    let e = checks_first sh t q (λ z. omega (arith, k)) ∙ k in
    let some : 1 ≤ refusal (register_rows sh t q) = omega (arith, e) in
    record { number = refusal (register_rows sh t q); ten_or_earlier = e; some = some; refused = sym (IsRefused-as sh t q (refusal (register_rows sh t q)) refl (λ z. omega arith)) }
