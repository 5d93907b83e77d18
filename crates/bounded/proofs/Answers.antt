-- The call's answer by what it found in the bounds (specs/Looking.antt): what was not looked up did not matter, and what a ticket that is issued needs is there.
use mathlib.Core.Path.{◌≡◌, refl, sym, ap, ◌∙◌}
use mathlib.Core.Bool.{Bool, true, false, not}
use mathlib.Core.List.{List}
use Prim.Native.Nat.{ℕ, zero, suc, ◌+◌, ◌-◌, ◌≤◌, ◌<◌, min}
use native.Mathlib.Omega.{arith}
use native.Mathlib.Nat.{sub-zero}
use borrow.Author.Tests.{not-true}
use lib.ListN.{length, take}
use Rattle.octets.specs.Runs.{part, both}
use Rattle.octets.proofs.Runs.{length_part}
use Rattle.settings.specs.Settings.{lifetime}
use Rattle.times.specs.declared.Millis.{Millis}
use Rattle.times.specs.Times.{is_over}
use Rattle.times.proofs.Laws.{over_stayed}
use Rattle.record.specs.Layout.{pair_size, ticket_body, first}
use Rattle.record.specs.Refusals.{refusal}
use Rattle.record.proofs.Refusals.{none_refused}
use Rattle.ticket.specs.declared.Ticket.{Ticket}
use Rattle.ticket.specs.Tickets.{ticket_in}
use Rattle.cache.specs.declared.Shape.{Shape}
use Rattle.cache.specs.Cache.{Sound}
use Rattle.bounds.specs.Bounds.{well_bounded}
use Rattle.entering.specs.Entering.{pair_in, entered}
use Rattle.checks.specs.declared.Terms.{Terms}
use Rattle.checks.specs.Request.{Request, first_asked}
use Rattle.checks.specs.Rows.{own_rows, admission_rows, checked_rows}
use Rattle.checks.proofs.Rows as checks
use Rattle.admission.specs.Registered.{Registered, Wait}
use Rattle.admission.specs.Deciding.{used_for, stayed, space_rows}
use Rattle.admission.proofs.Deciding.{stayed_since, checks_first, space_last, passes_checks}
use Rattle.registrar.specs.Registering.{Outcome, outcome, registered}
use Rattle.registrar.specs.Promises.{Passes, Promised}
use Rattle.registrar.proofs.Demand.{passing, asked_past, promised_of, refuses}
use Rattle.registrar.proofs.Consequences.{Deferred, wait_means, told_range, ticket_reads_back}
use Rattle.bounded.specs.declared.Looked.{Looked}
use Rattle.bounded.specs.Bounded.{terms_for, is_wait, until_after, bounds_after, bounds_left}
use Rattle.bounded.specs.Promises.{PromisedWithin}
use Rattle.bounded.specs.Looking.{Found, Seen, Entering}

-- the pair, lent as the front of its array
pub pair_front : (a : ℕ) (s : List ℕ) → take (pair_size a - 0) s ≡ part 0 (pair_size a) s
unfolding part
pair_front a s = rw sub-zero

pub pair_long : (a : ℕ) (s : List ℕ) → pair_size a ≤ length s → length (take (pair_size a - 0) s) ≡ pair_size a
pair_long a s h = rw (pair_front a s) (length_part 0 (pair_size a) s (omega arith))

-- ---- the terms

-- the checks look at the window, whether stamps are judged, and the form alone
pub checked_alike : (sh : Shape) (t u : Terms) (q : Request) → t.window ≡ u.window → t.judged ≡ u.judged → t.formed ≡ u.formed
    → refusal (checked_rows sh t q) ≡ refusal (checked_rows sh u q)
unfolding checked_rows own_rows admission_rows
checked_alike sh t u q w j f = rw (w, j, f)

-- two terms that are the same for every call that passes the checks give one answer
alike : (sh : Shape) (t u : Terms) (q : Request) → t.window ≡ u.window → t.judged ≡ u.judged → t.formed ≡ u.formed
    → (checks.Passing sh t q → t ≡ u) → registered sh t q ≡ registered sh u q
alike sh t u q w j f same = go (refusal (checked_rows sh t q)) refl
  where
    go : (n : ℕ) → refusal (checked_rows sh t q) ≡ n → registered sh t q ≡ registered sh u q
    go zero e = ap (λ (x : Terms). registered sh x q) (same (checks.passing sh t q e))
    go (suc n) e =
        let d = sym (checked_alike sh t u q w j f) ∙ e in
        sym (refuses sh t q (suc n) (checks_first sh t q (λ z. omega arith) ∙ e) (λ z. omega arith))
        ∙ refuses sh u q (suc n) (checks_first sh u q (λ z. omega arith) ∙ d) (λ z. omega arith)

-- where a ticket is issued, there is room for its bound
pub room_there : (sh : Shape) (t : Terms) (q : Request) → Passes sh t q → stayed q < used_for sh t q → t.room ≡ true
unfolding space_rows
room_there sh t q passes short =
    let e = sym (space_last sh t q (passes_checks sh t q passes)) ∙ passes in
    go t.room (is_over (used_for sh t q) (stayed q)) refl (none_refused _ _ _ e).here
  where
    go : (r o : Bool) → is_over (used_for sh t q) (stayed q) ≡ o → both (not r) (not o) ≡ false → r ≡ true
    go true o e h = refl
    go false true e h = absurd (omega (arith, over_stayed (used_for sh t q) (stayed q) e))
    go false false e h = let z : ◌≡◌ {A = ℕ} 0 1 = cc in absurd (omega arith)

terms_are : (t : Terms) (w : ℕ) (j f : Bool) (l : ℕ) (r : Bool) → t.window ≡ w → t.judged ≡ j → t.formed ≡ f → t.floor ≡ l → t.room ≡ r
    → t ≡ record { window = w; judged = j; formed = f; floor = l; room = r }
terms_are t w j f l r ew ej ef el er = rw (← ew, ← ej, ← ef, ← el, ← er)

-- ---- a call by what it found

module _ (sh : Shape) (t : Terms) (b : List ℕ) (q : Request) (seen : Looked) (sound : Sound sh) (saw : Seen sh.address t q.clock b q.ad seen) where
  abbrev a : ℕ
  a = sh.address

  module _ (p : checks.Passing sh seen.terms q) where
    well : well_bounded a b ≡ true
    well = sym saw.formed_is ∙ p.request.formed

    found : Found a q.clock b (pair_in a q.ad) seen
    found = saw.found well p.request.ad.size

    terms_same : seen.terms ≡ terms_for sh t b q
    unfolding terms_for
    terms_same = terms_are seen.terms _ _ _ _ _ saw.window_is saw.judged_is saw.formed_is found.floor_is found.room_is

  -- what was not looked up did not matter
  pub same_answer : registered sh seen.terms q ≡ registered sh (terms_for sh t b q) q
  unfolding terms_for
  same_answer = alike sh seen.terms (terms_for sh t b q) q saw.window_is saw.judged_is saw.formed_is terms_same

  -- a ticket is issued
  module _ (m : Millis) (moves : ℕ) (waits : (registered sh seen.terms q).answer ≡ Wait m moves) where
    issued : Deferred sh seen.terms q m moves
    issued = wait_means sh seen.terms q m moves waits

    passed : checks.Passing sh seen.terms q
    passed = passing sh seen.terms q issued.passes

    first_told : first (ticket_body (registered sh seen.terms q).reply) ≡ first_asked q
    unfolding ticket_in
    first_told = ap (λ (k : Ticket). k.first) (ticket_reads_back sh seen.terms q m moves sound waits)

    -- what it needs to be entered
    pub enters : (reply : List ℕ) → reply ≡ (registered sh seen.terms q).reply → length reply ≡ length q.reply → Entering a b seen q.clock m reply
    enters reply e long =
        let f = found passed in
        record {
          short = sound.address_most;
          well = well passed;
          used_is = saw.used_is;
          enough = f.enough;
          found_is = rw f.pair_is f.found_is;
          room = rw f.pair_is (not-true _ (sym f.room_is ∙ room_there sh seen.terms q issued.passes issued.short));
          sized = long ∙ passed.request.lengths.reply_size;
          past = rw (e, first_told) (asked_past sh seen.terms q passed);
          early = passed.request.clock.to;
          cut = (told_range sh seen.terms q m moves sound waits).1;
        }

    -- and what is entered is what the call leaves
    pub enters_left : (reply bounds : List ℕ) → reply ≡ (registered sh seen.terms q).reply
        → bounds ≡ entered a q.clock (part 0 (pair_size a) seen.pair) (until_after q.clock (m.0 + (q.clock - first (ticket_body reply)))) b
        → bounds ≡ bounds_left sh t b q
    unfolding bounds_after
    enters_left reply bounds e h =
        let f = found passed in
        let same = terms_same passed in
        let u : min lifetime (m.0 + (q.clock - first (ticket_body reply))) ≡ min lifetime (used_for sh seen.terms q) =
        rw (e, first_told) (omega (arith, issued.tells, issued.short, stayed_since q)) in
        let w : (registered sh (terms_for sh t b q) q).answer ≡ Wait m moves = rw (← same) waits in
        h ∙ rw (w, f.pair_is, u, same)

  -- no ticket is issued
  pub stays_left : (bounds : List ℕ) → is_wait (registered sh seen.terms q).answer ≡ false → bounds ≡ b → bounds ≡ bounds_left sh t b q
  unfolding bounds_after
  stays_left bounds none e = e ∙ rw (← same_answer, none)

  -- ---- what is promised of the call, by its answer

  module _ (r : Registered) (cache reply bounds : List ℕ) (e : outcome r cache reply ≡ registered sh seen.terms q) where
    registers : Promised sh (terms_for sh t b q) q r cache reply
    registers = promised_of sh (terms_for sh t b q) q r cache reply sound (e ∙ same_answer)

    -- a ticket was issued, and its until is entered
    pub issued_kept : (m : Millis) (moves : ℕ) → r ≡ Wait m moves
        → bounds ≡ entered a q.clock (part 0 (pair_size a) seen.pair) (until_after q.clock (m.0 + (q.clock - first (ticket_body reply)))) b
        → PromisedWithin sh t b q r cache bounds reply
    issued_kept m moves is h =
        record {
          registers = registers;
          bounds_left_lem = enters_left m moves (sym (ap (λ (o : Outcome). o.answer) e) ∙ is) reply bounds (ap (λ (o : Outcome). o.reply) e) h;
        }

    -- none was, and the bounds are as they were
    pub other_kept : is_wait r ≡ false → bounds ≡ b → PromisedWithin sh t b q r cache bounds reply
    other_kept none h =
        record { registers = registers; bounds_left_lem = stays_left bounds (ap (λ (o : Outcome). is_wait o.answer) (sym e) ∙ none) h }
