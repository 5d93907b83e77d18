-- A call without a refusal, and what REGISTER promises of every call (specs/Promises.antt): demand 3 from the laws of what a wait decides, at the
-- wait that is used.
use mathlib.Core.Path.{◌≡◌, refl, sym, ap, ◌∙◌}
use mathlib.Core.Bool.{Bool, true, false, cond}
use mathlib.Core.List.{List}
use Prim.Native.Nat.{ℕ, zero, suc, ◌-◌, ◌≤◌}
use native.Mathlib.Omega.{arith}
use Rattle.record.specs.Layout.{ticket_body, first, issued, wait}
use Rattle.std.specs.Prelude.{Result, IsErrAnd}
use Rattle.record.specs.declared.reasons.Refusal.{Refusal}
use Rattle.record.specs.Refusals.{number_of, refusal}
use Rattle.record.proofs.Refusals.{number_not_0, handed_on}
use Rattle.times.proofs.Laws.{timely_facts}
use Rattle.cache.specs.declared.Shape.{Shape}
use Rattle.cache.specs.Cache.{Sound}
use Rattle.checks.specs.declared.Terms.{Terms}
use Rattle.checks.specs.Request.{Request, brought, first_asked}
use Rattle.checks.specs.Rows.{checked_rows}
use Rattle.checks.proofs.Rows as checks
use Rattle.admission.specs.declared.Decision.{Decision}
use Rattle.admission.specs.Registered.{Registered, Refused, as_registered}
use Rattle.admission.specs.Deciding.{refusal_of, IsConfirmed, answered_wait, wait_for, used_for, stayed, space_rows, register_rows, PastFor, Outcome, outcome, decided, judged, answered_by}
use Rattle.admission.specs.Ready.{ReadyFor}
use Rattle.admission.proofs.Deciding.{full_waits, confirmed_means, told_refusal, told_wait, confirmed_stayed_exact, past_confirmed, first_not_confirmed, cap_confirms_none, stayed_below_cap, recipe_exact, recipe_below_past, recipe_some, used_recipe, used_floor, used_stayed, space_last, passes_checks, stayed_since, by_first}
use Rattle.registrar.specs.Registering.{registered}
use Rattle.registrar.specs.Promises.{Passes, DueOver, Words, Kept, Promised}

-- ---- a call without a refusal

-- it passes the checks, which are all but 19
pub passing : (sh : Shape) (t : Terms) (q : Request) → Passes sh t q → checks.Passing sh t q
passing sh t q passes = checks.passing sh t q (passes_checks sh t q passes)

-- ---- a call that passes the checks

-- its advertiser first asked in the past
pub asked_past : (sh : Shape) (t : Terms) (q : Request) → checks.Passing sh t q → first_asked q ≤ q.clock
asked_past sh t q p = go (brought q) refl
  where
    go : (b : Bool) → brought q ≡ b → cond b (first (ticket_body q.ticket)) q.clock ≤ q.clock
    go true e =
        let f = timely_facts q.clock (first (ticket_body q.ticket)) (issued (ticket_body q.ticket)) (wait (ticket_body q.ticket)) (p.ticket e).accepted.times in
        omega (arith, f.first_issued, f.issued_latest)
    go false e = omega arith

pub checked_ready : (sh : Shape) (t : Terms) (q : Request) → Sound sh → checks.Passing sh t q → ReadyFor sh q
checked_ready sh t q sound p =
    let r = p.request in
    record {
      sound = sound;
      well = r.well;
      later = r.clock.from;
      early = r.clock.to;
      ad_size_lem = r.ad.size;
      reply_size = r.lengths.reply_size;
    }

pub ready : (sh : Shape) (t : Terms) (q : Request) → Sound sh → Passes sh t q → ReadyFor sh q
ready sh t q sound e = checked_ready sh t q sound (passing sh t q e)

pub passes_decided : (sh : Shape) (t : Terms) (q : Request) → Passes sh t q → registered sh t q ≡ decided sh (used_for sh t q) q
unfolding registered answered_by
passes_decided sh t q e = rw e

-- ---- the promises

-- who is due has stayed past its exact wait, and the floor; and so who has stayed both is due
due_means : (floor : ℕ) (sh : Shape) (q : Request) → DueOver floor sh q → PastFor sh q (stayed q) × (floor ≤ stayed q)
due_means zero sh q due = (due, omega arith)
due_means (suc floor) sh q due = due

pub due_where : (floor : ℕ) (sh : Shape) (q : Request) → PastFor sh q (stayed q) → floor ≤ stayed q → DueOver floor sh q
due_where zero sh q past low = past
due_where (suc floor) sh q past low = (past, low)

module _ (sh : Shape) (t : Terms) (q : Request) (sound : Sound sh) where
  answered_ready : IsConfirmed (registered sh t q).answer → ReadyFor sh q
  unfolding registered
  answered_ready is = ready sh t q sound (confirmed_means (refusal (register_rows sh t q)) sh (used_for sh t q) q is).passes

  pub promised : Promised sh t q (registered sh t q).answer (registered sh t q).cache (registered sh t q).reply
  unfolding registered
  promised =
      let n = refusal (register_rows sh t q) in
      let w = used_for sh t q in
      record {
        answered = refl;
        cache_left = refl;
        reply_left = refl;
        refused = told_refusal n sh w q;
        waits = told_wait n sh w q;
        not_early = λ r less is. let d = answered_ready is in
            less (confirmed_stayed_exact n sh w q (recipe_exact sh q d w (used_recipe sh t q)) (stayed_below_cap sh q d) is);
        not_below_floor = λ less is. omega (arith, used_floor sh t q, (confirmed_means n sh w q is).over);
        not_late = λ r due. let d = due_means t.floor sh q due in
            past_confirmed n sh w q (wait_for sh q) r.passes (recipe_below_past sh q (ready sh t q sound r.passes) r.free) (used_stayed sh t q d.1) d.0;
        full_confirms_none = λ full is.
            cap_confirms_none n sh w q (omega (arith, full_waits sh q full, used_recipe sh t q)) (stayed_below_cap sh q (answered_ready is)) is;
        first_never_confirmed = λ none is. first_not_confirmed n sh w q (omega (arith, recipe_some sh q (answered_ready is), used_recipe sh t q)) none is;
      }

-- of a call that left this
pub promised_of : (sh : Shape) (t : Terms) (q : Request) (r : Registered) (cache reply : List ℕ) → Sound sh
    → outcome r cache reply ≡ registered sh t q → Promised sh t q r cache reply
promised_of sh t q r cache reply sound e = rw (← e) at (promised sh t q sound)

-- and in a caller's own words
pub kept_as : (A : Type 0) (told : Registered → A) (says : Words A) (sh : Shape) (t : Terms) (q : Request) (r : Registered) (z : A) (cache reply : List ℕ)
    → Promised sh t q r cache reply → z ≡ told r → says.refuses z ≡ refusal_of r → says.waits z ≡ answered_wait r → (says.Confirms z → IsConfirmed r)
    → (IsConfirmed r → says.Confirms z) → Kept A told says sh t q z cache reply
kept_as A told says sh t q r z cache reply p e f g to from =
    record {
      answered = e ∙ ap told p.answered;
      cache_left = p.cache_left;
      reply_left = p.reply_left;
      refused = f ∙ p.refused;
      waits = g ∙ p.waits;
      not_early = λ h less is. p.not_early h less (to is);
      not_below_floor = λ less is. p.not_below_floor less (to is);
      not_late = λ h due. from (p.not_late h due);
      full_confirms_none = λ full is. p.full_confirms_none full (to is);
      first_never_confirmed = λ none is. p.first_never_confirmed none (to is);
    }

-- ---- the function that checks and then decides

pub refuses : (sh : Shape) (t : Terms) (q : Request) (r : ℕ) → refusal (register_rows sh t q) ≡ r → (r ≡ 0 → ⊥)
    → outcome (Refused r) q.cache q.reply ≡ registered sh t q
unfolding registered answered_by
refuses sh t q zero e h = absurd (h refl)
refuses sh t q (suc n) e h = rw e

-- a refusal that `?` hands on is the one that was given
pub refuses_handed : (sh : Shape) (t : Terms) (q : Request) (r : Result Decision Refusal) (e : Refusal) → IsErrAnd r (λ x. x ≡ e) → refusal (register_rows sh t q) ≡ number_of e
    → outcome (as_registered r) q.cache q.reply ≡ registered sh t q
refuses_handed sh t q r e h k = rw (handed_on r e h) (refuses sh t q (number_of e) k (number_not_0 e))

-- 19's number, told by the wait that is used and the time of the first request
pub told_space : (sh : Shape) (t : Terms) (q : Request) → refusal (checked_rows sh t q) ≡ 0 → (r w f : ℕ) → w ≡ used_for sh t q → f ≡ first_asked q
    → r ≡ refusal (space_rows t.room w (q.clock - f)) → refusal (register_rows sh t q) ≡ r
told_space sh t q none r w f h a e = space_last sh t q none ∙ sym (e ∙ rw (h, a, stayed_since q))

pub decides_passed : (sh : Shape) (t : Terms) (q : Request) → Passes sh t q → (o : Outcome) (w f : ℕ) → w ≡ used_for sh t q → f ≡ first_asked q
    → o ≡ judged sh w f q.cache q.key q.clock q.ad q.reply → o ≡ registered sh t q
decides_passed sh t q none o w f h a e = e ∙ rw (h, a) (sym (passes_decided sh t q none ∙ by_first sh _ q))
