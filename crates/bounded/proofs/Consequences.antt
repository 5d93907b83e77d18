-- What REGISTER with lower bounds promises its users, each about the call as its contract has it (specs/Promises.antt), for every address family, window, cache and
-- bounds. Each names the mistake that it rules out.
use mathlib.Core.Path.{◌≡◌, refl, sym, ap, ◌∙◌}
use mathlib.Core.Bool.{true, false}
use mathlib.Core.List.{List}
use Prim.Native.Nat.{ℕ, ◌-◌, ◌≤◌, ◌<◌}
use native.Mathlib.Omega.{arith}
use borrow.Author.Tests.{not-true}
use lib.ListN.{length, length-append, length-drop}
use Rattle.octets.proofs.Runs.{length_part}
use Rattle.settings.specs.Settings.{last_clock}
use Rattle.times.specs.declared.Millis.{Millis}
use Rattle.record.specs.Layout.{ad_size, pair_size, ad_body, service, address}
use Rattle.cache.specs.declared.Shape.{Shape}
use Rattle.cache.specs.Cache.{Sound}
use Rattle.bounds.specs.Bounds.{well_bounded}
use Rattle.entering.specs.Entering.{pair_in, crowded, entered}
use Rattle.entering.proofs.Form.{entered_well}
use Rattle.entering.proofs.Untils.{entered_own}
use Rattle.checks.specs.declared.Terms.{Terms}
use Rattle.checks.specs.Request.{Request, brought, unbounded}
use Rattle.checks.proofs.Rows as checks
use Rattle.admission.specs.Registered.{Registered, Refused, Confirmed, Wait}
use Rattle.admission.specs.Deciding.{refusal_of, IsConfirmed, stayed, PastFor}
use Rattle.registrar.specs.Registering.{registered}
use Rattle.registrar.specs.Promises.{Words, Returning}
use Rattle.registrar.proofs.Demand.{passing, promised, due_where}
use Rattle.registrar.proofs.Consequences.{Deferred, wait_means}
use Rattle.registrar.proofs.Floors.{held_until, until_told, kept_ticket}
use Rattle.bounded.specs.Bounded.{pair_for, until_for, terms_for, used_within, registered_bounded, is_wait, until_after, bounds_after, bounds_left}
use Rattle.bounded.specs.Promises.{KeptWithin, PromisedWithin}
use Rattle.bounded.proofs.Answers.{room_there}

-- ---- the promises

-- of what the definitions give
pub promised_within : (sh : Shape) (t : Terms) (b : List ℕ) (q : Request) → Sound sh
    → let o = registered_bounded sh t b q in PromisedWithin sh t b q o.answer o.cache (bounds_left sh t b q) o.reply
promised_within sh t b q sound = record { registers = promised sh (terms_for sh t b q) q sound; bounds_left_lem = refl }

-- ---- demand 3, in the words of order 12

module _ (A : Type 0) (told : Registered → A) (says : Words A) (sh : Shape) (t : Terms) (b : List ℕ) (q : Request) (answer : A) (cache bounds reply : List ℕ)
    (kept : KeptWithin A told says sh t b q answer cache bounds reply) where
  -- "A bound is only told, and a return is let in by the recipe." It is not: nobody is confirmed who stayed less than until − now
  pub not_before_bound : stayed q < until_for sh b q - q.clock → says.Confirms answer → ⊥
  unfolding terms_for
  not_before_bound less is = kept.registers.not_below_floor less is

  -- "Nobody is let in before its until." It is: until counts from the wait before the time stayed is taken off, and who stayed at least until − now, and at least
  -- the exact wait + 1 ms + f·11/8192 ms, is confirmed
  pub due_confirmed : Returning sh (terms_for sh t b q) q → PastFor sh q (stayed q) → until_for sh b q - q.clock ≤ stayed q → says.Confirms answer
  unfolding terms_for
  due_confirmed r past low = kept.registers.not_late r (due_where (until_for sh b q - q.clock) sh q past low)

-- ---- what is left in the bounds

-- "The bounds are tidied up whenever a call looks at them." They are not: CONFIRMED and a refusal leave them as they were, those past their time too
pub other_leaves_bounds : (sh : Shape) (t : Terms) (b : List ℕ) (q : Request) → is_wait (registered_bounded sh t b q).answer ≡ false → bounds_left sh t b q ≡ b
unfolding bounds_after
other_leaves_bounds sh t b q other = rw other

pub confirmed_leaves_bounds : (sh : Shape) (t : Terms) (b : List ℕ) (q : Request) → IsConfirmed (registered_bounded sh t b q).answer → bounds_left sh t b q ≡ b
confirmed_leaves_bounds sh t b q is = other_leaves_bounds sh t b q (go (registered_bounded sh t b q).answer is)
  where
    go : (r : Registered) → IsConfirmed r → is_wait r ≡ false
    go (Refused n) h = refl
    go (Confirmed k) h = refl
    go (Wait m k) h = let z : ◌≡◌ {A = ℕ} 0 1 = cc in absurd (omega arith)

pub refused_leaves_bounds : (sh : Shape) (t : Terms) (b : List ℕ) (q : Request) → 1 ≤ refusal_of (registered_bounded sh t b q).answer → bounds_left sh t b q ≡ b
refused_leaves_bounds sh t b q some = other_leaves_bounds sh t b q (go (registered_bounded sh t b q).answer some)
  where
    go : (r : Registered) → 1 ≤ refusal_of r → is_wait r ≡ false
    go (Refused n) h = refl
    go (Confirmed k) h = refl
    go (Wait m k) h = absurd (omega arith)

-- an ad's pair
pair_size_lem : (a : ℕ) (ad : List ℕ) → length ad ≡ ad_size a → length (pair_in a ad) ≡ pair_size a
unfolding pair_in
pair_size_lem a ad e =
    let l = length-drop 1 ad in
    let s = length_part 0 32 (ad_body ad) (omega arith) in
    let x = length_part 64 a (ad_body ad) (omega arith) in
    length-append (service (ad_body ad)) (address a (ad_body ad)) ∙ omega arith

-- ---- a ticket that was issued

module _ (sh : Shape) (t : Terms) (b : List ℕ) (q : Request) (m : Millis) (moves : ℕ) (waits : (registered_bounded sh t b q).answer ≡ Wait m moves) where
  issued : Deferred sh (terms_for sh t b q) q m moves
  issued = wait_means sh (terms_for sh t b q) q m moves waits

  passed : checks.Passing sh (terms_for sh t b q) q
  passed = passing sh (terms_for sh t b q) q issued.passes

  -- what entering its pair's until needs
  pub record Issued : Type 0 where
    pub well : well_bounded sh.address b ≡ true
    pub room : crowded sh.address q.clock (pair_for sh q) b ≡ false
    pub pair_long : length (pair_for sh q) ≡ pair_size sh.address
    pub early : q.clock ≤ last_clock
    pub left : bounds_left sh t b q ≡ entered sh.address q.clock (pair_for sh q) (until_after q.clock (used_within sh t b q)) b

  pub issued_facts : Issued
  unfolding terms_for bounds_after
  issued_facts =
      record {
        well = passed.request.formed;
        room = not-true _ (room_there sh (terms_for sh t b q) q issued.passes issued.short);
        pair_long = pair_size_lem sh.address q.ad passed.request.ad.size;
        early = passed.request.clock.to;
        left = rw waits;
      }

  -- the pair's until is now plus the smaller of the lifetime and the wait that was used, before the time stayed is taken off
  pub until_left : until_for sh (bounds_left sh t b q) q ≡ until_after q.clock (used_within sh t b q)
  until_left =
      let i = issued_facts in
      rw i.left (entered_own sh.address q.clock (pair_for sh q) (until_after q.clock (used_within sh t b q)) b i.well i.room i.pair_long (omega (arith, i.early)))

  -- "A bound says more than the ticket did." It is told by the ticket's own fields
  pub until_by_ticket : Sound sh → until_for sh (bounds_left sh t b q) q ≡ held_until (registered_bounded sh t b q).reply
  until_by_ticket sound = until_left ∙ sym (until_told sh (terms_for sh t b q) q m moves sound waits)

-- "A call can spoil the bounds." It cannot: whatever is answered, bounds that were of their form are of it again
pub stays_well_bounded : (sh : Shape) (t : Terms) (b : List ℕ) (q : Request) → well_bounded sh.address b ≡ true → well_bounded sh.address (bounds_left sh t b q) ≡ true
stays_well_bounded sh t b q well = go (registered_bounded sh t b q).answer refl
  where
    go : (r : Registered) → (registered_bounded sh t b q).answer ≡ r → well_bounded sh.address (bounds_left sh t b q) ≡ true
    go (Refused n) e = rw (other_leaves_bounds sh t b q (ap is_wait e)) well
    go (Confirmed k) e = rw (other_leaves_bounds sh t b q (ap is_wait e)) well
    go (Wait m k) e =
        let i = issued_facts sh t b q m k e in
        rw i.left
        (entered_well sh.address q.clock (pair_for sh q) (until_after q.clock (used_within sh t b q)) b i.well i.room i.pair_long (omega (arith, i.early))).well_bounded_lem

-- ---- who keeps its ticket

-- "Whoever keeps its ticket is held back by the bound." It is not: a return whose pair's until is at most that of the ticket that it brings gets REGISTER's answer,
-- and leaves REGISTER's cache and reply, where neither 18 nor 19 is given
pub kept_loses_nothing : (sh : Shape) (t : Terms) (b : List ℕ) (q : Request) → brought q ≡ true → until_for sh b q ≤ held_until q.ticket
    → (refusal_of (registered_bounded sh t b q).answer ≡ 18 → ⊥) → (refusal_of (registered_bounded sh t b q).answer ≡ 19 → ⊥)
    → registered_bounded sh t b q ≡ registered sh (unbounded t.window t.judged) q
unfolding terms_for
kept_loses_nothing sh t b q brings held formed room = kept_ticket sh (terms_for sh t b q) q (until_for sh b q) refl brings held formed room
