-- What a floor under the wait (document 02, order 12) changes and what not, for a caller that keeps lower bounds: what a ticket that was issued tells of the wait that
-- was used, so that a bound is told by the ticket's own fields; and that who keeps its ticket loses nothing. Each about the definition that `register_in` equals.
use mathlib.Core.Path.{◌≡◌, refl, sym, ap, ◌∙◌}
use mathlib.Core.Bool.{Bool, true, false, not}
use mathlib.Core.List.{List, [], ◌∷◌}
use Prim.Native.Nat.{ℕ, zero, suc, ◌+◌, ◌-◌, ◌≤◌, ◌<◌, min, max, zero-le}
use native.Mathlib.Omega.{arith}
use lib.ListN.{length, replicate}
use borrow.Author.Tests.{ne_eqb}
use Rattle.octets.specs.Numbers.{number, bytes}
use Rattle.octets.specs.Runs.{both, part, same, zeros}
use Rattle.sha256.proofs.Sizes.{length_digest}
use Rattle.settings.specs.Settings.{lifetime, usual_window, key_size}
use Rattle.times.specs.declared.Millis.{Millis}
use Rattle.times.specs.Times.{is_over}
use Rattle.times.proofs.Laws.{timely_facts, timely_holds, over_stayed, short_stayed}
use Rattle.record.specs.Layout.{ticket_size, ticket_body, first, issued, wait}
use Rattle.record.specs.Ads.{body_of, ad_rows}
use Rattle.record.specs.Refusals.{row, refusal}
use Rattle.ticket.specs.declared.Ticket.{Ticket}
use Rattle.ticket.specs.Tickets.{ad_hash, ticket_fields, ticket_in, ticket_of}
use Rattle.ticket.proofs.Tickets.{fields_back}
use Rattle.cache.specs.declared.Shape.{Shape}
use Rattle.cache.specs.declared.Family.TheVariants.{V4}
use Rattle.cache.specs.Chunks.{chunks, joined, keep, count, every}
use Rattle.cache.specs.Cache.{Sound, ipv4, head, head_of, entries, cache_of, never_fall, well_formed}
use Rattle.cache.specs.Rows.{cache_rows, clock_rows}
use Rattle.load.specs.Counts.{counts, counts_in}
use Rattle.checks.specs.declared.Terms.{Terms}
use Rattle.checks.specs.Request.{Request, request, brought, unbounded}
use Rattle.checks.specs.Rows.{form_rows, length_rows, vouched_rows, held_rows, return_rows, own_rows, admission_rows, checked_rows}
use Rattle.checks.proofs.Rows.{passing, returned, plain_unless_18}
use Rattle.admission.specs.Registered.{Wait}
use Rattle.admission.specs.Deciding.{refusal_of, answered_wait, wait_for, used_for, stayed, space_rows, register_rows, Outcome, confirmed, waiting_in, decided}
use Rattle.admission.proofs.Deciding.{stayed_since, over_confirms, short_waits, used_stayed, used_plain, checks_first, space_last, passes_with_room, passes_when_stayed, refused_without_room}
use Rattle.registrar.specs.Registering.{registered}
use Rattle.registrar.proofs.Demand.{passes_decided, refuses}
use Rattle.registrar.proofs.Consequences.{wait_means, ticket_reads_back, ticket_judged, refused_exactly_when}
use Rattle.registrar.proofs.Examples.{usual, ad, wait_one}

-- the time up to which a ticket holds its pair back: from its issue on, the smaller of the lifetime and the wait that was used for it, which is what is left of it
-- and what was stayed
abbrev pub held_until : List ℕ → ℕ
held_until ticket = let b = ticket_body ticket in issued b + min lifetime (wait b + (issued b - first b))

-- so of a ticket that WAIT left in the reply it is now plus the smaller of the lifetime and the wait that was used
pub until_told : (sh : Shape) (t : Terms) (q : Request) (m : Millis) (moves : ℕ) → Sound sh → (registered sh t q).answer ≡ Wait m moves
    → held_until (registered sh t q).reply ≡ q.clock + min lifetime (used_for sh t q)
unfolding ticket_in
until_told sh t q m moves sound waits =
    let d = wait_means sh t q m moves waits in
    let back = ticket_reads_back sh t q m moves sound waits in
    let f = ap (λ (k : Ticket). k.first) back in
    let i = ap (λ (k : Ticket). k.issued) back in
    let w = ap (λ (k : Ticket). k.wait) back in
    omega (arith, f, i, w, d.tells, d.short, stayed_since q)

-- ---- who has stayed the floor

module _ (sh : Shape) (t : Terms) (q : Request) where
  -- the terms of REGISTER with this window, judging stamps as these do
  abbrev plain : Terms
  plain = unbounded t.window t.judged

  -- 19 is the only number behind the checks
  passes_but_19 : refusal (checked_rows sh t q) ≡ 0 → (refusal (register_rows sh t q) ≡ 19 → ⊥) → refusal (register_rows sh t q) ≡ 0
  unfolding space_rows refusal
  passes_but_19 none room =
      let e = space_last sh t q none in
      e ∙ go (both (not t.room) (not (is_over (used_for sh t q) (stayed q)))) (λ z. room (e ∙ z))
    where
      go : (b : Bool) → (refusal (row 19 b ∷ []) ≡ 19 → ⊥) → refusal (row 19 b ∷ []) ≡ 0
      go true h = absurd (h refl)
      go false h = refl

  -- a floor that is stayed decides nothing
  decided_plain : t.floor ≤ stayed q → decided sh (used_for sh t q) q ≡ decided sh (wait_for sh q) q
  decided_plain low = go (is_over (wait_for sh q) (stayed q)) refl
    where
      go : (b : Bool) → is_over (wait_for sh q) (stayed q) ≡ b → decided sh (used_for sh t q) q ≡ decided sh (wait_for sh q) q
      go true e =
          let over = over_stayed (wait_for sh q) (stayed q) e in
          over_confirms sh (used_for sh t q) q (used_stayed sh t q low over) ∙ sym (over_confirms sh (wait_for sh q) q over)
      go false e = ap (λ (w : ℕ). decided sh w q) (used_plain sh t q (omega (arith, short_stayed (wait_for sh q) (stayed q) e)))

  -- who has stayed the floor and passes the checks is answered as by REGISTER, unless there is no room for its ticket
  pub floor_stayed : t.floor ≤ stayed q → refusal (checked_rows sh t q) ≡ 0 → (refusal (register_rows sh t q) ≡ 19 → ⊥) → registered sh t q ≡ registered sh plain q
  floor_stayed low none room =
      let same : refusal (checked_rows sh plain q) ≡ 0 = sym (plain_unless_18 sh t q (λ z. omega arith)) ∙ none in
      passes_decided sh t q (passes_but_19 none room) ∙ decided_plain low
      ∙ sym (passes_decided sh plain q (passes_with_room sh plain q refl same) ∙ ap (λ (w : ℕ). decided sh w q) (used_plain sh plain q zero-le))

  -- who is refused by the checks is refused as by REGISTER, unless by 18
  refused_plain : (n : ℕ) → refusal (checked_rows sh t q) ≡ suc n → (refusal (register_rows sh t q) ≡ 18 → ⊥) → registered sh t q ≡ registered sh plain q
  refused_plain n e formed =
      let all = checks_first sh t q (λ z. omega arith) in
      let same = plain_unless_18 sh t q (λ z. formed (all ∙ z)) in
      let also = checks_first sh plain q (λ z. omega arith) in
      sym (refuses sh t q (suc n) (all ∙ e) (λ z. omega arith)) ∙ refuses sh plain q (suc n) (also ∙ sym same ∙ e) (λ z. omega arith)

  -- "Whoever keeps its ticket is held back by the bound." It is not: where the pair's until is at most that of the ticket that is brought, and neither 18 nor 19 is
  -- given, the answer, the cache and the reply are REGISTER's
  pub kept_ticket : (until : ℕ) → t.floor ≡ until - q.clock → brought q ≡ true → until ≤ held_until q.ticket
      → (refusal_of (registered sh t q).answer ≡ 18 → ⊥) → (refusal_of (registered sh t q).answer ≡ 19 → ⊥) → registered sh t q ≡ registered sh plain q
  kept_ticket until floor brings held formed room = go (refusal (checked_rows sh t q)) refl
    where
      number : refusal_of (registered sh t q).answer ≡ refusal (register_rows sh t q)
      number = refused_exactly_when sh t q

      go : (n : ℕ) → refusal (checked_rows sh t q) ≡ n → registered sh t q ≡ registered sh plain q
      go zero none =
          let b = ticket_body q.ticket in
          let r = (passing sh t q none).ticket brings in
          let f = timely_facts q.clock (first b) (issued b) (wait b) r.accepted.times in
          let s : stayed q ≡ q.clock - first b = rw brings in
          floor_stayed (omega (arith, floor, held, s, r.due, f.first_issued, f.issued_latest)) none (λ z. room (number ∙ z))
      go (suc n) e = refused_plain n e (λ z. formed (number ∙ z))

-- ---- such a call: a return at 1,001, with a ticket that was issued at 1,000 to one who first asked at 0, for 1 ms more. It holds its pair until 2,001, so that the
-- floor is 1,000, and 1,001 are stayed

abbrev ticket : List ℕ
ticket = ticket_of (replicate key_size 7) (ticket_fields (ad_hash (ad V4)) 0 1000 1)

unfoldable pub back : Request
back = request (cache_of ipv4 (head 1 0 0 0) []) (replicate key_size 7) 1001 (ad V4) true ticket (replicate ticket_size 0)

-- under a floor, with room for a ticket's bound or without
abbrev pub above : ℕ → Bool → Terms
above floor room = record { window = usual_window; judged = false; formed = true; floor = floor; room = room }

-- the ticket passes 7 to 11, and its fields are read back
taken : refusal (return_rows usual_window (replicate key_size 7) 1001 (ad V4) ticket) ≡ 0
taken =
    ticket_judged usual_window _ 1001 (ad V4) 0 1000 1 (omega arith) (omega arith) (omega arith)
    (timely_holds 1001 0 1000 1 (omega arith) (omega arith) (omega arith) (omega arith))

fields : ticket_in (ticket_body ticket) ≡ ticket_fields (ad_hash (ad V4)) 0 1000 1
fields = fields_back (replicate key_size 7) (ticket_fields (ad_hash (ad V4)) 0 1000 1) (length_digest (ad V4)) (omega arith) (omega arith) (omega arith)

brings : brought back ≡ true
unfolding back
brings = let l = (returned usual_window (replicate key_size 7) 1001 (ad V4) ticket taken).accepted.size in rw (ne_eqb (length ticket) 0 (λ z. omega arith))

since : stayed back ≡ 1001
unfolding back ticket_in
since = let f = ap (λ (k : Ticket). k.first) fields in rw (brings, f)

checked : (floor : ℕ) (room : Bool) → refusal (checked_rows ipv4 (above floor room) back) ≡ 0
unfolding ad back checked_rows own_rows admission_rows cache_rows form_rows length_rows clock_rows vouched_rows held_rows refusal well_formed cache_of head_of joined number bytes part body_of entries chunks every never_fall zeros ad_rows same counts_in counts count keep
checked floor room = rw brings taken

waits_one : wait_for ipv4 back ≡ 1
unfolding back
waits_one = wait_one V4 1001

used : (floor : ℕ) (room : Bool) → used_for ipv4 (above floor room) back ≡ max 1 floor
unfolding used_for
used floor room = rw waits_one

-- it is confirmed, as by REGISTER, though there is no room for another ticket
pub back_kept : registered ipv4 (above 1000 false) back ≡ registered ipv4 usual back
unfolding ticket_in back
back_kept =
    let t = above 1000 false in
    let none : refusal (register_rows ipv4 t back) ≡ 0 = passes_when_stayed ipv4 t back (omega (arith, used 1000 false, since)) (checked 1000 false) in
    let n = refused_exactly_when ipv4 t back in
    let f = ap (λ (k : Ticket). k.first) fields in
    let i = ap (λ (k : Ticket). k.issued) fields in
    let w = ap (λ (k : Ticket). k.wait) fields in
    kept_ticket ipv4 t back 2001 refl brings (omega (arith, f, i, w)) (λ z. omega (arith, n, none)) (λ z. omega (arith, n, none))

pub back_confirmed : registered ipv4 (above 1000 false) back ≡ confirmed ipv4 back
back_confirmed =
    let t = above 1000 false in
    let over : used_for ipv4 t back ≤ stayed back = omega (arith, used 1000 false, since) in
    passes_decided ipv4 t back (passes_when_stayed ipv4 t back over (checked 1000 false)) ∙ over_confirms ipv4 (used_for ipv4 t back) back over

-- under a floor of 1,002, another's, it is told 1 ms more where there is room, and else refused by 19
pub back_told : answered_wait (registered ipv4 (above 1002 true) back).answer ≡ 1
unfolding waiting_in
back_told =
    let t = above 1002 true in
    let short : stayed back < used_for ipv4 t back = omega (arith, used 1002 true, since) in
    let e = passes_decided ipv4 t back (passes_with_room ipv4 t back refl (checked 1002 true)) ∙ short_waits ipv4 (used_for ipv4 t back) back short in
    ap (λ (o : Outcome). answered_wait o.answer) e ∙ omega (arith, used 1002 true, since)

pub back_crowded : refusal_of (registered ipv4 (above 1002 false) back).answer ≡ 19
back_crowded =
    let t = above 1002 false in
    refused_exactly_when ipv4 t back ∙ refused_without_room ipv4 t back refl (omega (arith, used 1002 false, since)) (checked 1002 false)
