-- What is in the cache after each answer, read off it as a user would and as GET_ADS lists it, so that an answer without its deed is ruled out; and what a return that
-- passes every check has brought.
use mathlib.Core.Path.{◌≡◌, ap}
use mathlib.Core.Bool.{true}
use mathlib.Core.List.{List, [], ◌∷◌, ◌++◌}
use Prim.Native.Nat.{ℕ, ◌-◌, ◌≤◌, ◌<◌}
use native.Mathlib.Omega.{arith}
use lib.ListN.{length, length-drop}
use borrow.Author.Tests.{eq-eqb, eqb-false, le-leb}
use Rattle.octets.specs.Numbers.{Octets}
use Rattle.octets.proofs.Runs.{length_part}
use Rattle.settings.specs.Settings.{lifetime, last_clock}
use Rattle.record.specs.Layout.{identifier_size, ticket_size, service_at, kind_of, service, ad_body, accepted, entry_body, ticket_body, first, issued, wait, tag, tagged}
use Rattle.record.specs.Refusals.{refusal, beside, reply, replied}
use Rattle.record.specs.Entries.{listed}
use Rattle.record.proofs.Entries.{entry_listed}
use Rattle.sha256.specs.Hmac.{hmac_of}
use Rattle.sha256.specs.Tag.{same_tag}
use Rattle.sha256.proofs.Tags.{same_tag_refl}
use Rattle.sha256.proofs.Sizes.{length_hmac}
use Rattle.ticket.specs.declared.Ticket.{Ticket}
use Rattle.ticket.specs.Tickets.{TicketRead, ad_hash, ticket_fields, ticket_of, ticket_rows, ticket_read_rows, ticket_read, ticket_write_rows, ticket_written}
use Rattle.times.specs.Times.{timely}
use Rattle.times.proofs.Laws.{timely_facts}
use Rattle.ticket.proofs.Tickets.{fields_back, written_passes, ticket_writes_back}
use Rattle.cache.specs.declared.Shape.{Shape}
use Rattle.cache.specs.Chunks.{keep, every}
use Rattle.cache.specs.Cache.{Sound, clock_of, entries, well_formed}
use Rattle.cache.specs.Expiry.{live, head_confirmed, head_live, cleared}
use Rattle.cache.proofs.Chunks.{both_left, keep_through}
use Rattle.cache.proofs.Contents.{Left, expired_left}
use Rattle.cache.proofs.Rows.{Clocked}
use Rattle.upkeep.specs.Newcomer.{newcomer}
use Rattle.upkeep.proofs.Newcomer.{newcomer_stands}
use Rattle.upkeep.proofs.Moves.{every_keep}
use Rattle.listing.specs.Listing.{most_listed, buffer_size, wanted}
use Rattle.listing.proofs.Buffer.{ListsAt, wanted_in, standing_listed}
use Rattle.times.specs.declared.Millis.{Millis}
use Rattle.admission.specs.Admission.{holding}
use Rattle.admission.proofs.Admission.{holding_left}
use Rattle.checks.specs.declared.Terms.{Terms}
use Rattle.checks.specs.Request.{Request, brought, first_asked}
use Rattle.admission.specs.Registered.{Wait}
use Rattle.admission.specs.Deciding.{IsConfirmed, used_for, stayed, register_rows, Outcome, confirmed_in, waiting_in}
use Rattle.admission.proofs.Deciding.{stayed_le, confirmed_means, over_not_full, used_recipe}
use Rattle.registrar.specs.Registering.{registered}
use Rattle.registrar.specs.Promises.{Passes}
use Rattle.registrar.proofs.Demand.{passing, ready}
use Rattle.registrar.proofs.Consequences.{wait_means, wrote, sound_fields}

module _ (sh : Shape) (t : Terms) (q : Request) (sound : Sound sh) where
  -- "It answers CONFIRMED and leaves the cache as it was." After CONFIRMED the last entry is this ad, accepted now and not withdrawn, behind those that are live,
  -- and the clock is now
  pub record Holds : Type 0 where
    pub last : List ℕ
    pub behind_live : entries sh (registered sh t q).cache ≡ keep (live q.clock) (entries sh q.cache) ++ (last ∷ [])
    pub this_ad : entry_body last ≡ ad_body q.ad
    pub accepted_now : accepted last ≡ q.clock
    pub not_withdrawn : kind_of last ≡ sh.kinds.entry
    pub clock_now : clock_of (registered sh t q).cache ≡ q.clock

  -- a call that is confirmed has passed, and the cache that it leaves has its entry last
  pub record Confirms : Type 0 where
    pub passes : Passes sh t q
    pub left : Left sh (head_confirmed q.clock (head_live sh q.clock q.cache)) (keep (live q.clock) (entries sh q.cache) ++ (newcomer sh q.clock q.ad ∷ []))
        (registered sh t q).cache

  pub confirms : IsConfirmed (registered sh t q).answer → Confirms
  unfolding registered confirmed_in
  confirms h =
      let s = confirmed_means (refusal (register_rows sh t q)) sh (used_for sh t q) q h in
      let r = ready sh t q sound s.passes in
      let leaves : (registered sh t q).cache ≡ holding sh q.clock q.ad q.cache = ap (λ (o : Outcome). o.cache) s.leaves in
      let free = over_not_full r (used_for sh t q) (stayed q) (used_recipe sh t q) s.over (stayed_le q) in
      record { passes = s.passes; left = rw leaves (holding_left sh q.clock q.ad q.cache sound r.well r.later r.early r.ad_size_lem free) }

  pub confirmed_holds : IsConfirmed (registered sh t q).answer → Holds
  confirmed_holds h =
      let c = confirms h in
      let r = ready sh t q sound c.passes in
      let n = newcomer_stands sh q.clock q.ad sound (omega (arith, r.early)) r.ad_size_lem in
      record {
        last = newcomer sh q.clock q.ad;
        behind_live = c.left.reads.listed;
        this_ad = n.this_ad;
        accepted_now = n.accepted_now;
        not_withdrawn = n.kind_is;
        clock_now = c.left.reads.clocked;
      }

  -- wherever the entry of a call that passes stands in a cache, GET_ADS of its service lists the ad at every clock at which it lives, byte for byte as it was brought,
  -- where fewer than ten of that service that are live and not withdrawn stand before it
  pub entry_found : Passes sh t q → (cache : List ℕ) (at : ℕ) (list : List ℕ) → well_formed sh cache ≡ true → Clocked cache at → length list ≡ buffer_size sh
      → (before behind : List (List ℕ)) → entries sh cache ≡ before ++ (newcomer sh q.clock q.ad ∷ behind) → at - q.clock < lifetime
      → let s = service (ad_body q.ad) in wanted_in sh at s before < most_listed → ListsAt sh cache at s list (wanted_in sh at s before) q.ad
  entry_found passes cache at list well timed sized before behind there young few =
      let r = ready sh t q sound passes in
      let e = newcomer sh q.clock q.ad in
      let n = newcomer_stands sh q.clock q.ad sound (omega (arith, r.early)) r.ad_size_lem in
      let s = service (ad_body q.ad) in
      let long : length s ≡ identifier_size = length_part service_at identifier_size (ad_body q.ad) (rw length-drop (omega (arith, r.ad_size_lem))) in
      let back : listed sh.kinds.ad e ≡ q.ad =
      rw (← (passing sh t q passes).request.ad.kind_is) (entry_listed sh.kinds.entry q.clock q.ad (omega (arith, r.ad_size_lem))) in
      rw back at
      (standing_listed sh cache at s list (record { well = well; service_size = long; sized = sized; timed = timed }) before behind e there
      (rw n.accepted_now young) (ap service n.this_ad) (eqb-false _ _ n.stands) few)

  -- "It answers CONFIRMED, and nobody finds the ad." GET_ADS of its service at that clock lists it, where fewer than ten of that service that are live and not
  -- withdrawn were there before
  pub confirmed_listed : IsConfirmed (registered sh t q).answer → (list : List ℕ) → length list ≡ buffer_size sh
      → let s = service (ad_body q.ad) in wanted_in sh q.clock s (entries sh q.cache) < most_listed
      → ListsAt sh (registered sh t q).cache q.clock s list (wanted_in sh q.clock s (entries sh q.cache)) q.ad
  confirmed_listed h list sized few =
      let c = confirms h in
      let r = ready sh t q sound c.passes in
      let s = service (ad_body q.ad) in
      let es = entries sh q.cache in
      let same : keep (wanted sh.kinds q.clock s) (keep (live q.clock) es) ≡ keep (wanted sh.kinds q.clock s) es =
      keep_through (live q.clock) (wanted sh.kinds q.clock s) (λ e w. both_left (live q.clock e) _ w) es in
      rw same at
      (entry_found c.passes (registered sh t q).cache q.clock list c.left.well (record { from = omega (arith, c.left.reads.clocked); to = r.early }) sized
      (keep (live q.clock) es) [] c.left.reads.listed (omega arith) (rw same few))

  -- "Expired entries stay in the cache when the answer is WAIT." They do not: after WAIT every entry is live, none that was live is missing, and the
  -- clock is now
  pub record Cleared : Type 0 where
    pub all_live : every (live q.clock) (entries sh (registered sh t q).cache) ≡ true
    pub those_live : entries sh (registered sh t q).cache ≡ keep (live q.clock) (entries sh q.cache)
    pub clock_now : clock_of (registered sh t q).cache ≡ q.clock

  pub wait_clears : (m : Millis) (moves : ℕ) → (registered sh t q).answer ≡ Wait m moves → Cleared
  unfolding waiting_in
  wait_clears m moves h =
      let d = wait_means sh t q m moves h in
      let r = ready sh t q sound d.passes in
      let leaves : (registered sh t q).cache ≡ cleared sh q.clock q.cache = ap (λ (o : Outcome). o.cache) d.leaves in
      let l = expired_left sh q.clock q.cache sound r.well r.later r.early in
      record {
        all_live = rw (leaves, l.reads.listed) (every_keep (live q.clock) (entries sh q.cache));
        those_live = rw leaves l.reads.listed;
        clock_now = rw leaves l.reads.clocked;
      }

-- ---- an accepted ticket

-- "A ticket that is let in may have been altered." It has not: the ticket of a return that passes every check is one that `read_ticket` accepts under the
-- key, and byte for byte what `write_ticket` writes of the fields that it gives
pub record Genuine (key ticket : List ℕ) : Type 0 where
  pub reads : (ticket_read key ticket).refusal ≡ 0
  pub writes : (out : List ℕ) → length out ≡ ticket_size → ticket_written key out (ticket_read key ticket).ticket ≡ reply 0 ticket

pub accepted_ticket_genuine : (sh : Shape) (t : Terms) (q : Request) → Octets q.ticket → Passes sh t q → brought q ≡ true → Genuine q.key q.ticket
unfolding ticket_read ticket_read_rows ticket_rows beside refusal timely
accepted_ticket_genuine sh t q o p b =
    let a = passing sh t q p in
    let t = (a.ticket b).accepted in
    let f = timely_facts q.clock (first (ticket_body q.ticket)) (issued (ticket_body q.ticket)) (wait (ticket_body q.ticket)) t.times in
    let late : issued (ticket_body q.ticket) ≤ last_clock = omega (arith, f.issued_latest, a.request.clock.to) in
    let tag_same : same_tag (hmac_of q.key (tagged q.ticket)) (tag (ticket_body q.ticket)) ≡ true =
    rw (← t.tag_is) (same_tag_refl (hmac_of q.key (tagged q.ticket)) (length_hmac q.key (tagged q.ticket))) in
    let r : (ticket_read q.key q.ticket).refusal ≡ 0 =
    simp (
      eq-eqb _ _ a.request.lengths.key_size_lem,
      eq-eqb _ _ t.size,
      eq-eqb _ _ t.kind_is,
      tag_same,
      le-leb _ _ f.first_issued,
      le-leb _ _ late,
      le-leb _ _ f.some_wait,
      le-leb _ _ f.wait_lifetime,
    ) in
    record { reads = r; writes = λ out l. ticket_writes_back q.key q.ticket out o l r }

-- and so is the ticket that WAIT leaves in the reply
pub written_ticket_genuine : (sh : Shape) (t : Terms) (q : Request) (m : Millis) (moves : ℕ) → Sound sh → (registered sh t q).answer ≡ Wait m moves
    → Genuine q.key (registered sh t q).reply
unfolding ticket_read ticket_read_rows beside ticket_written ticket_write_rows refusal replied
written_ticket_genuine sh t q m moves sound waits =
    let a = passing sh t q (wait_means sh t q m moves waits).passes in
    let h = sound_fields sh t q m moves sound waits in
    let f : Ticket = ticket_fields (ad_hash q.ad) (first_asked q) q.clock m.0 in
    let w : (registered sh t q).reply ≡ ticket_of q.key f = wrote sh t q m moves sound waits in
    let late = h.times last_clock a.request.clock.to in
    let p : refusal (ticket_rows last_clock q.key (ticket_of q.key f)) ≡ 0 =
    written_passes q.key f h.sized last_clock h.first_small h.issued_small h.wait_small late in
    let r : ticket_read q.key (ticket_of q.key f) ≡ record { refusal = 0; ticket = f } =
    simp (eq-eqb _ _ a.request.lengths.key_size_lem) (rw (p, fields_back q.key f h.sized h.first_small h.issued_small h.wait_small)) in
    rw w (record {
      reads = ap (λ (x : TicketRead). x.refusal) r;
      writes = λ out l. rw r (simp (eq-eqb _ _ a.request.lengths.key_size_lem, eq-eqb _ _ l, eq-eqb _ _ h.sized, late));
    })
