-- Calls that there are, so that what is promised of calls that pass every check is not promised of none: a first request to a full registrar, a return
-- that is confirmed, one that has stayed past its exact wait, one that comes too early, and a first request at which some entries expire and others move.
-- Caches and tickets of returns are those that the first call left, or made up. What demand 3 asks is met in a cache of each family.
use mathlib.Core.Path.{◌≡◌, refl, ap, ◌∙◌}
use mathlib.Core.Bool.{true}
use mathlib.Core.List.{List, [], ◌∷◌}
use Prim.Native.Nat.{ℕ, ◌≤◌, zero-le}
use native.Mathlib.Omega.{arith}
use native.Mathlib.Nat.{sub-zero}
use lib.ListN.{length, replicate}
use borrow.Author.Tests.{ne_eqb}
use Rattle.octets.specs.Numbers.{number, bytes}
use Rattle.octets.specs.Runs.{part, same, zeros}
use Rattle.record.specs.Layout.{identifier_size, signature_size, ticket_size, service, ad_body, ticket_body, first}
use Rattle.record.specs.Refusals.{refusal}
use Rattle.record.specs.Ads.{ad_fields, ad_of, body_of, ad_rows}
use Rattle.record.specs.Entries.{entry_of}
use Rattle.ticket.specs.declared.Ticket.{Ticket}
use Rattle.ticket.specs.Tickets.{ticket_in}
use Rattle.cache.specs.Chunks.{chunks, joined, keep, count, every}
use Rattle.cache.specs.declared.Shape.{Shape}
use Rattle.cache.specs.declared.Family.{Family}
use Rattle.cache.specs.declared.Family.TheVariants.{V4, V6}
use Rattle.cache.specs.Cache.{Sound, ipv4, ipv6, head, capacity_of, head_of, entries, cache_of, never_fall, well_formed}
use Rattle.cache.specs.Expiry.{live, expired_among, cleared}
use Rattle.cache.specs.Rows.{cache_rows, clock_rows}
use Rattle.cache.proofs.Shapes.{ipv4_sound, ipv6_sound}
use Rattle.octets.specs.Counting.{passing_below}
use Rattle.upkeep.specs.Moves.{moved, staying}
use Rattle.listing.specs.Listing.{buffer_size}
use Rattle.listing.proofs.Buffer.{ListsAt, wanted_in}
use Rattle.similarity.specs.Bits.{shares}
use Rattle.load.specs.Counts.{counts, counts_in, similarity}
use Rattle.wait.specs.Wait.{share, under, start_of, working, reached, wait_from, wait_of}
use Rattle.wait.specs.Exact.{exact_top, exact_under, past_top, past_under, stayed_exact, stayed_past}
use Rattle.admission.specs.Admission.{wait_in}
use Rattle.checks.specs.declared.Terms.{Terms}
use Rattle.checks.specs.Request.{Request, request, brought, terms}
use Rattle.settings.specs.Settings.{usual_window, key_size}
use Rattle.checks.specs.Rows.{form_rows, length_rows, vouched_rows, held_rows, return_rows, own_rows, admission_rows, checked_rows}
use Rattle.checks.proofs.Rows.{returned}
use Rattle.admission.specs.Registered.{Wait}
use Rattle.admission.specs.Deciding.{answered_wait, moves_or, counts_for, wait_for, used_for, stayed, space_rows, register_rows, Full, NotFull, ExactFor, PastFor, Outcome, confirmed_in, confirmed, waiting_in, waiting, decided, answered_by}
use Rattle.admission.proofs.Deciding.{over_confirms, short_waits, used_plain, passes_with_room}
use Rattle.registrar.specs.Registering.{registered}
use Rattle.registrar.specs.Promises.{Passes, Returning}
use Rattle.registrar.proofs.Demand.{passes_decided}
use Rattle.registrar.proofs.Consequences.{wait_means, ticket_reads_back, due_passes, full_answers_wait}
use Rattle.registrar.proofs.After.{confirmed_listed}
use Rattle.registrar.proofs.Moves.{moves_told}
use Rattle.registrar.specs.Edges.{entry_at}

-- REGISTER under the usual window
abbrev pub usual : Terms
usual = terms usual_window

-- ---- in a cache of either family

abbrev pub shape : Family → Shape
shape V4 = ipv4
shape V6 = ipv6

pub sound : (f : Family) → Sound (shape f)
sound V4 = ipv4_sound
sound V6 = ipv6_sound

-- addresses that differ in their last byte
abbrev pub address_in : Family → ℕ → List ℕ
address_in V4 n = 10 ∷ 0 ∷ 0 ∷ n ∷ []
address_in V6 n = 32 ∷ 1 ∷ 13 ∷ 184 ∷ 0 ∷ 0 ∷ 0 ∷ 0 ∷ 0 ∷ 0 ∷ 0 ∷ 0 ∷ 0 ∷ 0 ∷ 0 ∷ n ∷ []

-- the ad, and an entry of another peer at the next address, accepted at 0
unfoldable pub ad : Family → List ℕ
ad f = ad_of (shape f).kinds.ad (ad_fields (replicate identifier_size 0) (replicate identifier_size 1) (address_in f 2) 1 0 (replicate signature_size 0))

unfoldable pub neighbour : Family → List ℕ
neighbour f =
    entry_of (shape f).kinds.entry 0
    (ad_of (shape f).kinds.ad (ad_fields (replicate identifier_size 0) (replicate identifier_size 0) (address_in f 1) 1 0 (replicate signature_size 0)))

-- ---- a full registrar

-- the only slot is taken, since the clock 0; another peer asks at 1
unfoldable pub crowded : Family → Request
crowded f = request (cache_of (shape f) (head 1 0 1 0) (neighbour f ∷ [])) (replicate key_size 7) 1 (ad f) true [] (replicate ticket_size 0)

pub crowded_full : (f : Family) → Full (shape f) (crowded f)
unfolding crowded cache_of head_of joined number bytes part neighbour entry_of body_of counts_in counts keep entries chunks live
crowded_full V4 = refl
crowded_full V6 = refl

pub crowded_passes : (f : Family) → Passes (shape f) usual (crowded f)
unfolding ad crowded cache_of head_of joined number bytes part neighbour entry_of body_of entries chunks live register_rows space_rows checked_rows own_rows admission_rows cache_rows form_rows length_rows clock_rows vouched_rows held_rows refusal well_formed every never_fall zeros ad_rows same counts_in counts count keep
crowded_passes V4 = refl
crowded_passes V6 = refl

-- so it is told to wait, and gets a ticket
pub crowded_waits : (f : Family) → registered (shape f) usual (crowded f) ≡ waiting (shape f) (used_for (shape f) usual (crowded f)) (crowded f)
crowded_waits f = full_answers_wait (shape f) usual (crowded f) (sound f) (crowded_passes f) (crowded_full f)

-- ---- a first request to a fresh cache of one slot is told 1 ms

unfoldable pub asks : Family → Request
asks f = request (cache_of (shape f) (head 1 0 0 0) []) (replicate key_size 7) 0 (ad f) true [] (replicate ticket_size 0)

pub told_one : (f : Family) → (registered (shape f) usual (asks f)).answer ≡ Wait (record { 0 = 1 }) 0
unfolding ad asks registered used_for answered_by decided waiting_in register_rows space_rows checked_rows own_rows admission_rows cache_rows form_rows length_rows clock_rows vouched_rows held_rows refusal well_formed cache_of head_of joined number bytes part body_of entries chunks every never_fall zeros ad_rows same wait_in counts_in counts count keep similarity wait_of wait_from start_of share under working reached cleared moved passing_below
told_one V4 = refl
told_one V6 = refl

pub same_cache : (f : Family) → (registered (shape f) usual (asks f)).cache ≡ cache_of (shape f) (head 1 0 0 0) []
unfolding ad asks waiting_in cleared expired_among cache_of head_of joined number bytes part entries chunks keep
same_cache f = ap (λ (o : Outcome). o.cache) (wait_means (shape f) usual (asks f) (record { 0 = 1 }) 0 (told_one f)).leaves

-- a request that brings that ticket with the same ad and under the same key, in the window of its due time
module _ (f : Family) (r : Request) (same-ticket : r.ticket ≡ (registered (shape f) usual (asks f)).reply) (same_key : r.key ≡ replicate key_size 7) (same-ad : r.ad ≡ ad f)
    (due : 1 ≤ r.clock) (before : r.clock ≤ 1001) where
  in_time : refusal (return_rows usual_window r.key r.clock r.ad r.ticket) ≡ 0
  unfolding asks
  in_time =
      due_passes (shape f) usual (asks f) (record { 0 = 1 }) 0 (sound f) (told_one f) r same-ticket same_key same-ad (omega arith) usual_window (omega arith) (omega arith)

  is_return : brought r ≡ true
  is_return =
      let l = (returned usual_window r.key r.clock r.ad r.ticket in_time).accepted.size in
      rw (ne_eqb (length r.ticket) 0 (λ z. omega arith))

  stayed_since_0 : stayed r ≡ r.clock
  unfolding asks ticket_in
  stayed_since_0 =
      let e : first (ticket_body (registered (shape f) usual (asks f)).reply) ≡ 0 =
      ap (λ (t : Ticket). t.first) (ticket_reads_back (shape f) usual (asks f) (record { 0 = 1 }) 0 (sound f) (told_one f)) in
      let b : brought r ≡ true = is_return in
      rw (b, same-ticket, e) (sub-zero r.clock)

pub wait_one : (f : Family) (clock : ℕ) → wait_in (shape f) (cache_of (shape f) (head 1 0 0 0) []) clock (ad f) ≡ 1
unfolding ad cache_of head_of joined number bytes part body_of entries chunks wait_in counts_in counts count keep similarity passing_below wait_of wait_from start_of share under working reached
wait_one V4 clock = refl
wait_one V6 clock = refl

-- ---- it comes back at 1: the exact wait is 0.09 ms

unfoldable pub again : Request
again = request (registered ipv4 usual (asks V4)).cache (replicate key_size 7) 1 (ad V4) true (registered ipv4 usual (asks V4)).reply (replicate ticket_size 0)

pub again_passes : Passes ipv4 usual again
unfolding ad again checked_rows own_rows admission_rows cache_rows form_rows length_rows clock_rows vouched_rows held_rows refusal well_formed cache_of head_of joined number bytes part body_of entries chunks every never_fall zeros ad_rows same counts_in counts count keep
again_passes =
    passes_with_room ipv4 usual again refl
    (rw (same_cache V4, is_return V4 again refl refl refl (omega arith) (omega arith)) (in_time V4 again refl refl refl (omega arith) (omega arith)))

pub again_confirmed : registered ipv4 usual again ≡ confirmed ipv4 again
unfolding again
again_confirmed =
    let t : stayed again ≡ 1 = stayed_since_0 V4 again refl refl refl (omega arith) (omega arith) in
    let w : wait_for ipv4 again ≡ 1 = rw (same_cache V4) (wait_one V4 1) in
    passes_decided ipv4 usual again again_passes ∙ over_confirms ipv4 (used_for ipv4 usual again) again (omega (arith, used_plain ipv4 usual again zero-le, w, t))

-- and GET_ADS of its service at 1 has it first
again_alone : wanted_in ipv4 1 (service (ad_body (ad V4))) (entries ipv4 again.cache) ≡ 0
unfolding again cache_of head_of joined number bytes part entries chunks keep
again_alone = rw (same_cache V4)

pub again_listed : ListsAt ipv4 (registered ipv4 usual again).cache 1 (service (ad_body (ad V4))) (replicate (buffer_size ipv4) 0) 0 (ad V4)
unfolding again confirmed_in
again_listed =
    rw again_alone at
    (confirmed_listed ipv4 usual again ipv4_sound (rw again_confirmed) (replicate (buffer_size ipv4) 0) refl (rw again_alone (omega arith)))

-- ---- it comes back at 2, which is past the exact wait + 1 + 11/8192 ms: what `not_late` asks is met, and it is confirmed

unfoldable pub past : Family → Request
past f = request (registered (shape f) usual (asks f)).cache (replicate key_size 7) 2 (ad f) true (registered (shape f) usual (asks f)).reply (replicate ticket_size 0)

pub past_stayed : (f : Family) → stayed (past f) ≡ 2
unfolding past
past_stayed f = stayed_since_0 f (past f) refl refl refl (omega arith) (omega arith)

past_brings : (f : Family) → brought (past f) ≡ true
unfolding past
past_brings f = is_return f (past f) refl refl refl (omega arith) (omega arith)

pub past_passes : (f : Family) → Passes (shape f) usual (past f)
unfolding ad past checked_rows own_rows admission_rows cache_rows form_rows length_rows clock_rows vouched_rows held_rows refusal well_formed cache_of head_of joined number bytes part body_of entries chunks every never_fall zeros ad_rows same counts_in counts count keep
past_passes V4 = passes_with_room (shape V4) usual (past V4) refl (rw (same_cache V4, past_brings V4) (in_time V4 (past V4) refl refl refl (omega arith) (omega arith)))
past_passes V6 = passes_with_room (shape V6) usual (past V6) refl (rw (same_cache V6, past_brings V6) (in_time V6 (past V6) refl refl refl (omega arith) (omega arith)))

past_free : (f : Family) → NotFull (shape f) (past f)
unfolding ad past cache_of head_of joined number bytes part body_of entries chunks counts_in counts count keep
past_free V4 = rw (same_cache V4) (omega arith)
past_free V6 = rw (same_cache V6) (omega arith)

pub past_returns : (f : Family) → Returning (shape f) usual (past f)
past_returns f = record { passes = past_passes f; brings = past_brings f; free = past_free f }

pub past_is_past : (f : Family) → PastFor (shape f) (past f) (stayed (past f))
unfolding ad past cache_of head_of joined number bytes part body_of entries chunks counts_in counts count keep similarity passing_below stayed_past past_top past_under exact_top exact_under share under
past_is_past V4 = rw (past_stayed V4, same_cache V4) (omega arith)
past_is_past V6 = rw (past_stayed V6, same_cache V6) (omega arith)

pub past_confirmed : (f : Family) → registered (shape f) usual (past f) ≡ confirmed (shape f) (past f)
unfolding past
past_confirmed f =
    let w : wait_for (shape f) (past f) ≡ 1 = rw (same_cache f) (wait_one f 2) in
    passes_decided (shape f) usual (past f) (past_passes f) ∙ over_confirms (shape f) (used_for (shape f) usual (past f)) (past f) (omega (arith, used_plain (shape f) usual (past f) zero-le, w, past_stayed f))

-- ---- it comes back at 1 to a cache of two slots in which a neighbour is held: the wait on its ticket is over, and the exact wait is more than fifteen
-- minutes. What `not_early` asks is met, and it is told to wait on, where a program that goes by the ticket's wait would let it in

unfoldable pub early : Family → Request
early f =
    request (cache_of (shape f) (head 2 0 1 0) (neighbour f ∷ [])) (replicate key_size 7) 1 (ad f) true (registered (shape f) usual (asks f)).reply (replicate ticket_size 0)

early_stayed : (f : Family) → stayed (early f) ≡ 1
unfolding early
early_stayed f = stayed_since_0 f (early f) refl refl refl (omega arith) (omega arith)

early_brings : (f : Family) → brought (early f) ≡ true
unfolding early
early_brings f = is_return f (early f) refl refl refl (omega arith) (omega arith)

pub early_passes : (f : Family) → Passes (shape f) usual (early f)
unfolding ad early neighbour entry_of live checked_rows own_rows admission_rows cache_rows form_rows length_rows clock_rows vouched_rows held_rows refusal well_formed cache_of head_of joined number bytes part body_of entries chunks every never_fall zeros ad_rows same counts_in counts count keep
early_passes V4 = passes_with_room (shape V4) usual (early V4) refl (rw (early_brings V4) (in_time V4 (early V4) refl refl refl (omega arith) (omega arith)))
early_passes V6 = passes_with_room (shape V6) usual (early V6) refl (rw (early_brings V6) (in_time V6 (early V6) refl refl refl (omega arith) (omega arith)))

-- of 32 bits 30 are shared, and of 128 all but two
abbrev early_points : Family → ℕ
early_points V4 = 30
early_points V6 = 126

early_counts : (f : Family) → counts_for (shape f) (early f) ≡ record { live = 1; service = 1; held = 0; similarity = early_points f }
unfolding ad early neighbour cache_of head_of joined number bytes part entry_of body_of entries chunks live same counts_in counts count keep similarity passing_below shares
early_counts V4 = refl
early_counts V6 = refl

early_capacity : (f : Family) → capacity_of (early f).cache ≡ 2
unfolding early neighbour cache_of head_of joined number bytes part entry_of body_of
early_capacity V4 = refl
early_capacity V6 = refl

early_free : (f : Family) → NotFull (shape f) (early f)
early_free f = rw (early_counts f, early_capacity f) (omega arith)

pub early_returns : (f : Family) → Returning (shape f) usual (early f)
early_returns f = record { passes = early_passes f; brings = early_brings f; free = early_free f }

pub early_is_early : (f : Family) → ExactFor (shape f) (early f) (stayed (early f)) → ⊥
unfolding stayed_exact exact_top exact_under share under
early_is_early V4 h = let k = rw (early_counts V4, early_capacity V4, early_stayed V4) at h in omega arith
early_is_early V6 h = let k = rw (early_counts V6, early_capacity V6, early_stayed V6) at h in omega arith

abbrev early_millis : Family → ℕ
early_millis V4 = 1324800093
early_millis V6 = 1368000093

early_wait : (f : Family) → wait_for (shape f) (early f) ≡ early_millis f
unfolding wait_in wait_of wait_from start_of share under working reached
early_wait V4 = rw (early_counts V4, early_capacity V4)
early_wait V6 = rw (early_counts V6, early_capacity V6)

long_wait : (f : Family) → 900001 ≤ wait_for (shape f) (early f)
long_wait V4 = omega (arith, early_wait V4)
long_wait V6 = omega (arith, early_wait V6)

pub early_waits : (f : Family) → registered (shape f) usual (early f) ≡ waiting (shape f) (wait_for (shape f) (early f)) (early f)
early_waits f =
    let w = used_plain (shape f) usual (early f) zero-le in
    passes_decided (shape f) usual (early f) (early_passes f)
    ∙ rw w (short_waits (shape f) (wait_for (shape f) (early f)) (early f) (omega (arith, long_wait f, early_stayed f)))

-- fifteen minutes, as every longer wait is told
pub early_told : (f : Family) → answered_wait (registered (shape f) usual (early f)).answer ≡ 900000
unfolding waiting_in
early_told f = ap (λ (o : Outcome). answered_wait o.answer) (early_waits f) ∙ omega (arith, long_wait f, early_stayed f)

-- ---- a first request at 900,000 to a cache with an entry that expires just then, and two that stay: two entries move

unfoldable pub carrying : Request
carrying =
    request (cache_of ipv4 (head 3 6 3 0) (entry_at 0 (10 ∷ 0 ∷ 0 ∷ 1 ∷ []) ∷ entry_at 5 (10 ∷ 0 ∷ 0 ∷ 1 ∷ []) ∷ entry_at 6 (10 ∷ 0 ∷ 0 ∷ 1 ∷ []) ∷ []))
    (replicate key_size 7) 900000 (ad V4) true [] (replicate ticket_size 0)

pub carrying_passes : Passes ipv4 usual carrying
unfolding ad carrying cache_of head_of joined number bytes part entry_at entry_of body_of entries chunks live register_rows space_rows checked_rows own_rows admission_rows cache_rows form_rows length_rows clock_rows vouched_rows held_rows refusal well_formed every never_fall zeros ad_rows same counts_in counts count keep
carrying_passes = refl

pub carrying_moves_two : (old : ℕ) → moves_or old (registered ipv4 usual carrying).answer ≡ 2
unfolding carrying cache_of head_of joined number bytes part entry_at entry_of body_of entries chunks live every count staying
carrying_moves_two old = (moves_told ipv4 usual carrying ipv4_sound carrying_passes old).plain
