-- Calls that there are, so that what is promised of runs is not promised of none: a withdrawal that is done once, the second is refused, and the entry is not listed,
-- though the cache holds it and bars its pair; an ad that is confirmed, and found as long as it lives; a call that removes what has expired; who asks afresh with lower bounds.
use mathlib.Core.Path.{◌≡◌, refl, ◌∙◌}
use mathlib.Core.Bool.{Bool, true, false}
use mathlib.Core.List.Memᴰ
use mathlib.Core.List.{List, [], ◌∷◌, ◌++◌, Memᴰ}
use mathlib.Core.Logic.{inl, ⊎_elim}
use Prim.Native.Nat.{ℕ, ◌+◌, ◌≤◌, ◌<◌}
use native.Mathlib.Omega.{arith}
use lib.ListN.{length, replicate}
use Rattle.octets.specs.Numbers.{number, bytes}
use Rattle.octets.specs.Runs.{part, same, zeros}
use Rattle.settings.specs.Settings.{usual_window, key_size}
use Rattle.record.specs.Layout.{identifier_size, ticket_size, service, ad_body}
use Rattle.record.specs.Refusals.{refusal, replied}
use Rattle.record.specs.Ads.{body_of, ad_rows}
use Rattle.record.specs.Entries.{entry_of, with_kind}
use Rattle.cache.specs.declared.Family.TheVariants.{V4}
use Rattle.cache.specs.Chunks.{chunks, joined, keep, count, first_of, every}
use Rattle.cache.specs.Cache.{ipv4, small as small_shape, shape_of, head, count_of, clock_of, head_of, entries, cache_of, never_fall, well_formed}
use Rattle.cache.specs.Expiry.{live, expired_among, cleared}
use Rattle.cache.specs.Rows.{cache_rows, clock_rows}
use Rattle.cache.proofs.Shapes.{ipv4_sound}
use Rattle.listing.specs.Listing.{chosen}
use Rattle.octets.specs.Counting.{passing_below}
use Rattle.upkeep.specs.Moves.{moved}
use Rattle.similarity.specs.Bits.{shares}
use Rattle.load.specs.Counts.{counts, counts_in, similarity}
use Rattle.wait.specs.Wait.{share, under, start_of, working, reached, wait_from, wait_of}
use Rattle.bounds.specs.Bounds.{bound_of, in_use, bounds_in, among, each_once, well_bounded}
use Rattle.entering.specs.Entering.{pair_in, until_in, crowded, written, bounds_of, entered}
use Rattle.checks.specs.Rows.{form_rows, length_rows, vouched_rows, held_rows, own_rows, admission_rows, checked_rows}
use Rattle.checks.specs.Request.{request}
use Rattle.withdrawal.specs.Marking.{marked}
use Rattle.withdrawal.specs.Withdrawing.{Withdrawal, withdrawal, standing, pair_rows, request_rows, standing_rows, withdraw_rows, leaving, withdrawn}
use Rattle.withdrawal.proofs.Withdrawing.{requested}
use Rattle.withdrawal.proofs.Small.{small_withdraw_same}
use Rattle.withdrawal.proofs.Taken.{Taken, done_takes, Seventeen, seventeen_exactly_when}
use Rattle.admission.specs.Registered.{Registered, Wait}
use Rattle.admission.specs.Admission.{wait_in}
use Rattle.admission.specs.Deciding.{IsConfirmed, answered_wait, confirmed_in, used_for, space_rows, register_rows, waiting_in, decided, answered_by}
use Rattle.bounded.specs.Bounded.{pair_for, terms_for, used_within, is_wait, bounds_after}
use Rattle.registrar.specs.Registering.{registered}
use Rattle.registrar.specs.Edges.{entry_at}
use Rattle.registrar.proofs.After.{confirmed_holds}
use Rattle.registrar.proofs.Consequences.{refused_exactly_when}
use Rattle.registrar.proofs.Examples.{usual, ad, neighbour, asks, same_cache, again, again_confirmed, carrying, carrying_passes}
use Rattle.runs.specs.Runs.{State, state, Profile, terms_under, Call, registering, registering_bounded, after, said, refusal_in, after_all, Step, step, trace}
use Rattle.runs.specs.Issued.{Issue, issued, InOrder, Reissued}
use Rattle.runs.specs.Runs.Profile.{full, small}
use Rattle.runs.specs.Runs.Call.{register, register_bounded, get_ads, newest}
use Rattle.runs.specs.Runs.Caches.{kept_twice}
use Rattle.runs.specs.Counters.{expired_by}
use Rattle.runs.proofs.Again.{afresh_due_no_earlier, afresh_refused_early}
use Rattle.runs.proofs.Staying.{StaysListed, listed_until_expired}

-- the identifier that both the service and the peer of the entry have
abbrev zeroes : List ℕ
zeroes = replicate identifier_size 0

-- a cache of one slot, taken since the clock 0; at 1 its entry is taken back
unfoldable pub leaves : Withdrawal
leaves = withdrawal (cache_of ipv4 (head 1 0 1 0) (entry_at 0 (10 ∷ 0 ∷ 0 ∷ 1 ∷ []) ∷ [])) zeroes zeroes 1 true

pub done_once : (withdrawn ipv4 leaves).number ≡ 0
unfolding leaves withdrawn replied withdraw_rows request_rows cache_rows pair_rows clock_rows vouched_rows standing_rows standing refusal cache_of head_of joined number bytes part entry_at entry_of body_of entries chunks live well_formed every never_fall zeros same count keep
done_once = refl

left : (withdrawn ipv4 leaves).buffer ≡ cache_of ipv4 (head 1 1 1 0) (with_kind 13 (entry_at 0 (10 ∷ 0 ∷ 0 ∷ 1 ∷ [])) ∷ [])
unfolding leaves withdrawn replied withdraw_rows request_rows cache_rows pair_rows clock_rows vouched_rows standing_rows standing refusal cache_of head_of joined number bytes part entry_at entry_of body_of entries chunks live expired_among well_formed every never_fall zeros same count keep leaving marked with_kind
left = refl

-- the same again, at 2
unfoldable pub twice : Withdrawal
twice = withdrawal (cache_of ipv4 (head 1 1 1 0) (with_kind 13 (entry_at 0 (10 ∷ 0 ∷ 0 ∷ 1 ∷ [])) ∷ [])) zeroes zeroes 2 true

pub refused_twice : (withdrawn ipv4 twice).number ≡ 17
unfolding twice withdrawn replied withdraw_rows request_rows cache_rows pair_rows clock_rows vouched_rows standing_rows standing refusal cache_of head_of joined number bytes part entry_at entry_of with_kind body_of entries chunks live well_formed every never_fall zeros same count keep
refused_twice = refl

pub not_listed : length (chosen ipv4.kinds 2 zeroes (entries ipv4 twice.cache)) ≡ 0
unfolding twice chosen cache_of head_of joined number bytes part entry_at entry_of with_kind body_of entries chunks live same keep
not_listed = refl

pub still_held : count_of twice.cache ≡ 1
unfolding twice cache_of head_of joined number bytes part entry_at entry_of with_kind body_of
still_held = refl

-- the profile serves that cache, and does the same
pub withdraws_as_the_full : withdrawn (small_shape (shape_of leaves.cache)) leaves ≡ withdrawn (shape_of leaves.cache) leaves
unfolding leaves cache_of head_of joined number bytes part
withdraws_as_the_full = small_withdraw_same leaves (λ well. omega arith)

-- both pass what is asked before 17, and the first took the entry
asked : (q : Withdrawal) → refusal (request_rows ipv4 q) ≡ 0 → Seventeen ipv4 q
asked q e = seventeen_exactly_when ipv4 q (requested ipv4 q e)

pub taken_once : Taken ipv4 leaves
taken_once = done_takes ipv4 leaves ipv4_sound done_once

pub none_twice : Seventeen ipv4 twice
unfolding twice request_rows cache_rows pair_rows clock_rows vouched_rows refusal cache_of head_of joined number bytes part entry_at entry_of with_kind body_of entries chunks well_formed every never_fall zeros
none_twice = asked twice refl

-- ---- a return that is confirmed at 1, and looked for 899,999 ms later, with another listing and a search between

unfoldable pub start : State
start = state (registered ipv4 usual (asks V4)).cache []

abbrev pub looked : Call
looked = get_ads full 2 (service (ad_body (ad V4))) []

abbrev pub searched : Call
searched = newest full kept_twice 2 (service (ad_body (ad V4)))

unfoldable pub returns : Call
returns = register full usual_window (replicate key_size 7) 1 (ad V4) true (registered ipv4 usual (asks V4)).reply (replicate ticket_size 0)

of_four : shape_of (registered ipv4 usual (asks V4)).cache ≡ ipv4
unfolding shape_of cache_of head_of
of_four = rw (same_cache V4)

is_confirmed_lem : IsConfirmed (registered ipv4 usual again).answer
unfolding confirmed_in
is_confirmed_lem = rw again_confirmed

never : false ≡ true → ⊥
never f = let z : ◌≡◌ {A = ℕ} 0 1 = cc in omega arith

pub found_until_expired : StaysListed (after_all (looked ∷ searched ∷ []) (after returns start)) 900000 (ad V4)
unfolding start returns after said after_all trace again
found_until_expired =
    let now : clock_of (registered (shape_of (registered ipv4 usual (asks V4)).cache) usual again).cache ≡ 1 = rw of_four (confirmed_holds ipv4 usual again ipv4_sound is_confirmed_lem).clock_now in
    listed_until_expired (replicate key_size 7) 1 (ad V4) true (registered ipv4 usual (asks V4)).reply (replicate ticket_size 0) start full usual_window (rw of_four is_confirmed_lem) (looked ∷ searched ∷ [])
    (λ t m h. absurd (⊎_elim (λ e. never (rw e at h)) (λ n. let e : t ≡ step searched (after looked (after returns start)) = Memᴰ.eq_of_singleton n in never (rw e at h)) (Memᴰ.cases_cons m)))
    900000 (record { from = omega arith; to = omega arith }) (omega arith)

-- ---- a first request at 900,000 to a cache with an entry that expires just then, and two that stay: that one is removed, and no other

unfoldable pub clearing : Step
clearing = step (register full usual_window carrying.key carrying.clock carrying.ad true [] carrying.reply) (state carrying.cache [])

not_refused : refusal_in clearing.answer ≡ 0
unfolding clearing carrying said shape_of cache_of head_of
not_refused = refused_exactly_when ipv4 usual carrying ∙ carrying_passes

pub oldest_removed : expired_by clearing ≡ entry_at 0 (10 ∷ 0 ∷ 0 ∷ 1 ∷ []) ∷ []
unfolding clearing carrying shape_of cache_of head_of joined number bytes part entry_at entry_of body_of entries chunks live expired_among keep
oldest_removed = rw not_refused

-- ---- who asks afresh when the registrar looks emptier: of two slots one is held by a neighbour, that expires at 900,000; it asks at 899,999 and again at 900,000, then by the
-- call of the small-registrar profile. The recipe's waits are 1,324,800,093 and 1, and the second ticket tells 899,999: both are due at 1,799,999

abbrev asked_at : Profile → ℕ → Call
asked_at p clock = register_bounded p usual_window (replicate key_size 7) clock (ad V4) true [] (replicate ticket_size 0)

-- two places for bounds, and none in use
unfoldable pub crowd : State
crowd = state (cache_of ipv4 (head 2 0 1 0) (neighbour V4 ∷ [])) (replicate 90 0)

unfoldable pub thinner : State
thinner = state (cache_of ipv4 (head 2 899999 1 0) (neighbour V4 ∷ [])) (bound_of (pair_in 4 (ad V4)) 1799999 ++ replicate 45 0)

-- the answer of the call with bounds, and REGISTER's
abbrev answer_at : Profile → ℕ → State → Registered
answer_at p clock s = (registering_bounded p usual_window (replicate key_size 7) clock (ad V4) true [] (replicate ticket_size 0) s).answer

abbrev plain_at : ℕ → State → Registered
plain_at clock s = (registering full usual_window (replicate key_size 7) clock (ad V4) true [] (replicate ticket_size 0) s).answer

pub waits_first : answer_at full 899999 crowd ≡ Wait (record { 0 = 900000 }) 0
unfolding crowd ad neighbour registered used_for answered_by decided waiting_in register_rows space_rows checked_rows own_rows admission_rows cache_rows form_rows length_rows clock_rows vouched_rows held_rows refusal well_formed cache_of head_of joined number bytes part body_of entry_of entries chunks live every never_fall zeros ad_rows same wait_in counts_in counts count keep similarity shares wait_of wait_from start_of share under working reached cleared moved passing_below shape_of terms_for well_bounded bounds_in in_use first_of each_once crowded among until_in pair_in
waits_first = refl

then_left : after (asked_at full 899999) crowd ≡ thinner
unfolding crowd thinner after bounds_after bound_of entered bounds_of written expired_among ad neighbour registered used_for answered_by decided waiting_in register_rows space_rows checked_rows own_rows admission_rows cache_rows form_rows length_rows clock_rows vouched_rows held_rows refusal well_formed cache_of head_of joined number bytes part body_of entry_of entries chunks live every never_fall zeros ad_rows same wait_in counts_in counts count keep similarity shares wait_of wait_from start_of share under working reached cleared moved passing_below shape_of terms_for well_bounded bounds_in in_use first_of each_once crowded among until_in pair_in
then_left = refl

pub waits_again : answer_at small 900000 thinner ≡ Wait (record { 0 = 899999 }) 0
unfolding thinner bound_of ad neighbour registered used_for answered_by decided waiting_in register_rows space_rows checked_rows own_rows admission_rows cache_rows form_rows length_rows clock_rows vouched_rows held_rows refusal well_formed cache_of head_of joined number bytes part body_of entry_of entries chunks live every never_fall zeros ad_rows same wait_in counts_in counts count keep similarity shares wait_of wait_from start_of share under working reached cleared moved passing_below shape_of terms_for well_bounded bounds_in in_use first_of each_once crowded among until_in pair_in
waits_again = refl

-- where REGISTER, that knows no bounds, tells 1
pub plain_tells_one : answered_wait (plain_at 900000 thinner) ≡ 1
unfolding thinner ad neighbour registered used_for answered_by decided waiting_in register_rows space_rows checked_rows own_rows admission_rows cache_rows form_rows length_rows clock_rows vouched_rows held_rows refusal well_formed cache_of head_of joined number bytes part body_of entry_of entries chunks live every never_fall zeros ad_rows same wait_in counts_in counts count keep similarity shares wait_of wait_from start_of share under working reached cleared moved passing_below shape_of terms_for well_bounded bounds_in in_use first_of each_once crowded among until_in pair_in
plain_tells_one = refl

-- the tickets of both, with a listing between them
abbrev issue_at : Profile → ℕ → State → Issue
issue_at p clock s =
    let sh = shape_of s.cache in
    let q = request s.cache (replicate key_size 7) clock (ad V4) true [] (replicate ticket_size 0) in
    record {
      pair = pair_for sh q;
      clock = clock;
      used = used_within sh (terms_under p usual_window) s.bounds q;
      tells = answered_wait (answer_at p clock s);
      ticket = (registering_bounded p usual_window (replicate key_size 7) clock (ad V4) true [] (replicate ticket_size 0) s).reply;
      afresh = true;
    }

issued_at_lem : (p : Profile) (clock : ℕ) (s : State) → is_wait (answer_at p clock s) ≡ true → Memᴰ (issue_at p clock s) (issued (step (asked_at p clock) s))
unfolding said
issued_at_lem p clock s e = rw e (Memᴰ.head refl)

issued_again : Memᴰ (issue_at small 900000 thinner) (issued (step (asked_at small 900000) (after (asked_at full 899999) crowd)))
issued_again = rw then_left (issued_at_lem small 900000 thinner (rw waits_again))

abbrev asking : List Call
asking = asked_at full 899999 ∷ looked ∷ asked_at small 900000 ∷ []

pub asked_twice : Reissued (issue_at full 899999 crowd) (issue_at small 900000 thinner) (trace asking crowd)
unfolding trace InOrder after
asked_twice =
    record {
      one = step (asked_at full 899999) crowd;
      other = step (asked_at small 900000) (after looked (after (asked_at full 899999) crowd));
      ordered = inl (refl, Memᴰ.tail (Memᴰ.head refl));
      first_issued = issued_at_lem full 899999 crowd (rw waits_first);
      then_issued = issued_again;
    }

same_pair : (issue_at full 899999 crowd).pair ≡ (issue_at small 900000 thinner).pair
unfolding crowd thinner shape_of cache_of head_of
same_pair = refl

pub due_no_earlier : (issue_at full 899999 crowd).clock + (issue_at full 899999 crowd).tells ≤ (issue_at small 900000 thinner).clock + (issue_at small 900000 thinner).tells
due_no_earlier = afresh_due_no_earlier asking crowd (issue_at full 899999 crowd) (issue_at small 900000 thinner) asked_twice same_pair refl

-- so with the second ticket REGISTER refuses until 1,799,999 too, whatever its window
pub refused_until_due : (profile : Profile) (window : ℕ) (key : List ℕ) (clock : ℕ) (brought : List ℕ) (vouched : Bool) (reply : List ℕ) (kept : State) → clock < 1799999
    → 1 ≤ refusal_in (said (register profile window key clock brought vouched (issue_at small 900000 thinner).ticket reply) kept)
refused_until_due profile window key clock brought vouched reply kept early =
    let first : (issue_at full 899999 crowd).tells ≡ 900000 = rw waits_first in
    (afresh_refused_early asking crowd (issue_at full 899999 crowd) (issue_at small 900000 thinner) asked_twice same_pair refl profile window key clock brought vouched reply kept (omega arith)).0
