-- Calls that there are, so that what is promised is not promised of none: a first request with a bound in force, with none and with one past its time, one that is refused
-- by 18 and one by 19, and a return that is confirmed before its until and one that is not. The requests are registrar's (its Examples): the cache has one slot and is
-- empty, the recipe tells 1 ms. Each in a cache of either family.
use mathlib.Core.Path.{◌≡◌, refl, ◌∙◌}
use mathlib.Core.Bool.{true, false}
use mathlib.Core.List.{List, [], ◌∷◌, ◌++◌}
use Prim.Native.Nat.{ℕ}
use native.Mathlib.Omega.{arith}
use lib.ListN.{replicate}
use Rattle.octets.specs.Numbers.{number, bytes}
use Rattle.octets.specs.Runs.{part, same, zeros}
use Rattle.octets.specs.Counting.{passing_below}
use Rattle.times.specs.declared.Millis.{Millis}
use Rattle.record.specs.Layout.{identifier_size, bound_size}
use Rattle.record.specs.Refusals.{refusal}
use Rattle.record.specs.Ads.{ad_rows, body_of}
use Rattle.cache.specs.declared.Family.{Family}
use Rattle.cache.specs.declared.Family.TheVariants.{V4, V6}
use Rattle.cache.specs.Chunks.{chunks, joined, keep, count, first_of, every}
use Rattle.cache.specs.Cache.{small, shape_of, head_of, entries, cache_of, never_fall, well_formed}
use Rattle.cache.specs.Rows.{cache_rows, clock_rows}
use Rattle.cache.specs.Expiry.{cleared}
use Rattle.upkeep.specs.Moves.{moved}
use Rattle.load.specs.Counts.{counts, counts_in, similarity}
use Rattle.wait.specs.Wait.{share, under, start_of, working, reached, wait_from, wait_of}
use Rattle.bounds.specs.Bounds.{bound_of, in_use, bounds_in, among, each_once, well_bounded}
use Rattle.entering.specs.Entering.{pair_in, until_in, written, bounds_of, entered, crowded}
use Rattle.checks.specs.Request.{small_terms}
use Rattle.checks.specs.Rows.{form_rows, length_rows, vouched_rows, held_rows, own_rows, admission_rows, checked_rows}
use Rattle.admission.specs.Registered.{Registered}
use Rattle.admission.specs.Admission.{wait_in}
use Rattle.admission.specs.Deciding.{refusal_of, IsConfirmed, answered_wait, used_for, space_rows, register_rows, waiting_in, decided, answered_by}
use Rattle.admission.proofs.Deciding.{passes_checks, passes_with_room}
use Rattle.registrar.specs.Registering.{registered}
use Rattle.registrar.specs.Promises.{Passes, words}
use Rattle.registrar.proofs.Consequences.{wait_means, refused_exactly_when}
use Rattle.registrar.proofs.Floors.{until_told}
use Rattle.registrar.proofs.Examples.{usual, shape, sound, address_in, ad, asks, told_one, past, past_stayed, past_passes, past_returns, past_is_past}
use Rattle.bounded.specs.Bounded.{terms_for, registered_bounded, bounds_after, bounds_left}
use Rattle.bounded.proofs.Answers.{checked_alike}
use Rattle.bounded.proofs.Consequences.{promised_within, not_before_bound, due_confirmed, kept_loses_nothing}
use Rattle.bounded.proofs.Small.{SameBounded, small_bounded_same}

-- a bound of the ad's pair, of another address, and a free place
abbrev own : Family → ℕ → List ℕ
own f u = bound_of (replicate identifier_size 0 ++ address_in f 2) u

abbrev other : Family → ℕ → List ℕ
other f u = bound_of (replicate identifier_size 0 ++ address_in f 3) u

abbrev free : Family → List ℕ
free f = replicate (bound_size (shape f).address) 0

-- ---- first requests, at 0

-- what a call tells: a refusal's number or 0, WAIT's number or 0, and the bounds as it leaves them
record Told : Type 0 where
  number : ℕ
  wait : ℕ
  left : List ℕ

abbrev tells : Family → List ℕ → Told
tells f b =
    let a = (registered_bounded (shape f) usual b (asks f)).answer in
    record { number = refusal_of a; wait = answered_wait a; left = bounds_left (shape f) usual b (asks f) }

abbrev waits : ℕ → List ℕ → Told
waits m b = record { number = 0; wait = m; left = b }

abbrev refuses : ℕ → List ℕ → Told
refuses n b = record { number = n; wait = 0; left = b }

told : (f : Family) →
    -- until − now is longer than what the recipe tells
    (tells f (own f 5)
    ∷ tells f (other f 5 ++ own f 7)
    -- the pair has no bound, or one that is past its time
    ∷ tells f (free f)
    ∷ tells f (other f 5 ++ free f)
    ∷ tells f (own f 0)
    ∷ tells f (other f 0)
    -- 18: no place, a length that is not of whole places, a pair twice
    ∷ tells f []
    ∷ tells f (0 ∷ free f)
    ∷ tells f (own f 5 ++ own f 7)
    -- 19: every place has another's bound in force
    ∷ tells f (other f 5)
    ∷ [])
    ≡ (waits 5 (own f 5)
    ∷ waits 7 (other f 5 ++ own f 7)
    ∷ waits 1 (own f 1)
    ∷ waits 1 (other f 5 ++ own f 1)
    ∷ waits 1 (own f 1)
    ∷ waits 1 (own f 1)
    ∷ refuses 18 []
    ∷ refuses 18 (0 ∷ free f)
    ∷ refuses 18 (own f 5 ++ own f 7)
    ∷ refuses 19 (other f 5)
    ∷ [])
unfolding ad asks terms_for registered used_for answered_by decided waiting_in register_rows space_rows checked_rows own_rows admission_rows cache_rows form_rows length_rows clock_rows vouched_rows held_rows refusal well_formed cache_of head_of joined number bytes part body_of entries chunks every never_fall zeros ad_rows same wait_in counts_in counts count keep similarity wait_of wait_from start_of share under working reached cleared moved passing_below well_bounded each_once among bounds_in in_use first_of until_in crowded pair_in bound_of bounds_after entered bounds_of written
told V4 = refl
told V6 = refl

-- its stamp is of just now: under the profile, which serves that cache, it gets the same
fresh : (f : Family) → refusal_of (registered_bounded (small (shape_of (asks f).cache)) small_terms (own f 5) (asks f)).answer ≡ 0
unfolding ad asks terms_for registered used_for answered_by decided waiting_in register_rows space_rows checked_rows own_rows admission_rows cache_rows form_rows length_rows clock_rows vouched_rows held_rows refusal well_formed shape_of cache_of head_of joined number bytes part body_of entries chunks every never_fall zeros ad_rows same wait_in counts_in counts count keep similarity wait_of wait_from start_of share under working reached cleared moved passing_below well_bounded each_once among bounds_in in_use first_of until_in crowded pair_in bound_of
fresh V4 = refl
fresh V6 = refl

as_the_full : (f : Family) → SameBounded (own f 5) (asks f)
unfolding asks cache_of head_of joined number bytes part
as_the_full V4 = small_bounded_same (own V4 5) (asks V4) (λ well. omega arith) (λ e. omega (arith, e, fresh V4))
as_the_full V6 = small_bounded_same (own V6 5) (asks V6) (λ well. omega arith) (λ e. omega (arith, e, fresh V6))

-- ---- a return at 2, of one who first asked at 0 and was told 1 ms

-- it passes every check with bounds in which there is room for its pair's
passes : (f : Family) (b : List ℕ) → well_bounded (shape f).address b ≡ true → crowded (shape f).address 2 (pair_in (shape f).address (ad f)) b ≡ false
    → Passes (shape f) (terms_for (shape f) usual b (past f)) (past f)
unfolding past terms_for
passes f b formed room =
    let t = terms_for (shape f) usual b (past f) in
    passes_with_room (shape f) t (past f) (rw room) (checked_alike (shape f) t usual (past f) refl refl formed ∙ passes_checks (shape f) usual (past f) (past_passes f))

-- the pair's own bound: it is of the form, there is room for another, and its until is told
record Alone (f : Family) (u : ℕ) : Type 0 where
  formed : well_bounded (shape f).address (own f u) ≡ true
  room : crowded (shape f).address 2 (pair_in (shape f).address (ad f)) (own f u) ≡ false
  until_is : until_in (shape f).address (pair_in (shape f).address (ad f)) (bounds_in (shape f).address (own f u)) ≡ u

alone : (f : Family) → Alone f 1 × Alone f 4 × Alone f 5
unfolding ad well_bounded each_once among every zeros bounds_in in_use chunks first_of number bytes part same crowded keep until_in pair_in bound_of body_of
alone V4 = (record { formed = refl; room = refl; until_is = refl }, record { formed = refl; room = refl; until_is = refl }, record { formed = refl; room = refl; until_is = refl })
alone V6 = (record { formed = refl; room = refl; until_is = refl }, record { formed = refl; room = refl; until_is = refl }, record { formed = refl; room = refl; until_is = refl })

-- with a bound until 4 it is confirmed: until − now is 2, and so long it stayed
confirmed_before_until : (f : Family) → IsConfirmed (registered_bounded (shape f) usual (own f 4) (past f)).answer
unfolding past
confirmed_before_until f =
    let r = past_returns f in
    let b = (alone f).1 in
    due_confirmed Registered (λ a. a) words (shape f) usual (own f 4) (past f) _ _ _ _ (promised_within (shape f) usual (own f 4) (past f) (sound f))
    (record { passes = passes f (own f 4) b.formed b.room; brings = r.brings; free = r.free }) (past_is_past f) (omega (arith, past_stayed f, b.until_is))

-- with one until 5 it is not
not_before_until : (f : Family) → IsConfirmed (registered_bounded (shape f) usual (own f 5) (past f)).answer → ⊥
unfolding past
not_before_until f is =
    not_before_bound Registered (λ a. a) words (shape f) usual (own f 5) (past f) _ _ _ _ (promised_within (shape f) usual (own f 5) (past f) (sound f))
    (omega (arith, past_stayed f, (alone f).2.until_is)) is

-- with the bound that its own ticket left, until 1, it gets REGISTER's answer, cache and reply
keeps_its_ticket : (f : Family) → registered_bounded (shape f) usual (own f 1) (past f) ≡ registered (shape f) usual (past f)
unfolding asks past
keeps_its_ticket f =
    let t = terms_for (shape f) usual (own f 1) (past f) in
    let b = (alone f).0 in
    let none = refused_exactly_when (shape f) t (past f) ∙ passes f (own f 1) b.formed b.room in
    let m : Millis = record { 0 = 1 } in
    let held = until_told (shape f) usual (asks f) m 0 (sound f) (told_one f) in
    let short = (wait_means (shape f) usual (asks f) m 0 (told_one f)).short in
    kept_loses_nothing (shape f) usual (own f 1) (past f) (past_returns f).brings (omega (arith, held, short, b.until_is)) (λ z. omega arith) (λ z. omega arith)
