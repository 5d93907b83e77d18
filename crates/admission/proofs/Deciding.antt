-- What a wait decides (specs/Deciding.antt), for every wait w: each answer and what it leaves, and demand 3's halves from how w lies to the exact wait.
use mathlib.Core.Path.{◌≡◌, refl, ◌∙◌}
use mathlib.Core.Bool.{Bool, true, false, not, cond}
use mathlib.Core.List.{List, []}
use mathlib.Core.Logic.{⊎_elim}
use Prim.Native.Nat.{ℕ, zero, suc, ◌-◌, ◌≤◌, ◌<◌, min, max}
use native.Mathlib.Omega.{arith}
use lib.Dec.{eqb, ltb}
use borrow.Author.Tests.{le-leb, lt-leb, lt-ltb, le-ltb, ne_eqb}
use Rattle.octets.specs.Runs.{both}
use native.Mathlib.Nat.{le_trans, le-max_left, le-max_right, max-le, max-eq_left, lt_of_le_of_lt, lt_of_lt_of_le, mul-le-mul_right, lt_of_mul-lt-mul_right, eq-or-lt_of_le, lt_of_not-le}
use Rattle.settings.specs.Settings.{lifetime}
use Rattle.times.specs.declared.Millis.{Millis}
use Rattle.times.specs.Times.{is_over, remainder}
use Rattle.times.proofs.Laws.{over_stayed, short_stayed}
use Rattle.record.specs.Layout.{ticket_body, first}
use Rattle.record.specs.Refusals.{refusal}
use Rattle.record.proofs.Refusals.{refused, last_passed}
use Rattle.record.proofs.Segments.{first_rows, rows_behind, none_of}
use Rattle.ticket.specs.Tickets.{ad_hash, ticket_fields, ticket_of}
use Rattle.cache.specs.declared.Shape.{Shape}
use Rattle.cache.specs.Cache.{capacity_of}
use Rattle.cache.specs.Expiry.{cleared}
use Rattle.upkeep.specs.Moves.{moved}
use Rattle.load.specs.declared.Counts.{Counts}
use Rattle.load.specs.Counts.{counts_in}
use Rattle.wait.specs.Wait.{InRange, cap, wait_of}
use Rattle.wait.specs.Exact.{exact_under, past_under, stayed_exact, stayed_past, below_past}
use Rattle.wait.proofs.Laws.{full_waits_cap, wait_never_zero, wait_at_most_cap, wait_not_below_exact, wait_below_past, short_waits_less}
use Rattle.checks.specs.declared.Terms.{Terms}
use Rattle.checks.specs.Request.{Request, brought, first_asked}
use Rattle.checks.specs.Rows.{checked_rows}
use Rattle.checks.proofs.Rows.{checked_numbered}
use Rattle.admission.specs.Registered.{Refused, Confirmed, Wait}
use Rattle.admission.specs.Admission.{bits, wait_in, holding}
use Rattle.admission.specs.Deciding.{refusal_of, IsConfirmed, answered_wait, counts_for, wait_for, used_for, stayed, space_rows, register_rows, Full, NotFull, ExactFor, PastFor, BelowPastFor, outcome, confirmed_in, confirmed, waiting_in, waiting, decided, judged, answered_by}
use Rattle.admission.specs.Ready.{Ready, ReadyFor}
use Rattle.admission.proofs.Counting.{in_range}

-- ---- the time stayed

-- it is the time since the advertiser first asked
pub stayed_since : (q : Request) → q.clock - first_asked q ≡ stayed q
stayed_since q = go (brought q)
  where
    go : (b : Bool) → q.clock - cond b (first (ticket_body q.ticket)) q.clock ≡ cond b (q.clock - first (ticket_body q.ticket)) 0
    go true = refl
    go false = omega arith

pub stayed_le : (q : Request) → stayed q ≤ q.clock
stayed_le q = let e = stayed_since q in omega arith

pub first_stayed_none : (q : Request) → brought q ≡ false → stayed q ≡ 0
first_stayed_none q none = rw none

-- a full cache has the cap
pub full_waits : (sh : Shape) (q : Request) → Full sh q → wait_for sh q ≡ cap
unfolding wait_in
full_waits sh q full = full_waits_cap (bits sh) (capacity_of q.cache) (counts_for sh q).live (counts_for sh q).service (counts_for sh q).similarity full

-- ---- the answer

pub over_confirms : (sh : Shape) (w : ℕ) (q : Request) → w ≤ stayed q → decided sh w q ≡ confirmed sh q
unfolding decided
over_confirms sh w q h = go (is_over w (stayed q)) refl
  where
    go : (b : Bool) → is_over w (stayed q) ≡ b → cond b (confirmed sh q) (waiting sh w q) ≡ confirmed sh q
    go true e = refl
    go false e = absurd (omega (arith, short_stayed w (stayed q) e))

pub short_waits : (sh : Shape) (w : ℕ) (q : Request) → stayed q < w → decided sh w q ≡ waiting sh w q
unfolding decided
short_waits sh w q h = go (is_over w (stayed q)) refl
  where
    go : (b : Bool) → is_over w (stayed q) ≡ b → cond b (confirmed sh q) (waiting sh w q) ≡ waiting sh w q
    go true e = absurd (omega (arith, over_stayed w (stayed q) e))
    go false e = refl

-- a call's outcome is one of three
pub data Came (n : ℕ) (sh : Shape) (w : ℕ) (q : Request) : Type 0 where
  refuses : (m : ℕ) → n ≡ suc m → answered_by n sh w q ≡ outcome (Refused n) q.cache q.reply → Came n sh w q
  confirms : n ≡ 0 → w ≤ stayed q → answered_by n sh w q ≡ confirmed sh q → Came n sh w q
  defers : n ≡ 0 → stayed q < w → answered_by n sh w q ≡ waiting sh w q → Came n sh w q

pub came : (n : ℕ) (sh : Shape) (w : ℕ) (q : Request) → Came n sh w q
unfolding answered_by
came zero sh w q = go (is_over w (stayed q)) refl
  where
    go : (b : Bool) → is_over w (stayed q) ≡ b → Came zero sh w q
    go true e = let h = over_stayed w (stayed q) e in confirms refl h (over_confirms sh w q h)
    go false e = let h = short_stayed w (stayed q) e in defers refl h (short_waits sh w q h)
came (suc n) sh w q = refuses n refl refl

-- CONFIRMED is answered exactly where there is no refusal and the wait is stayed
pub record Admitted (n : ℕ) (sh : Shape) (w : ℕ) (q : Request) : Type 0 where
  pub passes : n ≡ 0
  pub over : w ≤ stayed q
  pub leaves : answered_by n sh w q ≡ confirmed sh q

pub confirmed_means : (n : ℕ) (sh : Shape) (w : ℕ) (q : Request) → IsConfirmed (answered_by n sh w q).answer → Admitted n sh w q
unfolding confirmed_in waiting_in
confirmed_means n sh w q is = go (came n sh w q)
  where
    go : Came n sh w q → Admitted n sh w q
    go (refuses m e l) = let f : false ≡ true = rw l at is in let z : ◌≡◌ {A = ℕ} 0 1 = cc in absurd (omega arith)
    go (confirms e o l) = record { passes = e; over = o; leaves = l }
    go (defers e o l) = let f : false ≡ true = rw l at is in let z : ◌≡◌ {A = ℕ} 0 1 = cc in absurd (omega arith)

pub confirmed_where : (n : ℕ) (sh : Shape) (w : ℕ) (q : Request) → n ≡ 0 → w ≤ stayed q → IsConfirmed (answered_by n sh w q).answer
unfolding confirmed_in
confirmed_where n sh w q none over = go (came n sh w q)
  where
    go : Came n sh w q → IsConfirmed (answered_by n sh w q).answer
    go (refuses m e l) = absurd (omega arith)
    go (confirms e o l) = rw l
    go (defers e o l) = absurd (omega arith)

-- the numbers that are told: the refusal's; and WAIT's, what is left of the wait, where there is no refusal and it is not stayed
pub told_refusal : (n : ℕ) (sh : Shape) (w : ℕ) (q : Request) → refusal_of (answered_by n sh w q).answer ≡ n
unfolding confirmed_in waiting_in
told_refusal n sh w q = go (came n sh w q)
  where
    go : Came n sh w q → refusal_of (answered_by n sh w q).answer ≡ n
    go (refuses m e l) = rw l
    go (confirms e o l) = rw (l, e)
    go (defers e o l) = rw (l, e)

pub told_wait : (n : ℕ) (sh : Shape) (w : ℕ) (q : Request)
    → answered_wait (answered_by n sh w q).answer ≡ cond (both (eqb n 0) (ltb (stayed q) w)) (min lifetime (w - stayed q)) 0
unfolding confirmed_in waiting_in
told_wait n sh w q = go (came n sh w q)
  where
    go : Came n sh w q → answered_wait (answered_by n sh w q).answer ≡ cond (both (eqb n 0) (ltb (stayed q) w)) (min lifetime (w - stayed q)) 0
    go (refuses m e l) = rw (l, ne_eqb n 0 (λ z. omega arith))
    go (confirms e o l) = rw (l, e, le-ltb (stayed q) w o)
    go (defers e o l) = rw (l, e, lt-ltb (stayed q) w o)

-- ---- demand 3, over a wait

module _ (n : ℕ) (sh : Shape) (w : ℕ) (q : Request) where
  -- below the cap w is not below the exact wait: who is confirmed has stayed the exact wait
  pub confirmed_stayed_exact : (w < cap → ExactFor sh q w) → stayed q < cap → IsConfirmed (answered_by n sh w q).answer → ExactFor sh q (stayed q)
  unfolding stayed_exact
  confirmed_stayed_exact bound less is =
      let over = (confirmed_means n sh w q is).over in
      le_trans (bound (lt_of_le_of_lt over less)) (mul-le-mul_right (exact_under (bits sh) (capacity_of q.cache) (counts_for sh q).live) over)

  -- v is below the exact wait + 1 + 11·f/8192, and w is stayed where v is: who has stayed that long is confirmed
  pub past_confirmed : (v : ℕ) → n ≡ 0 → BelowPastFor sh q v → (v ≤ stayed q → w ≤ stayed q) → PastFor sh q (stayed q) → IsConfirmed (answered_by n sh w q).answer
  unfolding stayed_past below_past
  past_confirmed v none below with_it past =
      let less : v < stayed q = lt_of_mul-lt-mul_right (past_under (bits sh) (capacity_of q.cache) (counts_for sh q).live) (lt_of_lt_of_le below past) in
      confirmed_where n sh w q none (with_it (omega arith))

  -- w is not 0: a first request is not confirmed
  pub first_not_confirmed : 1 ≤ w → brought q ≡ false → IsConfirmed (answered_by n sh w q).answer → ⊥
  first_not_confirmed some none is = omega (arith, (confirmed_means n sh w q is).over, first_stayed_none q none)

  -- w is the cap or more: nobody is
  pub cap_confirms_none : cap ≤ w → stayed q < cap → IsConfirmed (answered_by n sh w q).answer → ⊥
  cap_confirms_none most less is = omega (arith, (confirmed_means n sh w q is).over)

-- ---- how the recipe's wait lies, and every wait that is not below it

module _ (sh : Shape) (q : Request) (ready : ReadyFor sh q) where
  range : InRange (bits sh) (capacity_of q.cache) (counts_for sh q).live (counts_for sh q).service (counts_for sh q).similarity
  range = in_range sh q.cache q.clock q.ad ready.sound ready.well

  pub stayed_below_cap : stayed q < cap
  stayed_below_cap = omega (arith, stayed_le q, ready.early)

  pub recipe_exact : (w : ℕ) → wait_for sh q ≤ w → w < cap → ExactFor sh q w
  unfolding wait_in stayed_exact
  recipe_exact w h less =
      let g = range in
      le_trans
      (wait_not_below_exact (bits sh) (capacity_of q.cache) (counts_for sh q).live (counts_for sh q).service (counts_for sh q).similarity g.some_bits
      g.some_capacity g.occupied (lt_of_le_of_lt h less))
      (mul-le-mul_right (exact_under (bits sh) (capacity_of q.cache) (counts_for sh q).live) h)

  cap_below_past : NotFull sh q → wait_for sh q ≡ cap → BelowPastFor sh q (wait_for sh q)
  unfolding wait_in stayed_past below_past
  cap_below_past free e =
      lt_of_not-le
      (λ past. omega (
        arith,
        e,
        short_waits_less (bits sh) (capacity_of q.cache) (counts_for sh q).live (counts_for sh q).service (counts_for sh q).similarity
            range.some_bits free (rw e at past),
      ))

  pub recipe_below_past : NotFull sh q → BelowPastFor sh q (wait_for sh q)
  unfolding wait_in
  recipe_below_past free =
      let g = range in
      ⊎_elim (cap_below_past free)
      (wait_below_past (bits sh) (capacity_of q.cache) (counts_for sh q).live (counts_for sh q).service (counts_for sh q).similarity g.some_bits
      g.some_capacity g.occupied)
      (eq-or-lt_of_le
      (wait_at_most_cap (bits sh) (capacity_of q.cache) (counts_for sh q).live (counts_for sh q).service (counts_for sh q).similarity g.some_bits
      g.some_capacity g.occupied))

  pub recipe_some : 1 ≤ wait_for sh q
  unfolding wait_in
  recipe_some =
      let g = range in
      wait_never_zero (bits sh) (capacity_of q.cache) (counts_for sh q).live (counts_for sh q).service (counts_for sh q).similarity g.some_bits
      g.some_capacity g.occupied

-- who has stayed it since a time on the clock finds a free slot
pub over_not_full : {sh : Shape} {cache : List ℕ} {clock : ℕ} {ad reply : List ℕ} → Ready sh cache clock ad reply
    → (w t : ℕ) → wait_in sh cache clock ad ≤ w → w ≤ t → t ≤ clock → (counts_in sh cache clock ad).live < capacity_of cache
unfolding wait_in
over_not_full {sh} {cache} {clock} {ad} ready w t h over past =
    let k = counts_in sh cache clock ad in
    ⊎_elim (λ e. omega (arith, ready.early, full_waits_cap (bits sh) (capacity_of cache) k.live k.service k.similarity e)) (λ less. less)
    (eq-or-lt_of_le (in_range sh cache clock ad ready.sound ready.well).occupied)

-- ---- how the wait that is used lies to the recipe's

module _ (sh : Shape) (t : Terms) (q : Request) where
  -- it is not below it, and not below the floor
  pub used_recipe : wait_for sh q ≤ used_for sh t q
  unfolding used_for
  used_recipe = le-max_left _ _

  pub used_floor : t.floor ≤ used_for sh t q
  unfolding used_for
  used_floor = le-max_right _ _

  -- who has stayed both has stayed it
  pub used_stayed : t.floor ≤ stayed q → wait_for sh q ≤ stayed q → used_for sh t q ≤ stayed q
  unfolding used_for
  used_stayed low h = max-le h low

  -- a floor that is not above the recipe's changes nothing
  pub used_plain : t.floor ≤ wait_for sh q → used_for sh t q ≡ wait_for sh q
  unfolding used_for
  used_plain low = max-eq_left low

-- ---- the table, whole

module _ (sh : Shape) (t : Terms) (q : Request) where
  -- where a check refuses, 19 is not asked
  pub checks_first : (refusal (checked_rows sh t q) ≡ 0 → ⊥) → refusal (register_rows sh t q) ≡ refusal (checked_rows sh t q)
  unfolding register_rows
  checks_first some = first_rows (checked_rows sh t q) _ some

  -- where none does, it alone is left
  pub space_last : refusal (checked_rows sh t q) ≡ 0 → refusal (register_rows sh t q) ≡ refusal (space_rows t.room (used_for sh t q) (stayed q))
  unfolding register_rows
  space_last none = rows_behind (checked_rows sh t q) _ (checked_numbered sh t q) none

  -- who passes the table passes the checks
  pub passes_checks : refusal (register_rows sh t q) ≡ 0 → refusal (checked_rows sh t q) ≡ 0
  unfolding register_rows
  passes_checks none = (none_of (checked_rows sh t q) _ (checked_numbered sh t q) none).here

  -- and where there is room, who passes the checks passes
  pub passes_with_room : t.room ≡ true → refusal (checked_rows sh t q) ≡ 0 → refusal (register_rows sh t q) ≡ 0
  unfolding space_rows
  passes_with_room room none = space_last none ∙ last_passed 19 (rw room)

  -- so does who has stayed the wait, room or not, and no one else
  pub passes_when_stayed : used_for sh t q ≤ stayed q → refusal (checked_rows sh t q) ≡ 0 → refusal (register_rows sh t q) ≡ 0
  unfolding space_rows
  passes_when_stayed over none = space_last none ∙ last_passed 19 (rw (le-leb (used_for sh t q) (stayed q) over) (neither t.room))
    where
      neither : (b : Bool) → both (not b) false ≡ false
      neither true = refl
      neither false = refl

  pub refused_without_room : t.room ≡ false → stayed q < used_for sh t q → refusal (checked_rows sh t q) ≡ 0 → refusal (register_rows sh t q) ≡ 19
  unfolding space_rows
  refused_without_room full short none =
      let over : is_over (used_for sh t q) (stayed q) ≡ false = lt-leb (used_for sh t q) (stayed q) short in
      space_last none ∙ refused 19 [] (rw (over, full))

-- ---- the function that decides

-- the wait that is used is worked out from what was counted
pub waits_for : (sh : Shape) (t : Terms) (q : Request) (found : Counts) → found ≡ counts_for sh q
    → max (wait_of (bits sh) (capacity_of q.cache) found.live found.service found.similarity) t.floor ≡ used_for sh t q
unfolding used_for wait_in
waits_for sh t q found e = rw e

-- what is decided is judged by the time of the first request
pub by_first : (sh : Shape) (w : ℕ) (q : Request) → decided sh w q ≡ judged sh w (first_asked q) q.cache q.key q.clock q.ad q.reply
unfolding judged decided
by_first sh w q = rw (stayed_since q)

module _ (sh : Shape) (w f : ℕ) (cache key : List ℕ) (clock : ℕ) (ad reply : List ℕ) where
  pub answers_confirmed : (left : List ℕ) (k : ℕ) → is_over w (clock - f) ≡ true → left ≡ holding sh clock ad cache → k ≡ moved 1 cache left
      → outcome (Confirmed k) left reply ≡ judged sh w f cache key clock ad reply
  unfolding judged confirmed_in
  answers_confirmed left k over h moves = rw (over, moves, h)

  pub answers_wait : (t : Millis) (k : ℕ) (left ticket h : List ℕ) → is_over w (clock - f) ≡ false → t.0 ≡ remainder w (clock - f) → left ≡ cleared sh clock cache
      → k ≡ moved 0 cache left → h ≡ ad_hash ad → ticket ≡ ticket_of key (ticket_fields h f clock t.0)
      → outcome (Wait t k) left ticket ≡ judged sh w f cache key clock ad reply
  unfolding judged waiting_in
  answers_wait t k left ticket h short m clears moves own wrote = rw (short, moves, clears, wrote, own, ← m)
