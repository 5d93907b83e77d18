-- REGISTER's table of refusals, which ends behind the wait, and its answer, the cache and the reply's buffer (document 01, "REGISTER, step by step"), over a wait:
-- by which number and which wait a call is answered is said where it is defined.
use Rattle.std.specs.Prelude.{ℕ, zero, suc, ◌-◌, ◌<◌, max, ◌≡◌, Bool, true, false, not, cond, List, [], ◌∷◌, ◌++◌}
use Rattle.octets.specs.Runs.{both}
use Rattle.times.specs.Times.{is_over, remainder}
use Rattle.record.specs.Layout.{ticket_body, first}
use Rattle.record.specs.Refusals.{Row, row}
use Rattle.ticket.specs.Tickets.{ad_hash, ticket_fields, ticket_of}
use Rattle.cache.specs.declared.Shape.{Shape}
use Rattle.cache.specs.Cache.{capacity_of}
use Rattle.cache.specs.Expiry.{cleared}
use Rattle.upkeep.specs.Moves.{moved}
use Rattle.load.specs.declared.Counts.{Counts}
use Rattle.load.specs.Counts.{counts_in}
use Rattle.wait.specs.Exact.{stayed_exact, stayed_past, below_past, stayed_longer}
use Rattle.checks.specs.declared.Terms.{Terms}
use Rattle.checks.specs.Request.{Request, brought, first_asked}
use Rattle.checks.specs.Rows.{checked_rows}
use Rattle.admission.specs.Admission.{bits, wait_in, holding}
use Rattle.admission.specs.Registered.{Registered, Refused, Confirmed, Wait}

-- ---- an answer in the documents' words: the refusal's number, 0 for none; whether it is CONFIRMED; WAIT's number, 0 for none; how many entries moved,
-- beside what a refusal, which reports nothing, leaves there

abbrev pub refusal_of : Registered → ℕ
refusal_of (Refused n) = n
refusal_of (Confirmed k) = 0
refusal_of (Wait m k) = 0

abbrev pub is_confirmed : Registered → Bool
is_confirmed (Refused n) = false
is_confirmed (Confirmed k) = true
is_confirmed (Wait m k) = false

abbrev pub IsConfirmed : Registered → Type 0
IsConfirmed r = is_confirmed r ≡ true

abbrev pub answered_wait : Registered → ℕ
answered_wait (Refused n) = 0
answered_wait (Confirmed k) = 0
answered_wait (Wait m k) = m.0

abbrev pub moves_or : ℕ → Registered → ℕ
moves_or old (Refused n) = old
moves_or old (Confirmed k) = k
moves_or old (Wait m k) = k

-- ---- a request's numbers

-- document 01's c, s and p, and the recipe's wait in milliseconds: over the cache as handed in, for the call's clock and ad
abbrev pub counts_for : Shape → Request → Counts
counts_for sh q = counts_in sh q.cache q.clock q.ad

abbrev pub wait_for : Shape → Request → ℕ
wait_for sh q = wait_in sh q.cache q.clock q.ad

-- the wait that is used under terms (document 02, order 12): the larger of the recipe's and their floor
unfoldable pub used_for : Shape → Terms → Request → ℕ
used_for sh t q = max (wait_for sh q) t.floor

-- document 01's stayed
abbrev pub stayed : Request → ℕ
stayed q = cond (brought q) (q.clock - first (ticket_body q.ticket)) 0

-- ---- the table of refusals, whole

-- 19: there is no room for a ticket's bound, and one would be issued, since of the wait w only s milliseconds are stayed
unfoldable pub space_rows : Bool → ℕ → ℕ → List Row
space_rows room w s = row 19 (both (not room) (not (is_over w s))) ∷ []

-- of a request under terms: what is checked, and last of all 19
unfoldable pub register_rows : Shape → Terms → Request → List Row
register_rows sh t q = checked_rows sh t q ++ space_rows t.room (used_for sh t q) (stayed q)

-- ---- a request against the exact wait

-- the cache, as handed in, is full of live entries; it is not
abbrev pub Full : Shape → Request → Type 0
Full sh q = (counts_for sh q).live ≡ capacity_of q.cache

abbrev pub NotFull : Shape → Request → Type 0
NotFull sh q = (counts_for sh q).live < capacity_of q.cache

-- t milliseconds are at least the request's exact wait; at least the exact wait + 1 + 11·f/8192; less than that; at least the exact wait, k in d parts of it, and 1
abbrev pub ExactFor : Shape → Request → ℕ → Type 0
ExactFor sh q t =
    stayed_exact (bits sh) (capacity_of q.cache) (counts_for sh q).live (counts_for sh q).service (counts_for sh q).similarity t

abbrev pub PastFor : Shape → Request → ℕ → Type 0
PastFor sh q t =
    stayed_past (bits sh) (capacity_of q.cache) (counts_for sh q).live (counts_for sh q).service (counts_for sh q).similarity t

abbrev pub BelowPastFor : Shape → Request → ℕ → Type 0
BelowPastFor sh q t =
    below_past (bits sh) (capacity_of q.cache) (counts_for sh q).live (counts_for sh q).service (counts_for sh q).similarity t

abbrev pub LongerFor : ℕ → ℕ → Shape → Request → ℕ → Type 0
LongerFor k d sh q t =
    stayed_longer k d (bits sh) (capacity_of q.cache) (counts_for sh q).live (counts_for sh q).service (counts_for sh q).similarity t

-- ---- what a call leaves: its answer, the cache and the reply's buffer

pub record Outcome : Type 0 where
  pub answer : Registered
  pub cache : List ℕ
  pub reply : List ℕ

abbrev pub outcome : Registered → List ℕ → List ℕ → Outcome
outcome a c r = record { answer = a; cache = c; reply = r }

-- CONFIRMED: the expired leave, the ad is held with accepted = now, the clock is now, and the reply's buffer is untouched. It tells how many entries moved
-- between the two caches, one newcomer taken off
unfoldable pub confirmed_in : Shape → List ℕ → ℕ → List ℕ → List ℕ → Outcome
confirmed_in sh cache clock ad reply = let left = holding sh clock ad cache in outcome (Confirmed (moved 1 cache left)) left reply

abbrev pub confirmed : Shape → Request → Outcome
confirmed sh q = confirmed_in sh q.cache q.clock q.ad q.reply

-- WAIT m: the expired leave, the clock is now, and the reply's buffer gets a ticket for this very ad, whose advertiser first asked at f. It tells how many
-- entries moved, with no newcomer
unfoldable pub waiting_in : Shape → List ℕ → List ℕ → ℕ → List ℕ → ℕ → ℕ → Outcome
waiting_in sh cache key clock ad f m =
    let left = cleared sh clock cache in
    outcome (Wait (record { 0 = m }) (moved 0 cache left)) left (ticket_of key (ticket_fields (ad_hash ad) f clock m))

-- WAIT's number: the smaller of the lifetime and what is left of the wait w
abbrev pub remaining : ℕ → Request → ℕ
remaining w q = remainder w (stayed q)

abbrev pub waiting : Shape → ℕ → Request → Outcome
waiting sh w q = waiting_in sh q.cache q.key q.clock q.ad (first_asked q) (remaining w q)

-- the answer to a call without a refusal, by the wait w
unfoldable pub decided : Shape → ℕ → Request → Outcome
decided sh w q = cond (is_over w (stayed q)) (confirmed sh q) (waiting sh w q)

-- the same from the time f of the first request, without a look at the ticket
unfoldable pub judged : Shape → ℕ → ℕ → List ℕ → List ℕ → ℕ → List ℕ → List ℕ → Outcome
judged sh w f cache key clock ad reply =
    cond (is_over w (clock - f)) (confirmed_in sh cache clock ad reply) (waiting_in sh cache key clock ad f (remainder w (clock - f)))

-- by a refusal's number too, 0 for none: a refusal leaves the cache and the buffer as they were
unfoldable pub answered_by : ℕ → Shape → ℕ → Request → Outcome
answered_by zero sh w q = decided sh w q
answered_by (suc n) sh w q = outcome (Refused (suc n)) q.cache q.reply
