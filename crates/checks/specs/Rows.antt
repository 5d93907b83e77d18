-- REGISTER's refusals, as document 01's table has them: a segment of rows for each thing that is checked, and at the end the segments in the
-- table's order, which is not that of the numbers. `cache_rows` (1) and `clock_rows` (3) are the cache's, `ad_rows` (4, 13, 14) is the ad's own check and `ticket_rows` (7 to 9)
-- the ticket's. 18 is of document 02's order 12, 20 of its order 14; 19, which comes last of all, needs the wait (admission/specs/Deciding.antt).
use Rattle.std.specs.Prelude.{ℕ, ◌+◌, ◌≡◌, Bool, not, cond, List, [], ◌∷◌, ◌++◌, eqb, ltb, length, Some, None, Result, IfOk}
use Rattle.settings.specs.Settings.{key_size}
use Rattle.times.specs.Times.{is_window, in_window, is_fresh}
use Rattle.sha256.specs.Hmac.{states_of}
use Rattle.record.specs.Layout.{ad_body, stamp, ticket_size, ticket_body, issued, wait}
use Rattle.record.specs.declared.reasons.Refusal.{Refusal}
use Rattle.record.specs.Refusals.{Row, row, refusal, code}
use Rattle.record.specs.Ads.{ad_rows}
use Rattle.ticket.specs.Tickets.{ad_hash, ticket_rows}
use Rattle.cache.specs.declared.Shape.{Shape}
use Rattle.cache.specs.Rows.{cache_rows, clock_rows}
use Rattle.load.specs.declared.Counts.{Counts}
use Rattle.load.specs.Counts.{counts_in}
use Rattle.checks.specs.declared.Checked.{Checked}
use Rattle.checks.specs.declared.Terms.{Terms}
use Rattle.checks.specs.Request.{Request, is_ticket, brought, first_asked, belongs}

-- 18: the lower bounds are not of their form
unfoldable pub form_rows : Bool → List Row
form_rows formed = row 18 (not formed) ∷ []

-- 2: a length is wrong, the key's or that of the reply's buffer, or the registration window is not from 1 to the longest
unfoldable pub length_rows : ℕ → List ℕ → List ℕ → List Row
length_rows window key reply =
    row 2 (not (eqb (length key) key_size))
    ∷ row 2 (not (eqb (length reply) ticket_size))
    ∷ row 2 (not (is_window window))
    ∷ []

-- 5: the signature is not vouched for
unfoldable pub vouched_rows : Bool → List Row
vouched_rows vouched = row 5 (not vouched) ∷ []

-- 20, where stamps are judged: the ad's is after now, or has grown older than thirty days; where they are not, no row
abbrev pub stamp_rows : Bool → ℕ → ℕ → List ℕ → List Row
stamp_rows judged a clock ad = cond judged (row 20 (not (is_fresh clock (stamp a (ad_body ad)))) ∷ []) []

-- 6: so many live entries have the ad's service and peer
unfoldable pub held_rows : ℕ → List Row
held_rows held = row 6 (ltb 0 held) ∷ []

-- 11: the clock is not in the window that opens when the ticket is due
abbrev pub window_row : ℕ → ℕ → ℕ → Row
window_row window due clock = row 11 (not (in_window window due clock))

-- 10 and 11, of a ticket, for an ad of the hash h: that it belongs to this very ad; its window
unfoldable pub bound_rows : ℕ → ℕ → List ℕ → List ℕ → List Row
bound_rows window clock h ticket =
    row 10 (not (belongs ticket h))
    ∷ window_row window (issued (ticket_body ticket) + wait (ticket_body ticket)) clock
    ∷ []

-- 7 to 11, of a ticket that is brought: its own check, whose latest time is the call's clock, then those
unfoldable pub return_rows : ℕ → List ℕ → ℕ → List ℕ → List ℕ → List Row
return_rows window key clock ad ticket = ticket_rows clock key ticket ++ bound_rows window clock (ad_hash ad) ticket

-- of a request by itself, 1, 18, 2 to 4, 13, 14 and 5: of all that it is given but the ticket
unfoldable pub own_rows : Shape → Terms → List ℕ → List ℕ → ℕ → List ℕ → Bool → List ℕ → List Row
own_rows sh t cache key clock ad vouched reply =
    cache_rows sh cache
    ++ (form_rows t.formed
    ++ (length_rows t.window key reply ++ (clock_rows cache clock ++ (ad_rows sh.address sh.kinds.ad ad ++ vouched_rows vouched))))

abbrev pub request_rows : Shape → Terms → Request → List Row
request_rows sh t q = own_rows sh t q.cache q.key q.clock q.ad q.vouched q.reply

-- of what the registrar holds and handed out, 6 to 11: so many live entries of the ad's service and peer, and a ticket if one is brought
unfoldable pub admission_rows : Terms → ℕ → Request → List Row
admission_rows t held q =
    held_rows held ++ cond (is_ticket q.ticket) (return_rows t.window q.key q.clock q.ad q.ticket) []

-- those behind which the registrar looks at what it holds: of a request by itself, and 20 of its ad's stamp where that is judged
abbrev pub early_rows : Shape → Terms → Request → List Row
early_rows sh t q = request_rows sh t q ++ stamp_rows t.judged sh.address q.clock q.ad

-- of a request under terms, all that is asked before its wait is known: 1 to 5, 20, and 6 to 11
unfoldable pub checked_rows : Shape → Terms → Request → List Row
checked_rows sh t q = early_rows sh t q ++ admission_rows t (counts_in sh q.cache q.clock q.ad).held q

-- what a call that passes is answered from: what was counted, the time of the first request, the hash, and the states of the key if a ticket was brought
pub record Passed (found : Counts) (first : ℕ) (hash key : List ℕ) (return : Bool) (c : Checked) : Type 0 where
  pub counted : c.found ≡ found
  pub asked : c.first ≡ first
  pub hashed : c.hash ≡ hash
  pub keyed : c.states ≡ cond return (Some (states_of key)) None

-- what the checks find: the number n of a refusal, and where there is none that
pub record Verdict (n : ℕ) (found : Counts) (first : ℕ) (hash key : List ℕ) (return : Bool) (r : Result Checked Refusal) : Type 0 where
  pub number : code r ≡ n
  pub passed : IfOk r (Passed found first hash key return)

abbrev pub CheckedAs : Shape → Terms → Request → Result Checked Refusal → Type 0
CheckedAs sh t q r =
    Verdict (refusal (checked_rows sh t q)) (counts_in sh q.cache q.clock q.ad) (first_asked q) (ad_hash q.ad) q.key (brought q) r
