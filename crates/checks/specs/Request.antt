-- What a call of REGISTER is given, and what its refusal 10 asks (document 01, "Refusal numbers, in the order of checking"; document 02, order 4, and order 14 for
-- the small-registrar profile).
use Rattle.std.specs.Prelude.{ℕ, Bool, true, false, not, cond, List, eqb, length}
use Rattle.octets.specs.Runs.{same}
use Rattle.settings.specs.Settings.{usual_window}
use Rattle.record.specs.Layout.{ticket_body, hash, first}
use Rattle.checks.specs.declared.Terms.{Terms}

-- the cache, the key, the clock, the ad, whether its signature is vouched for, the ticket (none where its length is 0), and the reply's buffer
pub record Request : Type 0 where
  pub cache : List ℕ
  pub key : List ℕ
  pub clock : ℕ
  pub ad : List ℕ
  pub vouched : Bool
  pub ticket : List ℕ
  pub reply : List ℕ

abbrev pub request : List ℕ → List ℕ → ℕ → List ℕ → Bool → List ℕ → List ℕ → Request
request cache key clock ad vouched ticket reply =
    record { cache = cache; key = key; clock = clock; ad = ad; vouched = vouched; ticket = ticket; reply = reply }

-- a ticket is brought: the call is a return, and else a first request
abbrev pub is_ticket : List ℕ → Bool
is_ticket ticket = not (eqb (length ticket) 0)

abbrev pub brought : Request → Bool
brought q = is_ticket q.ticket

-- when the advertiser first asked: now, or as the ticket says
abbrev pub first_in : ℕ → List ℕ → ℕ
first_in clock ticket = cond (is_ticket ticket) (first (ticket_body ticket)) clock

abbrev pub first_asked : Request → ℕ
first_asked q = first_in q.clock q.ticket

-- what a call goes by beside its slices and its shape that knows no lower bounds: its registration window, and whether the ad's stamp is judged. Nothing is wrong
-- with the bounds' form, no wait has a floor and no ticket lacks room
abbrev pub unbounded : ℕ → Bool → Terms
unbounded window judged = record { window = window; judged = judged; formed = true; floor = 0; room = true }

-- the same terms, but that no stamp is judged
abbrev pub unjudged : Terms → Terms
unjudged t = record { window = t.window; judged = false; formed = t.formed; floor = t.floor; room = t.room }

-- REGISTER under a window: the stamp is carried and not judged
abbrev pub terms : ℕ → Terms
terms window = unbounded window false

-- REGISTER under the small-registrar profile: the usual window is in force, and the stamp is judged
abbrev pub small_terms : Terms
small_terms = unbounded usual_window true

-- a ticket belongs to an ad of the hash h: it has that very hash
abbrev pub belongs : List ℕ → List ℕ → Bool
belongs ticket h = same (hash (ticket_body ticket)) h
