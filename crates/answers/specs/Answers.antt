-- One step of a log (document 01, the end of "Both sides of each edge"): what a whole record is answered, as a line that shows the record's own
-- clock, and the cache that it leaves. An ask is a REGISTER without a ticket, a return one with its ticket, a list is a GET_ADS.
use Rattle.std.specs.Prelude.{cond, ℕ, ◌≡◌, List, [], eqb, length, replicate, Result, Ok, Err}
use Rattle.record.specs.Layout.{kind_of, ticket_size}
use Rattle.record.specs.Refusals.{refusal}
use Rattle.cache.specs.Cache.{ipv4, shape_of, entries}
use Rattle.checks.specs.Request.{request}
use Rattle.settings.specs.Settings.{usual_window}
use Rattle.registrar.specs.Registering.{Outcome, registered_under}
use Rattle.admission.specs.declared.Decision.{Decision}
use Rattle.admission.specs.Registered.{Registered, Refused, Confirmed, Wait, as_decided}
use Rattle.listing.specs.Listing.{buffer_size, rows, chosen, answer_of}
use Rattle.listing.specs.Listed.{Listed, Refused as NotListed, Ads}
use Rattle.answers.specs.Records.{ask_kind, return_kind, clock_in, vouched_in, ad_of_record, ticket_of_record, service_in}
use Rattle.lines.specs.Lines.{LineWritten}
use Rattle.answers.specs.Lines.{ok_line, no_line, wait_line, ads_line}

-- REGISTER's answer where a number stands for a refusal
abbrev pub as_numbered : Result Decision ℕ → Registered
as_numbered (Ok d) = as_decided d
as_numbered (Err n) = Refused n

-- the line of an answer
abbrev pub register_line : ℕ → Registered → List ℕ
register_line clock (Refused n) = no_line clock n
register_line clock (Confirmed k) = ok_line clock
register_line clock (Wait w k) = wait_line clock w.0

abbrev pub list_line : ℕ → Listed → List ℕ
list_line clock (NotListed n) = no_line clock n
list_line clock (Ads n) = ads_line clock n

-- the line, and the cache behind it
pub record Step : Type 0 where
  pub line : List ℕ
  pub cache : List ℕ

abbrev pub step : List ℕ → List ℕ → Step
step l c = record { line = l; cache = c }

-- REGISTER with what a record holds; the log prints no ticket, so the reply's buffer is a fresh one each time
unfoldable pub registering : List ℕ → List ℕ → List ℕ → List ℕ → Outcome
registering key cache r ticket =
    registered_under usual_window (request cache key (clock_in r) (ad_of_record r) (vouched_in r) ticket (replicate ticket_size 0))

unfoldable pub register_step : List ℕ → List ℕ → List ℕ → List ℕ → Step
register_step key cache r ticket =
    step (register_line (clock_in r) (registering key cache r ticket).answer) (registering key cache r ticket).cache

-- GET_ADS for a service at a clock, into a list buffer of IPv4's
unfoldable pub listing : List ℕ → ℕ → List ℕ → Listed
listing cache clock service =
    let sh = shape_of cache in answer_of (refusal (rows sh cache clock service (buffer_size ipv4))) (length (chosen sh.kinds clock service (entries sh cache)))

unfoldable pub list_step : List ℕ → List ℕ → Step
list_step cache r = step (list_line (clock_in r) (listing cache (clock_in r) (service_in r))) cache

-- a record of kind 5, 9 or 7
unfoldable pub step_of : List ℕ → List ℕ → List ℕ → Step
step_of key cache r =
    cond (eqb (kind_of r) ask_kind) (register_step key cache r [])
    (cond (eqb (kind_of r) return_kind) (register_step key cache r (ticket_of_record r)) (list_step cache r))

-- what answering leaves: the step's line in the output from place `to`, the place behind it, and the step's cache
pub record Answering (s : Step) (cache' out : List ℕ) (to r : ℕ) (out' : List ℕ) : Type 0 where
  pub wrote : LineWritten s.line out to r out'
  pub caches : cache' ≡ s.cache
