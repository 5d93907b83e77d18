-- What the program keeps of a day in place of the trace: the key, the cache, and the ledger's tickets and tallies. `playback` has that these are the trace's (its
-- proofs/Agreeing.antt).
use Rattle.std.specs.Prelude.{ℕ, Bool, true, cond, List, [], ◌∷◌, replicate}
use Rattle.octets.specs.Runs.{both}
use Rattle.record.specs.Layout.{ad_kind, ticket_size}
use Rattle.checks.specs.Request.{request}
use Rattle.admission.specs.Deciding.{Outcome}
use Rattle.registrar.specs.Registering.{registered_under}
use Rattle.reader.specs.Chunks.{Next, Stop, Goes}
use Rattle.lines.specs.Lines.{stop_line}
use Rattle.ledger.specs.Ledger.{advertisers, brought_in, tickets_after, count_in, last_in, tallies_after, countable}
use Rattle.visits.specs.Visits.{Visit, visit_in}
use Rattle.settings.specs.Settings.{recorded_window}
use Rattle.visits.specs.Day.{visit_line, summary_to, chunk_size}

-- what is remembered between two records
pub record Memory : Type 0 where
  pub keyed : Bool
  pub key : List ℕ
  pub cache : List ℕ
  pub tickets : List ℕ
  pub tallies : List ℕ

abbrev pub memory : Bool → List ℕ → List ℕ → List ℕ → List ℕ → Memory
memory b k c t u = record { keyed = b; key = k; cache = c; tickets = t; tallies = u }

-- the ticket of a visit
abbrev pub ticket_in : List ℕ → Visit → List ℕ
ticket_in tickets v = brought_in v.returns v.advertiser tickets

-- REGISTER with what a visit tells and that ticket
unfoldable pub outcome_in : List ℕ → List ℕ → List ℕ → Visit → List ℕ → Outcome
outcome_in key cache tickets v reply =
    registered_under recorded_window (request cache key v.clock (ad_kind ∷ v.body) v.vouched (ticket_in tickets v) reply)

abbrev pub visit_outcome : Memory → Visit → Outcome
visit_outcome m v = outcome_in m.key m.cache m.tickets v (replicate ticket_size 0)

-- what is kept behind a visit with an outcome
abbrev pub memory_after : Memory → Visit → Outcome → Memory
memory_after m v o =
    memory true m.key o.cache (tickets_after o.answer v.advertiser o.reply m.tickets)
    (tallies_after o.answer v.advertiser v.clock m.tallies)

unfoldable pub visit_remembered : Memory → Visit → Next Memory
visit_remembered m v =
    cond (countable v.advertiser (count_in v.advertiser m.tallies))
    (Goes (memory_after m v (visit_outcome m v)) (visit_line v.advertiser v.clock (visit_outcome m v).answer))
    Stop

abbrev pub memory_size : Memory → ℕ → ℕ
memory_size m b = chunk_size m.keyed b

unfoldable pub memory_step : Memory → List ℕ → Next Memory
memory_step m chunk = cond m.keyed (visit_remembered m (visit_in chunk)) (Goes (memory true chunk m.cache m.tickets m.tallies) [])

abbrev pub memory_summary : List ℕ → List ℕ
memory_summary tallies = summary_to advertisers (λ n. count_in n tallies) (λ n. last_in n tallies)

unfoldable pub memory_end : Memory → Bool → List ℕ
memory_end m done = cond (both m.keyed done) (memory_summary m.tallies) stop_line
