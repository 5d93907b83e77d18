-- A recorded day played back (document 02, order 1): the key, then the visits, each a REGISTER over a cache of 256 slots that is freshly opened. The
-- calls are made one by one; a return brings the latest ticket that is held for its advertiser. What is held, counted and confirmed is read off the trace: the
-- visits so far with their answers.
use Rattle.std.specs.Prelude.{ℕ, zero, suc, ◌+◌, ◌*◌, Bool, true, false, cond, List, [], ◌∷◌, ◌++◌, eqb, length, replicate}
use Rattle.octets.specs.Runs.{both}
use Rattle.settings.specs.Settings.{key_size, program_capacity}
use Rattle.record.specs.Layout.{ad_kind, ticket_size}
use Rattle.cache.specs.Cache.{ipv4, cache_of}
use Rattle.cache.specs.Opening.{head_opened}
use Rattle.admission.specs.Registered.{Registered}
use Rattle.admission.specs.Deciding.{Outcome, is_confirmed}
use Rattle.runs.specs.Runs.{State, state, Call, Answer, registering, after}
use Rattle.runs.specs.Runs.Profile.{full}
use Rattle.runs.specs.Runs.Call.{register}
use Rattle.runs.specs.Runs.Answer.{registers}
use Rattle.reader.specs.Chunks.{Next, Stop, Goes, output_of}
use Rattle.lines.specs.Lines.{decimal, most_digits, newline, stop_line}
use Rattle.answers.specs.Lines.{longest_line}
use Rattle.answers.specs.Answers.{register_line}
use Rattle.settings.specs.Settings.{recorded_window}
use Rattle.ledger.specs.Ledger.{advertisers, held_afterwards, Time, Never, At, countable}
use Rattle.visits.specs.Visits.{record_size, Visit, visit_in}

-- a visit, its answer, and the reply's buffer as the call left it
pub record Visited : Type 0 where
  pub visit : Visit
  pub answer : Registered
  pub reply : List ℕ

-- ---- what the trace tells of an advertiser; the newest visit stands first

-- the ticket held
unfoldable pub held_for : ℕ → List Visited → List ℕ
held_for n [] = []
held_for n (v ∷ past) = cond (eqb v.visit.advertiser n) (held_afterwards v.answer v.reply (held_for n past)) (held_for n past)

-- how many visits, refused ones too
unfoldable pub visits_of : ℕ → List Visited → ℕ
visits_of n [] = 0
visits_of n (v ∷ past) = cond (eqb v.visit.advertiser n) (suc (visits_of n past)) (visits_of n past)

-- the clocks of the confirmations, the newest first, and the last of them
unfoldable pub confirmations_of : ℕ → List Visited → List ℕ
confirmations_of n [] = []
confirmations_of n (v ∷ past) =
    cond (both (eqb v.visit.advertiser n) (is_confirmed v.answer)) (v.visit.clock ∷ confirmations_of n past) (confirmations_of n past)

abbrev pub newest : List ℕ → Time
newest [] = Never
newest (t ∷ ts) = At t

abbrev pub last_of : ℕ → List Visited → Time
last_of n past = newest (confirmations_of n past)

-- ---- the calls

-- the ticket of a visit: a first ask brings none
abbrev pub ticket_for : List Visited → Visit → List ℕ
ticket_for past v = cond v.returns (held_for v.advertiser past) []

abbrev pub call_of : List ℕ → List Visited → Visit → Call
call_of key past v = register full recorded_window key v.clock (ad_kind ∷ v.body) v.vouched (ticket_for past v) (replicate ticket_size 0)

abbrev pub outcome_of : List ℕ → List Visited → State → Visit → Outcome
outcome_of key past s v = registering full recorded_window key v.clock (ad_kind ∷ v.body) v.vouched (ticket_for past v) (replicate ticket_size 0) s

abbrev pub visited_of : List ℕ → List Visited → State → Visit → Visited
visited_of key past s v = record { visit = v; answer = (outcome_of key past s v).answer; reply = (outcome_of key past s v).reply }

-- the calls of a trace in order, each with the ticket that the trace before it tells, and the answers that the trace has
unfoldable pub calls_of : List ℕ → List Visited → List Call
calls_of key [] = []
calls_of key (v ∷ past) = calls_of key past ++ (call_of key past v.visit ∷ [])

unfoldable pub answers_of : List Visited → List Answer
answers_of [] = []
answers_of (v ∷ past) = answers_of past ++ (registers v.answer v.reply ∷ [])

-- ---- the lines

abbrev pub space : List ℕ
space = 32 ∷ []

abbrev pub dash : List ℕ
dash = 45 ∷ []

-- the advertiser's number, a space, the registrar's line
unfoldable pub visit_line : ℕ → ℕ → Registered → List ℕ
visit_line n clock answer = decimal n ++ (space ++ register_line clock answer)

-- the lines of a trace in order
unfoldable pub lines_of : List Visited → List ℕ
lines_of [] = []
lines_of (v ∷ past) = lines_of past ++ visit_line v.visit.advertiser v.visit.clock v.answer

abbrev pub time_text : Time → List ℕ
time_text Never = dash
time_text (At clock) = decimal clock

-- the number, the count of visits, the last confirmation; nothing where there was no visit
unfoldable pub summary_line : ℕ → ℕ → Time → List ℕ
summary_line n count time =
    cond (eqb count 0) [] (decimal n ++ (space ++ (decimal count ++ (space ++ (time_text time ++ newline)))))

-- the lines of the numbers below one, by rising number
unfoldable pub summary_to : ℕ → (ℕ → ℕ) → (ℕ → Time) → List ℕ
summary_to zero counts times = []
summary_to (suc n) counts times = summary_to n counts times ++ summary_line n (counts n) (times n)

-- no line is longer, and so no summary than one of each advertiser
abbrev pub longest : ℕ
longest = most_digits + length space + longest_line

abbrev pub end_size : ℕ
end_size = longest * advertisers

-- ---- the day

pub record Day : Type 0 where
  pub keyed : Bool
  pub key : List ℕ
  pub past : List Visited
  pub kept : State

abbrev pub day : Bool → List ℕ → List Visited → State → Day
day b k p s = record { keyed = b; key = k; past = p; kept = s }

-- the first chunk is the key, the others are records
abbrev pub chunk_size : Bool → ℕ → ℕ
chunk_size keyed b = cond keyed (record_size b) key_size

abbrev pub day_size : Day → ℕ → ℕ
day_size d b = chunk_size d.keyed b

-- a visit played: its call is made on the cache as the last left it
unfoldable pub played : Day → Visit → Next Day
played d v =
    cond (countable v.advertiser (visits_of v.advertiser d.past))
    (Goes (day true d.key (visited_of d.key d.past d.kept v ∷ d.past) (after (call_of d.key d.past v) d.kept))
    (visit_line v.advertiser v.clock (visited_of d.key d.past d.kept v).answer))
    Stop

unfoldable pub day_step : Day → List ℕ → Next Day
day_step d chunk = cond d.keyed (played d (visit_in chunk)) (Goes (day true chunk d.past d.kept) [])

-- the end: the summary, where the input ends behind the key or a record
unfoldable pub day_end : Day → Bool → List ℕ
day_end d done = cond (both d.keyed done) (summary_to advertisers (λ n. visits_of n d.past) (λ n. last_of n d.past)) stop_line

abbrev pub opened : State
opened = state (cache_of ipv4 (head_opened program_capacity) []) []

abbrev pub opening : Day
opening = day false [] [] opened

-- all that a replay prints
unfoldable pub replay_of : List ℕ → List ℕ
replay_of input = output_of day_size day_step day_end opening input
