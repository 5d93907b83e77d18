-- Document 02, order 1, over a whole input and without a reader: the key is its first 32 bytes, the records are cut out of what stands behind it by their one
-- length, each of them is a call, with the ticket of the trace's rule, and behind their lines come the counts and the last confirmation times. A record that is no
-- visit of an advertiser, a cut one, and a short key give `STOP` in place of these. `playback` has that the replay prints just this (its proofs/Records.antt).
use Rattle.std.specs.Prelude.{ℕ, ◌+◌, ◌*◌, ◌/◌, Bool, true, cond, List, [], ◌∷◌, ◌++◌, map, eqb, ltb, length, take, drop}
use Rattle.octets.specs.Runs.{both}
use Rattle.settings.specs.Settings.{key_size}
use Rattle.record.specs.Layout.{kind_of, visit_kind, revisit_kind, address_size, visit_size}
use Rattle.cache.specs.Chunks.{chunks}
use Rattle.runs.specs.Runs.{State, after}
use Rattle.lines.specs.Lines.{stop_line}
use Rattle.ledger.specs.Ledger.{advertisers}
use Rattle.visits.specs.Visits.{Visit, visit_in}
use Rattle.visits.specs.Day.{Visited, visits_of, last_of, call_of, visited_of, lines_of, summary_to, opened}

abbrev pub key_in : List ℕ → List ℕ
key_in input = take key_size input

-- the records of what stands behind the key: as many as there are whole ones
unfoldable pub records_in : List ℕ → List (List ℕ)
records_in bytes = chunks (visit_size address_size) (length bytes / visit_size address_size) bytes

-- of kind 20 or 21, and of an advertiser's number
abbrev pub is_visit : List ℕ → Bool
is_visit r = both (cond (eqb (kind_of r) visit_kind) true (eqb (kind_of r) revisit_kind)) (ltb (visit_in r).advertiser advertisers)

-- those before the first that is no visit
unfoldable pub played_of : List (List ℕ) → List (List ℕ)
played_of [] = []
played_of (r ∷ rs) = cond (is_visit r) (r ∷ played_of rs) []

unfoldable pub visits_from : List ℕ → List Visit
visits_from bytes = map visit_in (played_of (records_in bytes))

-- the trace of visits behind a trace: one call each, in order, on the cache as the last left it; the newest stands first
unfoldable pub trace_of : List ℕ → List Visited → State → List Visit → List Visited
trace_of key past s [] = past
trace_of key past s (v ∷ vs) = trace_of key (visited_of key past s v ∷ past) (after (call_of key past v) s) vs

abbrev pub past_of : List ℕ → List Visited
past_of input = trace_of (key_in input) [] opened (visits_from (drop key_size input))

-- the visits of a trace in order
unfoldable pub visits_told : List Visited → List Visit
visits_told [] = []
visits_told (v ∷ past) = visits_told past ++ (v.visit ∷ [])

-- every byte is the key's or a visit's
abbrev pub wholly : List ℕ → Bool
wholly input = eqb (length input) (key_size + length (visits_from (drop key_size input)) * visit_size address_size)

-- the lines of a trace, and its end
abbrev pub end_of : List Visited → Bool → List ℕ
end_of past whole = cond whole (summary_to advertisers (λ n. visits_of n past) (λ n. last_of n past)) stop_line

unfoldable pub printed_of : List ℕ → List ℕ
printed_of input = lines_of (past_of input) ++ end_of (past_of input) (wholly input)
