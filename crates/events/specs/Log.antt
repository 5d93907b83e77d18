-- A log (document 01, the end of "Both sides of each edge"): the 32 bytes of the key, then records, each answered by a line, over a cache of 256
-- slots that is freshly opened. At the end of the input comes `END` with the number of records read; a short key, a cut or an unknown record
-- gives `STOP`, behind the lines of the records before it. The key and the records are the chunks of `reader`.
use Rattle.std.specs.Prelude.{ℕ, suc, ◌-◌, ◌^◌, Bool, true, false, cond, List, [], eqb, leb, ltb, length}
use Rattle.octets.specs.Runs.{both}
use Rattle.settings.specs.Settings.{key_size, program_capacity}
use Rattle.cache.specs.Cache.{ipv4, cache_of}
use Rattle.cache.specs.Opening.{head_opened}
use Rattle.reader.specs.Chunks.{Next, Goes, output_of}
use Rattle.reader.specs.Feeding.{Program, Hand, handed, Progress, progress, finishing}
use Rattle.answers.specs.Records.{record_size, return_size}
use Rattle.lines.specs.Lines.{stop_line}
use Rattle.answers.specs.Lines.{end_line, longest_line}
use Rattle.answers.specs.Answers.{step_of}
use Rattle.events.specs.declared.Log.{Log}
use Rattle.events.specs.declared.Fed.{Fed}

-- the key, if it was read, the cache, and the number of records read
pub record LogState : Type 0 where
  pub keyed : Bool
  pub key : List ℕ
  pub cache : List ℕ
  pub count : ℕ

abbrev pub log_state : Bool → List ℕ → List ℕ → ℕ → LogState
log_state b k c n = record { keyed = b; key = k; cache = c; count = n }

-- records are counted in 64 bits: behind so many no other starts
abbrev pub most_records : ℕ
most_records = 2 ^ 64 - 1

-- the first chunk is the key, the others are records
abbrev pub chunk_size : Bool → ℕ → ℕ → ℕ
chunk_size keyed count b = cond keyed (cond (ltb count most_records) (record_size b) 0) key_size

abbrev pub size_in : LogState → ℕ → ℕ
size_in s b = chunk_size s.keyed s.count b

unfoldable pub step_in : LogState → List ℕ → Next LogState
step_in s chunk =
    cond s.keyed
    (Goes (log_state true s.key (step_of s.key s.cache chunk).cache (suc s.count)) (step_of s.key s.cache chunk).line)
    (Goes (log_state true chunk s.cache s.count) [])

-- the last line: `END` where the input ends behind the key or a record
unfoldable pub last_line : LogState → Bool → List ℕ
last_line s done = cond (both s.keyed done) (end_line s.count) stop_line

abbrev pub opening : LogState
opening = log_state false [] (cache_of ipv4 (head_opened program_capacity) []) 0

-- all that a log prints
unfoldable pub log_of : List ℕ → List ℕ
log_of input = output_of size_in step_in last_line opening input

-- ---- a log in the caller's hands: the buffer of the key, and that of the chunk under way

abbrev pub log_program : Program LogState
log_program = record { size = size_in; step = step_in; last = last_line; buffer = return_size; longest = longest_line }

-- the key counts once it was read
abbrev pub state_is : Bool → List ℕ → List ℕ → ℕ → LogState
state_is keyed key cache count = log_state keyed (cond keyed key []) cache count

abbrev pub hand_is : Log → List ℕ → List ℕ → List ℕ → Hand LogState
hand_is g key rest cache = handed (state_is g.keyed key cache g.count) g.stopped (eqb (length key) key_size) g.have rest

abbrev pub fed_is : Fed → List ℕ → List ℕ → List ℕ → Progress LogState
fed_is r key rest cache = progress (hand_is r.log key rest cache) r.used r.written

-- a log of which nothing was read
abbrev pub started : Log
started = record { keyed = false; stopped = false; have = 0; count = 0 }

-- one whose input could not be read to its end stops
abbrev pub ended_by : Bool → Log → Log
ended_by failed g = cond failed (record { keyed = g.keyed; stopped = true; have = 0; count = g.count }) g

-- the last line of a log, which does not look at the cache; it is written where the output has room for a line
abbrev pub finished : Log → List ℕ → List ℕ → List ℕ
finished g key rest = finishing log_program (hand_is g key rest [])

abbrev pub finished_in : Log → List ℕ → List ℕ → List ℕ → List ℕ
finished_in g key rest out = cond (leb longest_line (length out)) (finished g key rest) []
