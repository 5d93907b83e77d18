-- An input of simulators' waits (document 02, order 11): records of kind 15, each with its line, numbered from 1. At the end of the input comes nothing; a cut record, or a byte that
-- no record starts with, gives `STOP`, behind the lines of the records before it. The records are the chunks of `reader`.
use Rattle.std.specs.Prelude.{ℕ, suc, ◌-◌, ◌^◌, ◌<◌, ◌≡◌, Bool, true, false, cond, List, [], ◌∷◌, ◌++◌, eqb, leb, ltb, length}
use Rattle.record.specs.Layout.{kind_of, simulated_kind, simulated_size}
use Rattle.reader.specs.Chunks.{Next, Goes, output_of}
use Rattle.reader.specs.Feeding.{Program, Hand, handed, Progress, progress, finishing}
use Rattle.lines.specs.Lines.{stop_line}
use Rattle.comparison.specs.declared.Comparison.{Comparison}
use Rattle.comparison.specs.declared.Fed.{Fed}
use Rattle.comparison.specs.Records.{simulated_of, line_of, line_limit}

-- lines are numbered in 64 bits: behind so many no other record starts
abbrev pub most_lines : ℕ
most_lines = 2 ^ 64 - 1

-- `count` lines stand before
abbrev pub size_in : ℕ → ℕ → ℕ
size_in count b = cond (ltb count most_lines) (cond (eqb b simulated_kind) simulated_size 0) 0

unfoldable pub step_in : ℕ → List ℕ → Next ℕ
step_in count chunk = Goes (suc count) (line_of (suc count) (simulated_of chunk))

unfoldable pub last_line : ℕ → Bool → List ℕ
last_line count done = cond done [] stop_line

-- all that is printed of an input
unfoldable pub compared_of : List ℕ → List ℕ
compared_of input = output_of size_in step_in last_line 0 input

-- ---- the same of an input as a user sees it: whole records, and what stands behind the last

pub record Recorded (r : List ℕ) : Type 0 where
  pub kind : kind_of r ≡ simulated_kind
  pub long : length r ≡ simulated_size

pub data AllRecorded : List (List ℕ) → Type 0 where
  none : AllRecorded []
  then : {r : List ℕ} {rs : List (List ℕ)} → Recorded r → AllRecorded rs → AllRecorded (r ∷ rs)

unfoldable pub input_of : List (List ℕ) → List ℕ
input_of [] = []
input_of (r ∷ rs) = r ++ input_of rs

-- their lines, the first with number n
unfoldable pub lines_from : ℕ → List (List ℕ) → List ℕ
lines_from n [] = []
lines_from n (r ∷ rs) = line_of n (simulated_of r) ++ lines_from (suc n) rs

-- the input ends, or a byte comes that no record starts with, or a record that is cut; and what that prints
pub data Ending : List ℕ → List ℕ → Type 0 where
  ends : Ending [] []
  unknown : {b : ℕ} {bs : List ℕ} → (b ≡ simulated_kind → ⊥) → Ending (b ∷ bs) stop_line
  cut : {bs : List ℕ} → length (simulated_kind ∷ bs) < simulated_size → Ending (simulated_kind ∷ bs) stop_line

-- ---- an input in the caller's hands: the buffer of the record under way

abbrev pub comparison_program : Program ℕ
comparison_program = record { size = size_in; step = step_in; last = last_line; buffer = simulated_size; longest = line_limit }

abbrev pub hand_is : Comparison → List ℕ → Hand ℕ
hand_is g rest = handed g.count g.stopped true g.have rest

abbrev pub fed_is : Fed → List ℕ → Progress ℕ
fed_is r rest = progress (hand_is r.comparison rest) r.used r.written

-- nothing was read
abbrev pub started : Comparison
started = record { stopped = false; have = 0; count = 0 }

-- one whose input could not be read to its end stops
abbrev pub ended_by : Bool → Comparison → Comparison
ended_by failed g = cond failed (record { stopped = true; have = 0; count = g.count }) g

-- what is written at the end, where the output has room for a line
abbrev pub finished : Comparison → List ℕ → List ℕ
finished g rest = finishing comparison_program (hand_is g rest)

abbrev pub finished_in : Comparison → List ℕ → List ℕ → List ℕ
finished_in g rest out = cond (leb line_limit (length out)) (finished g rest) []
