-- Laws of the records as chunks (specs/Comparing.antt): no record is longer than its buffer, a whole one can be counted, and what taking it does.
use mathlib.Core.Path.{◌≡◌, refl}
use mathlib.Core.Bool.{Bool, true, false, cond}
use mathlib.Core.List.{List}
use Prim.Native.Nat.{ℕ, ◌+◌, ◌≤◌, ◌<◌}
use native.Mathlib.Omega.{arith}
use native.Mathlib.Numerals.{add-one}
use lib.Dec.{eqb, ltb}
use lib.ListN.{length}
use borrow.Author.Tests.{ltb-true}
use Rattle.record.specs.Layout.{simulated_kind, simulated_size}
use Rattle.reader.specs.Feeding.{Taking}
use Rattle.reader.proofs.Turns.{Bounded, taken_line}
use Rattle.lines.specs.Lines.{LineWritten}
use Rattle.comparison.specs.Records.{simulated_of, line_of, line_limit}
use Rattle.comparison.specs.Comparing.{most_lines, size_in, step_in, comparison_program}
use Rattle.comparison.proofs.Printed.{line_most}

pub chunk_most : Bounded comparison_program
chunk_most count b = by (ltb count most_lines) (eqb b simulated_kind)
  where
    by : (t u : Bool) → cond t (cond u simulated_size 0) 0 ≤ simulated_size
    by true true = omega arith
    by true false = omega arith
    by false u = omega arith

-- a whole record can still be counted, and has its length
pub record Countable (count n : ℕ) : Type 0 where
  pub counted : count < most_lines
  pub sized : n ≡ simulated_size

pub countable : (count b n : ℕ) → n ≡ size_in count b → 1 ≤ n → Countable count n
countable count b n e p = by (ltb count most_lines) (eqb b simulated_kind) refl e
  where
    by : (t u : Bool) → ltb count most_lines ≡ t → n ≡ cond t (cond u simulated_size 0) 0 → Countable count n
    by true true w e = record { counted = ltb-true count most_lines w; sized = e }
    by true false w e = absurd (omega arith)
    by false u w e = absurd (omega arith)

pub record_taken : (count : ℕ) (chunk out : List ℕ) (to r : ℕ) (out' : List ℕ) → to + line_limit ≤ length out → LineWritten (line_of (count + 1) (simulated_of chunk)) out to r out'
    → Taking comparison_program count chunk out to (count + 1) false r out'
unfolding step_in
record_taken count chunk out to r out' h w =
    taken_line comparison_program count chunk out to h (count + 1) (line_of (count + 1) (simulated_of chunk)) r out' (rw (add-one count)) (line_most (count + 1) (simulated_of chunk)) w.end
    w.puts
