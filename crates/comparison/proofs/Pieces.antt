-- From `start`, with a buffer of the right length and anything in it: any split of an input into pieces, handed to calls of `feed` one after the other and then finished, writes what is
-- printed of the whole input (specs/Comparing.antt). The reader's law, for the comparison.
use mathlib.Core.Path.{◌≡◌, refl, ap, ◌∙◌}
use mathlib.Core.Bool.{true}
use mathlib.Core.List.{List, [], ◌++◌}
use Prim.Native.Nat.{ℕ, ◌≤◌}
use lib.ListN.{length, take, get_or}
use borrow.Author.Tests.{le-leb}
use Rattle.record.specs.Layout.{simulated_size}
use Rattle.reader.specs.Chunks.{fresh}
use Rattle.reader.specs.Feeding.{reading_of, Calls}
use Rattle.reader.proofs.Turns.{starts, goes_not}
use Rattle.reader.proofs.Pieces.{pieces_print_whole}
use Rattle.lines.specs.Lines.{stop_line, LineWritten}
use Rattle.lines.proofs.Printing.{wrote_front}
use Rattle.comparison.specs.declared.Comparison.{Comparison}
use Rattle.comparison.specs.Records.{line_limit}
use Rattle.comparison.specs.Comparing.{size_in, last_line, compared_of, comparison_program, hand_is, started, ended_by, finished, finished_in}

module _ (rest : List ℕ) (rest_size : length rest ≡ simulated_size) where
  fresh_start : reading_of comparison_program (hand_is started rest) [] ≡ fresh 0
  fresh_start = starts comparison_program 0 true rest refl rest_size

  pub comparison_in_pieces : (input lines : List ℕ) (g : Comparison) (rest' out : List ℕ) (r : ℕ) (out' : List ℕ) → Calls comparison_program (hand_is started rest) input lines (hand_is g rest')
      → line_limit ≤ length out → LineWritten (finished_in g rest' out) out 0 r out' → lines ++ take r out' ≡ compared_of input
  unfolding compared_of last_line
  comparison_in_pieces input lines g rest' out r out' c l w =
      let e : take r out' ≡ finished g rest' = wrote_front w ∙ rw (le-leb line_limit (length out) l) in
      ap (λ (x : List ℕ). lines ++ x) e ∙ pieces_print_whole fresh_start c

-- a comparison whose input could not be read to its end says `STOP`, whatever it read
pub failed_stops : (g : Comparison) (rest : List ℕ) → finished (ended_by true g) rest ≡ stop_line
unfolding last_line
failed_stops g rest = rw (goes_not true 0 (length rest) simulated_size (size_in g.count (get_or rest 0 0)))
