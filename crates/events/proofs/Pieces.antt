-- From `start`, with buffers of the right lengths and anything in them, and an opened cache: any split of an input into pieces, handed to calls of `feed` one after
-- the other and then finished, writes what the log of the whole input is (specs/Log.antt). The reader's law, for the log.
use mathlib.Core.Path.{◌≡◌, refl, ap, ◌∙◌}
use mathlib.Core.Bool.{Bool, true, false, cond}
use mathlib.Core.List.{List, [], ◌++◌}
use Prim.Native.Nat.{ℕ, ◌≤◌}
use lib.Dec.{eqb}
use lib.ListN.{length, take, get_or}
use borrow.Author.Tests.{eq-eqb, le-leb}
use Rattle.octets.specs.Runs.{both}
use Rattle.settings.specs.Settings.{key_size}
use Rattle.reader.specs.Chunks.{fresh}
use Rattle.reader.specs.Feeding.{reading_of, Calls}
use Rattle.reader.proofs.Turns.{starts, goes_not}
use Rattle.reader.proofs.Pieces.{pieces_print_whole}
use Rattle.answers.specs.Records.{return_size}
use Rattle.lines.specs.Lines.{stop_line, LineWritten}
use Rattle.lines.proofs.Printing.{wrote_front}
use Rattle.answers.specs.Lines.{end_line, longest_line}
use Rattle.events.specs.declared.Log.{Log}
use Rattle.events.specs.Log.{chunk_size, last_line, opening, log_of, log_program, state_is, hand_is, started, ended_by, finished, finished_in}

module _ (key rest cache : List ℕ) (key_size_lem : length key ≡ key_size) (rest_size : length rest ≡ return_size) (opened : cache ≡ opening.cache) where
  fresh_start : reading_of log_program (hand_is started key rest cache) [] ≡ fresh opening
  fresh_start = starts log_program (state_is false key cache 0) (eqb (length key) key_size) rest (eq-eqb (length key) key_size key_size_lem) rest_size ∙ rw opened

  pub log_in_pieces : (input lines : List ℕ) (g : Log) (key' rest' cache' out : List ℕ) (r : ℕ) (out' : List ℕ) → Calls log_program (hand_is started key rest cache) input lines (hand_is g key' rest' cache')
      → longest_line ≤ length out → LineWritten (finished_in g key' rest' out) out 0 r out' → lines ++ take r out' ≡ log_of input
  unfolding log_of last_line
  log_in_pieces input lines g key' rest' cache' out r out' c l w =
      let e : take r out' ≡ finished g key' rest' = wrote_front w ∙ rw (le-leb longest_line (length out) l) in
      ap (λ (x : List ℕ). lines ++ x) e ∙ pieces_print_whole fresh_start c

-- a log whose input could not be read to its end says `STOP`, whatever it read
pub failed_stops : (g : Log) (key rest : List ℕ) → finished (ended_by true g) key rest ≡ stop_line
unfolding last_line
failed_stops g key rest =
    rw (goes_not (eqb (length key) key_size) 0 (length rest) return_size (chunk_size g.keyed g.count (get_or rest 0 0))) (by g.keyed)
  where
    by : (b : Bool) → cond (both b false) (end_line g.count) stop_line ≡ stop_line
    by true = refl
    by false = refl
