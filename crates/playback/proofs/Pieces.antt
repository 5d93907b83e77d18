-- What the replay prints: from `start`, any split of an input into pieces, handed to calls of `feed` one after the other and then finished, writes the replay of
-- the whole input, `replay_of` (crates/visits/specs/Day.antt), which is told by the trace alone. What the program keeps starts empty: tickets and tallies are zeros,
-- the cache is freshly opened.
use mathlib.Core.Path.{◌≡◌, refl, sym, ap, ◌∙◌}
use mathlib.Core.Bool.{Bool, true, false, cond}
use mathlib.Core.List.{List, [], ◌++◌}
use Prim.Native.Nat.{ℕ, zero, suc, ◌≤◌}
use lib.ListN.{length, take, get_or, replicate, length-replicate}
use borrow.Author.Tests.{le-leb}
use Rattle.octets.specs.Runs.{both}
use Rattle.record.specs.Layout.{address_size, visit_size}
use Rattle.settings.specs.Settings.{key_size, program_capacity}
use Rattle.cache.specs.Cache.{ipv4, cache_of}
use Rattle.cache.specs.Opening.{head_opened}
use Rattle.reader.specs.Chunks.{fresh}
use Rattle.reader.specs.Feeding.{reading_of, Calls}
use Rattle.reader.proofs.Turns.{starts, goes_not}
use Rattle.reader.proofs.Pieces.{pieces_print_whole}
use Rattle.lines.specs.Lines.{stop_line, LineWritten}
use Rattle.lines.proofs.Printing.{wrote_front}
use Rattle.ledger.specs.Ledger.{slot_at, tickets_size, held_in, count_at, confirmed_at, tallies_size}
use Rattle.visits.specs.Day.{held_for, visits_of, confirmations_of, end_size, chunk_size, day_size, day_step, day_end, opening, replay_of}
use Rattle.visits.specs.Memory.{Memory, memory, memory_size, memory_step, memory_summary, memory_end}
use Rattle.playback.specs.declared.Replay.{Replay}
use Rattle.playback.specs.Replay.{replay_program, memory_is, in_step, hand_is, started, ended_by, finished, finished_in}
use Rattle.playback.proofs.Turns.{steps}
use Rattle.reader.proofs.Alike.{output_alike}
use Rattle.playback.proofs.Agreeing.{Agree, size_alike, step_alike, end_alike}

-- nothing is kept yet
abbrev pub memory_opening : Memory
memory_opening = memory false [] (cache_of ipv4 (head_opened program_capacity) []) (replicate tickets_size 0) (replicate tallies_size 0)

zero_there : (n i : ℕ) → ◌≡◌ {A = ℕ} (get_or (replicate n 0) i 0) 0
zero_there zero i = refl
zero_there (suc n) zero = refl
zero_there (suc n) (suc i) = zero_there n i

opening_agrees : Agree opening memory_opening
unfolding held_for visits_of confirmations_of held_in
opening_agrees =
    record {
      keyed_same = refl;
      key_same = refl;
      cache_same = refl;
      tickets_size_lem = length-replicate {A = ℕ} tickets_size 0;
      tallies_size_lem = length-replicate {A = ℕ} tallies_size 0;
      held = λ n. rw (zero_there tickets_size (slot_at n));
      count = λ n. sym (zero_there tallies_size (count_at n));
      last = λ n. rw (zero_there tallies_size (confirmed_at n));
    }

-- what the caller lends: the key's and the record's buffers with anything in them, an opened cache, and zeros
module _ (key rest cache tickets tallies : List ℕ) (key_size_lem : length key ≡ key_size) (rest_size : length rest ≡ (visit_size address_size)) (opened : cache ≡ memory_opening.cache)
    (no-tickets : tickets ≡ memory_opening.tickets) (no-tallies : tallies ≡ memory_opening.tallies) where
  fresh_start : reading_of replay_program (hand_is started key rest cache tickets tallies) [] ≡ fresh memory_opening
  fresh_start =
      let l = steps (record { key_size_lem = key_size_lem; tickets_size_lem = ap length no-tickets ∙ length-replicate {A = ℕ} tickets_size 0; tallies_size_lem = ap length no-tallies ∙ length-replicate {A = ℕ} tallies_size 0 }) in
      starts replay_program (memory_is false key cache tickets tallies) (in_step key tickets tallies) rest l rest_size ∙ rw (opened, no-tickets, no-tallies)

  pub replay_in_pieces : (input lines : List ℕ) (g : Replay) (key' rest' cache' tickets' tallies' out : List ℕ) (r : ℕ) (out' : List ℕ)
      → Calls replay_program (hand_is started key rest cache tickets tallies) input lines (hand_is g key' rest' cache' tickets' tallies') → end_size ≤ length out
      → LineWritten (finished_in g key' rest' tickets' tallies' out) out 0 r out' → lines ++ take r out' ≡ replay_of input
  unfolding replay_of memory_end
  replay_in_pieces input lines g key' rest' cache' tickets' tallies' out r out' c l w =
      let e : take r out' ≡ finished g key' rest' tickets' tallies' = wrote_front w ∙ rw (le-leb end_size (length out) l) in
      ap (λ (x : List ℕ). lines ++ x) e ∙ pieces_print_whole fresh_start c
      ∙ sym (output_alike day_size day_step memory_size memory_step Agree (λ d k b a. size_alike d k a b) (λ d k chunk a. step_alike d k a chunk) day_end memory_end (λ d k done a. end_alike d k a done) opening memory_opening input opening_agrees)

-- a replay whose input could not be read to its end says `STOP`, whatever it read
pub failed_stops : (g : Replay) (key rest tickets tallies : List ℕ) → finished (ended_by true g) key rest tickets tallies ≡ stop_line
unfolding memory_end
failed_stops g key rest tickets tallies =
    rw (goes_not (in_step key tickets tallies) 0 (length rest) (visit_size address_size) (chunk_size g.keyed (get_or rest 0 0))) (by g.keyed)
  where
    by : (b : Bool) → cond (both b false) (memory_summary tallies) stop_line ≡ stop_line
    by true = refl
    by false = refl
