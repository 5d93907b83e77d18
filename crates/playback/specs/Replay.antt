-- A replay in the caller's hands: the struct `Replay`, the buffers of the key and of the chunk under way, and the lent cache, tickets and tallies.
use Rattle.std.specs.Prelude.{ℕ, Bool, true, false, cond, List, [], eqb, leb, length}
use Rattle.record.specs.Layout.{address_size, visit_size}
use Rattle.octets.specs.Runs.{both}
use Rattle.settings.specs.Settings.{key_size}
use Rattle.reader.specs.Feeding.{Program, Hand, handed, Progress, progress, finishing}
use Rattle.ledger.specs.Ledger.{tickets_size, tallies_size}
use Rattle.playback.specs.declared.Replay.{Replay}
use Rattle.playback.specs.declared.Fed.{Fed}
use Rattle.visits.specs.Day.{longest, end_size}
use Rattle.visits.specs.Memory.{Memory, memory, memory_size, memory_step, memory_end}

abbrev pub replay_program : Program Memory
replay_program = record { size = memory_size; step = memory_step; last = memory_end; buffer = (visit_size address_size); longest = longest }

-- the key counts once it was read
abbrev pub memory_is : Bool → List ℕ → List ℕ → List ℕ → List ℕ → Memory
memory_is keyed key cache tickets tallies = memory keyed (cond keyed key []) cache tickets tallies

-- the replay's own buffers have their lengths
unfoldable pub in_step : List ℕ → List ℕ → List ℕ → Bool
in_step key tickets tallies =
    both (eqb (length key) key_size) (both (eqb (length tickets) tickets_size) (eqb (length tallies) tallies_size))

abbrev pub hand_is : Replay → List ℕ → List ℕ → List ℕ → List ℕ → List ℕ → Hand Memory
hand_is g key rest cache tickets tallies =
    handed (memory_is g.keyed key cache tickets tallies) g.stopped (in_step key tickets tallies) g.have rest

abbrev pub fed_is : Fed → List ℕ → List ℕ → List ℕ → List ℕ → List ℕ → Progress Memory
fed_is r key rest cache tickets tallies = progress (hand_is r.replay key rest cache tickets tallies) r.used r.written

-- a replay of which nothing was read
abbrev pub started : Replay
started = record { keyed = false; stopped = false; have = 0 }

-- one whose input could not be read to its end stops
abbrev pub ended_by : Bool → Replay → Replay
ended_by failed g = cond failed (record { keyed = g.keyed; stopped = true; have = 0 }) g

-- the end of a replay, which does not look at the cache; it is written where the output has room for a line of each advertiser
abbrev pub finished : Replay → List ℕ → List ℕ → List ℕ → List ℕ → List ℕ
finished g key rest tickets tallies = finishing replay_program (hand_is g key rest [] tickets tallies)

abbrev pub finished_in : Replay → List ℕ → List ℕ → List ℕ → List ℕ → List ℕ → List ℕ
finished_in g key rest tickets tallies out = cond (leb end_size (length out)) (finished g key rest tickets tallies) []
