-- `playback::feed` meets its contract.
use mathlib.Core.Path.{◌≡◌}
use Prim.Native.Nat.{◌-◌}
use lib.ListN.{length}
use Rattle.reader.specs.Feeding.{progress, KeyLeft}
use Rattle.reader.proofs.Loop.{Going}
use Rattle.playback.specs.Replay.{replay_program, hand_is}
use Rattle.playback.proofs.feed.Given as goal

abbrev pub invariant-loop-at : goal.invariant-loop-at
invariant-loop-at l =
    Going replay_program (hand_is l.initial.state l.initial.key l.initial.rest l.initial.cache l.initial.tickets l.initial.tallies) l.piece l.initial.out (progress (hand_is l.state l.key l.rest l.cache l.tickets l.tallies) l.at l.to) l.out
    × KeyLeft l.initial.state.keyed l.state.keyed l.initial.key l.key × (length l.key ≡ length l.initial.key) × (length l.rest ≡ length l.initial.rest) × (length l.cache ≡ length l.initial.cache) × (length l.tickets ≡ length l.initial.tickets) × (length l.tallies ≡ length l.initial.tallies)

abbrev pub decreases-loop-at : goal.decreases-loop-at
decreases-loop-at l = length l.piece - l.at
