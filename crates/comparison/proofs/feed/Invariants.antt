-- `comparison::feed` meets its contract.
use mathlib.Core.Path.{◌≡◌}
use Prim.Native.Nat.{◌-◌}
use lib.ListN.{length}
use Rattle.reader.specs.Feeding.{progress}
use Rattle.reader.proofs.Loop.{Going}
use Rattle.comparison.specs.Comparing.{comparison_program, hand_is}
use Rattle.comparison.proofs.feed.Given as goal

abbrev pub invariant-loop-at : goal.invariant-loop-at
invariant-loop-at l =
    Going comparison_program (hand_is l.initial.state l.initial.rest) l.piece l.initial.out (progress (hand_is l.state l.rest) l.at l.to) l.out × (length l.rest ≡ length l.initial.rest)

abbrev pub decreases-loop-at : goal.decreases-loop-at
decreases-loop-at l = length l.piece - l.at
