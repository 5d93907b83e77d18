-- `similarity::leading_zeros` meets its contract: a shift takes one bit off the word, and none of its leading zeros.
use mathlib.Core.Path.{◌≡◌}
use Prim.Native.Nat.{◌^◌, ◌≤◌, ◌<◌}
use Rattle.similarity.specs.Bits.{shared}
use Rattle.similarity.proofs.leading_zeros.Given as goal

abbrev pub invariant-loop-tail : goal.invariant-loop-tail
invariant-loop-tail l = (l.zeros ≤ 64) × ((l.tail < 2 ^ l.zeros) × (shared 64 l.word 0 ≡ shared l.zeros l.tail 0))

abbrev pub decreases-loop-tail : goal.decreases-loop-tail
decreases-loop-tail l = l.zeros
