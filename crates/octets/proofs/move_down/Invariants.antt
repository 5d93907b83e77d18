-- `octets::move_down` meets its contract: after each turn the first `done` bytes are in place, and those from there on are as they were.
use mathlib.Core.Path.{◌≡◌}
use Prim.Native.Nat.{min}
use Rattle.octets.specs.Runs.{part, put}
use Rattle.octets.proofs.move_down.Given as goal

abbrev pub invariant-loop-done : goal.invariant-loop-done
invariant-loop-done l = l.s ≡ put l.to (part l.from (min l.n l.done) l.initial.s) l.initial.s
