-- `double_wait::power` meets its contract: after each turn, 1 multiplied as often by o.
use mathlib.Core.Path.{◌≡◌}
use Rattle.double_wait.specs.Doubles.{times}
use Rattle.double_wait.proofs.power.Given as goal

abbrev pub invariant-loop : goal.invariant-loop
invariant-loop l = l.d ≡ times l.counter l.o
