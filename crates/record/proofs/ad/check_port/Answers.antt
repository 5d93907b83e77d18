-- `record::ad::check_port` meets its contract: the row's test.
use native.Mathlib.Omega.{arith}
use borrow.Author.Tests.{eq-eqb, ne_eqb}
use Rattle.record.specs.Refusals.{refusal}
use Rattle.record.proofs.ad.check_port.Goals as goal

pub returns-then-port-eq0 : goal.returns-then-port-eq0
unfolding refusal
returns-then-port-eq0 c = let none = eq-eqb c.args.port 0 (omega arith) in simp none

pub returns : goal.returns
unfolding refusal
returns c = let some = ne_eqb c.args.port 0 (λ e. c.if-port-eq0.false (omega arith)) in simp some
