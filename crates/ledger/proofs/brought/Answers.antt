-- `ledger::brought` meets its contract.
use native.Mathlib.Omega.{arith}
use Rattle.ledger.proofs.Tickets.{first_none, none_held, held_brought}
use Rattle.ledger.proofs.brought.Goals as goal

pub returns-then-not-returns : goal.returns-then-not-returns
returns-then-not-returns c = let a = c.args in (omega arith, first_none a.returns a.n a.tickets.now c.if-not-returns.true)

pub returns-then-tickets-n-eq0 : goal.returns-then-tickets-n-eq0
returns-then-tickets-n-eq0 c =
    let a = c.args in
    (omega arith, none_held a.returns a.n a.tickets.now c.if-not-returns.false c.if-tickets-n-eq0.true)

pub returns : goal.returns
returns c =
    let a = c.args in
    (omega arith, held_brought a.returns a.n a.tickets.now c.if-not-returns.false c.if-tickets-n-eq0.false)
