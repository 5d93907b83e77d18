-- `playback::in_step` meets its contract.
use lib.ListN.{length}
use borrow.Author.Tests.{eq-eqb, ne_eqb}
use Rattle.settings.specs.Settings.{key_size}
use Rattle.ledger.specs.Ledger.{tickets_size}
use Rattle.playback.specs.Replay.{in_step}
use Rattle.playback.proofs.in_step.Goals as goal

pub returns-then-key-ne-KEY : goal.returns-then-key-ne-KEY
unfolding in_step
returns-then-key-ne-KEY c = rw (ne_eqb (length c.args.key.now) key_size c.if-key-ne-KEY.true)

pub returns-then-tickets-ne-TICKETS : goal.returns-then-tickets-ne-TICKETS
unfolding in_step
returns-then-tickets-ne-TICKETS c =
    let a = c.args in
    rw (eq-eqb (length a.key.now) key_size c.if-key-ne-KEY.false, ne_eqb (length a.tickets.now) tickets_size c.if-tickets-ne-TICKETS.true)

pub returns : goal.returns
unfolding in_step
returns c =
    let a = c.args in
    rw (eq-eqb (length a.key.now) key_size c.if-key-ne-KEY.false, eq-eqb (length a.tickets.now) tickets_size c.if-tickets-ne-TICKETS.false)
