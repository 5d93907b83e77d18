-- `ticket::fields` meets its contract.
use Rattle.ticket.proofs.Tickets.{read_off}
use Rattle.ticket.proofs.fields.Goals as goal

pub returns : goal.returns
returns c =
    read_off c.args.ticket.now _ _ _ _ c.array-hash.ensures c.read_first-first.ensures c.read_issued-issued.ensures c.read_wait-wait.ensures
