-- `ticket::read_wait` meets its contract.
use mathlib.Core.Path.{refl, sym, ap, ◌∙◌}
use Prim.Native.Nat.{◌+◌}
use Rattle.octets.specs.Numbers.{number}
use Rattle.record.specs.Layout.{kind_size, time_size, wait_at}
use Rattle.record.proofs.Fields.{in_record}
use Rattle.ticket.proofs.read_wait.Goals as goal

pub returns : goal.returns
returns c = c.read_u64.ensures ∙ ap number (sym (in_record wait_at time_size (kind_size + wait_at) c.args.ticket.now refl))
