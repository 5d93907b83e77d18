-- `ticket::read_first` meets its contract.
use mathlib.Core.Path.{refl, sym, ap, ◌∙◌}
use Prim.Native.Nat.{◌+◌}
use Rattle.octets.specs.Numbers.{number}
use Rattle.record.specs.Layout.{kind_size, time_size, first_at}
use Rattle.record.proofs.Fields.{in_record}
use Rattle.ticket.proofs.read_first.Goals as goal

pub returns : goal.returns
returns c = c.read_u64.ensures ∙ ap number (sym (in_record first_at time_size (kind_size + first_at) c.args.ticket.now refl))
