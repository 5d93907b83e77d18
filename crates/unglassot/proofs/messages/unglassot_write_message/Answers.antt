-- `unglassot::messages::unglassot_write_message` meets its contract: the number for what is answered, a length of at most 150.
use mathlib.Core.Path.{sym, ap, ◌∙◌}
use native.Mathlib.Omega.{arith}
use Rattle.message.proofs.Answers.{written_sizes}
use Rattle.codes.specs.Codes.{written_number}
use Rattle.codes.proofs.Signed.{read_back}
use Rattle.unglassot.proofs.messages.unglassot_write_message.Goals as goal

pub for_message-requires : goal.for_message-requires
for_message-requires c n e =
    let a = c.args in
    let few = (written_sizes a.epoch a.ad.now a.out.now n (sym c.write.ensures.answered ∙ e)).1 in
    omega (arith, few)

pub returns : goal.returns
returns c =
    let g = c.write.ensures in
    record { number = read_back c.for_message.result c.for_message.type_inv ∙ c.for_message.ensures ∙ ap written_number g.answered; buffer = g.leaves }
