-- `unglassot::hash::give` meets its contract: 32 bytes over the whole buffer, or nothing.
use mathlib.Core.Path.{refl, ◌∙◌}
use lib.ListN.{length}
use borrow.Author.Tests.{eq-eqb, ne_eqb}
use Rattle.record.specs.Refusals.{refusal, replied}
use Rattle.codes.proofs.Signed.{read_back}
use Rattle.unglassot.proofs.hash.give.Goals as goal

pub returns-then-out-ne32 : goal.returns-then-out-ne32
unfolding refusal replied
returns-then-out-ne32 c =
    rw (ne_eqb (length c.args.out.now) 32 c.if-out-ne32.true)
    record { number = read_back c.for_done.result c.for_done.type_inv ∙ c.for_done.ensures; buffer = refl }

pub returns : goal.returns
unfolding refusal replied
returns c = rw (eq-eqb (length c.args.out.now) 32 c.if-out-ne32.false) record { number = refl; buffer = c.copy_from_slice.ensures.after }
