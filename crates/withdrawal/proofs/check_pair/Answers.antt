-- `withdrawal::check_pair` meets its contract.
use mathlib.Core.Path.{sym, ◌∙◌}
use Rattle.record.proofs.Refusals.{refused, passed, last_passed, differ, agree}
use Rattle.withdrawal.specs.Withdrawing.{pair_rows}
use Rattle.withdrawal.proofs.check_pair.Goals as goal
use Rattle.withdrawal.proofs.check_pair.Goals.{then-service-ne-IDENTIFIER_SIZE-via-then-service-ne-IDENTIFIER_SIZE, then-service-ne-IDENTIFIER_SIZE-via-else-service-ne-IDENTIFIER_SIZE+then-peer-ne-IDENTIFIER_SIZE}

pub returns-then-service-ne-IDENTIFIER_SIZE : goal.returns-then-service-ne-IDENTIFIER_SIZE
unfolding pair_rows
returns-then-service-ne-IDENTIFIER_SIZE c =
    elim c.then-service-ne-IDENTIFIER_SIZE.branch [
      | then-service-ne-IDENTIFIER_SIZE-via-then-service-ne-IDENTIFIER_SIZE w ↦ sym (refused 2 _ (differ _ _ w.if-service-ne-IDENTIFIER_SIZE.true))
      | then-service-ne-IDENTIFIER_SIZE-via-else-service-ne-IDENTIFIER_SIZE+then-peer-ne-IDENTIFIER_SIZE w ↦
          sym (passed 2 _ (agree _ _ w.if-service-ne-IDENTIFIER_SIZE.false) ∙ refused 2 _ (differ _ _ w.if-peer-ne-IDENTIFIER_SIZE.true))
    ]

pub returns : goal.returns
unfolding pair_rows
returns c = sym (passed 2 _ (agree _ _ c.if-service-ne-IDENTIFIER_SIZE.false) ∙ last_passed 2 (agree _ _ c.if-peer-ne-IDENTIFIER_SIZE.false))
