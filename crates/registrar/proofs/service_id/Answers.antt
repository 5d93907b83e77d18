-- `registrar::service_id` meets its contract.
use mathlib.Core.Path.{◌∙◌}
use Rattle.registrar.proofs.Identifier.{wrong_buffer, too_short, too_long, identifies}
use Rattle.registrar.proofs.service_id.Goals as goal

pub returns-then-id-ne-IDENTIFIER_SIZE : goal.returns-then-id-ne-IDENTIFIER_SIZE
returns-then-id-ne-IDENTIFIER_SIZE c = wrong_buffer c.args.protocol.now c.args.id.now c.if-id-ne-IDENTIFIER_SIZE.true

pub returns-then-protocol-lt1 : goal.returns-then-protocol-lt1
returns-then-protocol-lt1 c = too_short c.args.protocol.now c.args.id.now c.if-id-ne-IDENTIFIER_SIZE.false c.if-protocol-lt1.true

pub returns-then-protocol-gt-LONGEST : goal.returns-then-protocol-gt-LONGEST
returns-then-protocol-gt-LONGEST c = too_long c.args.protocol.now c.args.id.now c.if-id-ne-IDENTIFIER_SIZE.false c.if-protocol-lt1.false c.if-protocol-gt-LONGEST.true

pub returns : goal.returns
returns c =
    identifies c.args.protocol.now c.args.id.now c.if-id-ne-IDENTIFIER_SIZE.false c.if-protocol-lt1.false c.if-protocol-gt-LONGEST.false c.copy_from_slice.new.self (c.copy_from_slice.ensures.after ∙ c.sha256-digest.ensures)
