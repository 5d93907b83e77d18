-- `wire::write_varint_field` meets its contract: a tag, and a varint behind it.
use native.Mathlib.Omega.{arith}
use Rattle.wire.specs.Wire.{tag, varint_field}
use Rattle.wire.proofs.Varints.{placed_next}
use Rattle.wire.proofs.write_varint_field.Goals as goal

pub returns : goal.returns
unfolding varint_field tag
returns c =
    placed_next (omega (arith, c.requires.1)) c.write_varint-payload.ensures c.write_varint.ensures
