-- `wire::write_len_field` meets its contract: a tag, a length and the bytes, one behind the other.
use mathlib.Core.Path.{refl}
use Prim.Native.Nat.{◌+◌, ◌*◌, ◌≤◌}
use native.Mathlib.Omega.{arith}
use lib.ListN.{length}
use Rattle.wire.specs.Wire.{wire_len, varint, tag, len_field}
use Rattle.wire.proofs.Varints.{placed_next, length_len_field}
use Rattle.wire.proofs.write_len_field.Goals as goal
use Rattle.wire.proofs.write_len_field.Goals.{Start}

-- all three fit
room : (s : goal.Start) → s.args.at + (length (varint (s.args.field * 8 + wire_len)) + (length (varint (length s.args.payload.now)) + length s.args.payload.now)) ≤ length s.args.out.now
room s = let p = s.requires.1 in rw (length_len_field s.args.field s.args.payload.now) at p

pub returns : goal.returns
unfolding len_field tag
returns c =
    placed_next (omega (arith, room (goal.at.returns c).Start)) c.write_varint-size_at.ensures
    (placed_next (omega (arith, room (goal.at.returns c).Start, c.write_varint-size_at.ensures.behind, c.write_varint-size_at.auto.out)) c.write_varint-payload_at.ensures (record { behind = refl; leaves = c.copy.ensures }))
