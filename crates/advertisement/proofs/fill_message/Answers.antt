-- `advertisement::fill_message` meets its contract: five fields one behind the other.
use mathlib.Core.Path.{◌≡◌, ap, ◌∙◌}
use mathlib.Core.List.{List}
use Prim.Native.Nat.{ℕ, ◌+◌, ◌≤◌}
use native.Mathlib.Omega.{arith}
use lib.ListN.{length}
use Rattle.record.specs.Ads.{ad_fields}
use Rattle.wire.specs.Wire.{varint_field, len_field}
use Rattle.advertisement.specs.Advertisement.{service_field, peer_field, addrs_field, signature_field, timestamp_field, multiaddr, message}
use Rattle.wire.proofs.Varints.{placed_next}
use Rattle.advertisement.proofs.Messages.{message_length}
use Rattle.advertisement.proofs.fill_message.Goals as goal
use Rattle.advertisement.proofs.fill_message.Goals.{After-write_len_field-addrs_at, After-write_len_field-peer_at, After-write_len_field-signature_at, After-write_len_field-timestamp_at, Start}

-- the fields fit, one behind the other
room : (s : goal.Start) → let a = s.args in
    length (len_field service_field a.service.now) + (length (len_field peer_field a.peer.now)
    + (length (len_field addrs_field (multiaddr a.address.now a.port)) + (length (len_field signature_field a.signature.now) + length (varint_field timestamp_field a.timestamp)))) ≤ length a.out.now
room s =
    let a = s.args in
    let p = s.requires.signature_in_bounds in
    rw (message_length (ad_fields a.service.now a.peer.now a.address.now a.port a.timestamp a.signature.now)) at p

record Front (p before n t : ℕ) : Type 0 where
  place : n ≡ p
  long : t ≡ before

front1 : (c : goal.After-write_len_field-peer_at) → let a = c.args in
    Front (length (len_field service_field a.service.now)) (length a.out.now) c.write_len_field-peer_at.result (length c.write_len_field-peer_at.new.out)
front1 c = record { place = omega (arith, c.write_len_field-peer_at.ensures.behind); long = c.write_len_field-peer_at.auto.out }

front2 : (c : goal.After-write_len_field-addrs_at) → let a = c.args in
    Front (length (len_field service_field a.service.now) + length (len_field peer_field a.peer.now)) (length a.out.now) c.write_len_field-addrs_at.result (length c.write_len_field-addrs_at.new.out)
front2 c =
    let f = front1 (goal.at.After-write_len_field-addrs_at c).After-write_len_field-peer_at in
    record { place = omega (arith, c.write_len_field-addrs_at.ensures.behind, f.place); long = c.write_len_field-addrs_at.auto.out ∙ f.long }

-- the address as it was made
placed-address : (c : goal.After-write_len_field-signature_at) → length (len_field addrs_field c.multiaddr-place.result) ≡ length (len_field addrs_field (multiaddr c.args.address.now c.args.port))
placed-address c =
    ap (λ (l : List ℕ). length (len_field addrs_field l)) c.multiaddr-place.ensures

front3 : (c : goal.After-write_len_field-signature_at) → let a = c.args in
    Front (length (len_field service_field a.service.now) + length (len_field peer_field a.peer.now) + length (len_field addrs_field (multiaddr a.address.now a.port))) (length a.out.now) c.write_len_field-signature_at.result (length c.write_len_field-signature_at.new.out)
front3 c =
    let f = front2 (goal.at.After-write_len_field-signature_at c).After-write_len_field-addrs_at in
    record { place = omega (arith, c.write_len_field-signature_at.ensures.behind, f.place, placed-address c); long = c.write_len_field-signature_at.auto.out ∙ f.long }

front4 : (c : goal.After-write_len_field-timestamp_at) → let a = c.args in
    Front (length (len_field service_field a.service.now) + length (len_field peer_field a.peer.now) + length (len_field addrs_field (multiaddr a.address.now a.port)) + length (len_field signature_field a.signature.now)) (length a.out.now) c.write_len_field-timestamp_at.result (length c.write_len_field-timestamp_at.new.out)
front4 c =
    let f = front3 (goal.at.After-write_len_field-timestamp_at c).After-write_len_field-signature_at in
    record { place = omega (arith, c.write_len_field-timestamp_at.ensures.behind, f.place); long = c.write_len_field-timestamp_at.auto.out ∙ f.long }

pub returns : goal.returns
unfolding message
returns c =
    let r = room (goal.at.returns c).Start in
    rw (← c.multiaddr-place.ensures)
    (placed_next (omega arith) c.write_len_field-peer_at.ensures
    (placed_next (omega (arith, r, (front1 (goal.at.returns c).After-write_len_field-peer_at).place, (front1 (goal.at.returns c).After-write_len_field-peer_at).long)) c.write_len_field-addrs_at.ensures
    (placed_next (omega (arith, r, (front2 (goal.at.returns c).After-write_len_field-addrs_at).place, (front2 (goal.at.returns c).After-write_len_field-addrs_at).long)) c.write_len_field-signature_at.ensures
    (placed_next (omega (arith, r, (front3 (goal.at.returns c).After-write_len_field-signature_at).place, (front3 (goal.at.returns c).After-write_len_field-signature_at).long)) c.write_len_field-timestamp_at.ensures c.write_varint_field.ensures))))

pub write_len_field-peer_at-requires : goal.write_len_field-peer_at-requires
write_len_field-peer_at-requires c = (omega arith, omega (arith, room (goal.at.write_len_field-peer_at-requires c).Start))

pub write_len_field-addrs_at-requires : goal.write_len_field-addrs_at-requires
write_len_field-addrs_at-requires c = let f = front1 (goal.at.write_len_field-addrs_at-requires c).After-write_len_field-peer_at in (omega arith, omega (arith, room (goal.at.write_len_field-addrs_at-requires c).Start, f.place, f.long))

pub write_len_field-signature_at-requires : goal.write_len_field-signature_at-requires
write_len_field-signature_at-requires c =
    let f = front2 (goal.at.write_len_field-signature_at-requires c).After-write_len_field-addrs_at in
    let e = ap (λ (l : List ℕ). length (len_field addrs_field l)) c.multiaddr-place.ensures in
    (omega arith, omega (arith, room (goal.at.write_len_field-signature_at-requires c).Start, f.place, f.long, e))

pub write_len_field-timestamp_at-requires : goal.write_len_field-timestamp_at-requires
write_len_field-timestamp_at-requires c = let f = front3 (goal.at.write_len_field-timestamp_at-requires c).After-write_len_field-signature_at in (omega arith, omega (arith, room (goal.at.write_len_field-timestamp_at-requires c).Start, f.place, f.long))

pub write_varint_field-requires : goal.write_varint_field-requires
write_varint_field-requires c = let f = front4 (goal.at.write_varint_field-requires c).After-write_len_field-timestamp_at in (omega arith, omega (arith, room (goal.at.write_varint_field-requires c).Start, f.place, f.long))
