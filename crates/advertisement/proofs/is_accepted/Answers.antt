-- `advertisement::is_accepted` meets its contract: a test of the definition for each return, the comparison last.
use mathlib.Core.Path.{◌≡◌, sym, ap, ap₂, ◌∙◌}
use Prim.Native.Nat.{◌≤◌, ◌<◌}
use native.Mathlib.Omega.{arith}
use lib.ListN.{length, take, replicate}
use lib.Seq.{take_all, length-take-le}
use Rattle.octets.specs.Runs.{part, same}
use Rattle.octets.proofs.Runs.{length_part}
use Rattle.record.specs.Layout.{identifier_size, address_size, signature_size}
use Rattle.record.specs.Ads.{ad_fields}
use Rattle.advertisement.specs.Advertisement.{message, service_at, peer_at, address_at, signature_at, timestamp_at, fields_in, accepted, most_size}
use Rattle.wire.specs.Wire.{Placed}
use Rattle.advertisement.proofs.Messages.{parts_sized, fields_read, message_most, short_refused, long_refused, early_refused, late_refused, port_refused, judged, other_length, taken}
use Rattle.advertisement.proofs.is_accepted.Goals as goal
use Rattle.advertisement.proofs.is_accepted.Goals.{After-fill_message-n, Else-port-eq0, Else-size-le-TIMESTAMP_AT}

pub returns-then-size-le-TIMESTAMP_AT : goal.returns-then-size-le-TIMESTAMP_AT
returns-then-size-le-TIMESTAMP_AT c = short_refused c.args.epoch c.args.message.now (omega (arith, c.if-size-le-TIMESTAMP_AT.true))

-- behind the first test a message has a stamp
stamped : (c : goal.Else-size-le-TIMESTAMP_AT) → timestamp_at < length c.args.message.now
stamped c = omega (arith, c.if-size-le-TIMESTAMP_AT.false)

pub returns-then-size-gt-MOST_SIZE : goal.returns-then-size-gt-MOST_SIZE
returns-then-size-gt-MOST_SIZE c = long_refused c.args.epoch c.args.message.now c.requires c.if-size-gt-MOST_SIZE.true

pub returns-then-timestamp-epoch : goal.returns-then-timestamp-epoch
returns-then-timestamp-epoch c =
    early_refused c.args.epoch c.args.message.now (omega (arith, c.varint_value-timestamp.ensures, c.if-timestamp-epoch.true))

pub returns-then-timestamp-epoch-2 : goal.returns-then-timestamp-epoch-2
returns-then-timestamp-epoch-2 c =
    late_refused c.args.epoch c.args.message.now (omega (arith, c.varint_value-timestamp.ensures, c.if-timestamp-epoch-2.true))

pub returns-then-port-eq0 : goal.returns-then-port-eq0
returns-then-port-eq0 c =
    port_refused c.args.epoch c.args.message.now (sym c.read_u16-port.ensures ∙ c.if-port-eq0.true)

-- no test before the comparison refused it
left : (c : goal.Else-port-eq0) → let a = c.args in accepted a.epoch a.message.now ≡ same (message (fields_in a.message.now)) a.message.now
left c =
    let a = c.args in
    judged a.epoch a.message.now (λ z. c.if-port-eq0.false (c.read_u16-port.ensures ∙ z)) (omega (arith, c.varint_value-timestamp.ensures, c.if-timestamp-epoch.false))
    (omega (arith, c.varint_value-timestamp.ensures, c.if-timestamp-epoch-2.false))

-- the fields' message is short enough, and what is made again is the message of the fields
short : (c : goal.Else-port-eq0) → let m = c.args.message.now in
    length (message (ad_fields (part service_at identifier_size m) (part peer_at identifier_size m) (part address_at address_size m) c.read_u16-port.result c.varint_value-timestamp.result (part signature_at signature_size m))) ≤ most_size
short c =
    let h = c.if-timestamp-epoch-2.false in
    let r = c.requires in
    message_most _ (parts_sized c.args.message.now _ _ (stamped (goal.at.Else-port-eq0 c).Else-size-le-TIMESTAMP_AT)) (omega (arith, h, r))

pub fill_message-n-requires : goal.fill_message-n-requires
unfolding part
fill_message-n-requires c =
    record { address_len = length_part address_at address_size c.args.message.now (omega arith); signature_in_bounds = short (goal.at.fill_message-n-requires c).Else-port-eq0 }

made : (c : goal.After-fill_message-n) → Placed 0 (message (fields_in c.args.message.now)) (replicate (most_size) 0) c.fill_message-n.result c.fill_message-n.new.out
unfolding part
made c =
    let q = fields_read c.args.message.now _ _ c.read_u16-port.ensures c.varint_value-timestamp.ensures in
    rw q at c.fill_message-n.ensures

within : (c : goal.After-fill_message-n) → c.fill_message-n.result ≤ most_size
unfolding part
within c = let b = c.fill_message-n.ensures.behind in omega (arith, short (goal.at.After-fill_message-n c).Else-port-eq0, b)

long : (c : goal.After-fill_message-n) → c.fill_message-n.result ≤ length c.fill_message-n.new.out
long c = let k = c.fill_message-n.auto.out in omega (arith, within c, k)

pub returns-then-n-size : goal.returns-then-n-size
returns-then-n-size c =
    let other = c.if-n-size.true in
    let a = c.args in
    other_length a.epoch a.message.now (left (goal.at.returns-then-n-size c).Else-port-eq0) c.fill_message-n.result (omega (arith, (made (goal.at.returns-then-n-size c).After-fill_message-n).behind)) (λ e. omega (arith, other))

pub returns : goal.returns
returns c =
    let m = c.args.message.now in
    let n = c.fill_message-n.result in
    let same-long = c.if-n-size.false in
    let again : take n c.fill_message-n.new.out ≡ message (fields_in m) = ap (take n) (made (goal.at.returns c).After-fill_message-n).leaves ∙ taken (message (fields_in m)) _ n (made (goal.at.returns c).After-fill_message-n).behind in
    let whole : take n m ≡ m = take_all n m (omega (arith, same-long)) in
    c.equal.ensures ∙ ap₂ same again whole ∙ sym (left (goal.at.returns c).Else-port-eq0)

pub slice_bounds-again-end : goal.slice_bounds-again-end
slice_bounds-again-end c = omega (arith, within (goal.at.slice_bounds-again-end c).After-fill_message-n)

pub slice_bounds-equal-end : goal.slice_bounds-equal-end
slice_bounds-equal-end c = sym (length-take-le _ _ (long (goal.at.slice_bounds-equal-end c).After-fill_message-n))

pub slice_bounds-equal-end-2 : goal.slice_bounds-equal-end-2
slice_bounds-equal-end-2 c = sym (length-take-le _ _ (let i = c.if-n-size.false in omega (arith, i)))
