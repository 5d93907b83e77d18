-- The Advertisement message (source 000, "Advertisement", its field numbers; document 02, order 6: which of its forms are accepted).
use Rattle.std.specs.Prelude.{ℕ, ◌+◌, ◌/◌, ◌^◌, Bool, not, List, ◌++◌, eqb, leb, drop}
use Rattle.octets.specs.Numbers.{number, bytes}
use Rattle.octets.specs.Runs.{part, both, same}
use Rattle.settings.specs.Settings.{last_clock}
use Rattle.record.specs.Layout.{identifier_size, address_size, port_size, signature_size}
use Rattle.record.specs.Ads.{Ad, ad_fields}
use Rattle.wire.specs.Wire.{varint, varint_value, varint_field, len_field}

-- ---- source 000's field numbers; 5 is the metadata, which no accepted message has

abbrev pub service_field : ℕ
service_field = 1

abbrev pub peer_field : ℕ
peer_field = 2

abbrev pub addrs_field : ℕ
addrs_field = 3

abbrev pub signature_field : ℕ
signature_field = 4

abbrev pub timestamp_field : ℕ
timestamp_field = 6

-- ---- a multiaddr: the code of ip4 and its four bytes, then the code of tcp and its two

abbrev pub ip4 : ℕ
ip4 = 4

abbrev pub tcp : ℕ
tcp = 6

unfoldable pub multiaddr : List ℕ → ℕ → List ℕ
multiaddr x n = varint ip4 ++ (x ++ (varint tcp ++ bytes port_size n))

-- ---- the message of an ad's fields, with the stamp in Unix seconds

unfoldable pub message : Ad → List ℕ
message f =
    len_field service_field f.service
    ++ (len_field peer_field f.peer
    ++ (len_field addrs_field (multiaddr f.address f.port) ++ (len_field signature_field f.signature ++ varint_field timestamp_field f.stamp)))

-- ---- a second in milliseconds, and the seconds that an epoch and a stamp may have

abbrev pub second : ℕ
second = 1000

-- the clock's whole seconds
abbrev pub last_second : ℕ
last_second = last_clock / second

-- an epoch is below this
abbrev pub epoch_end : ℕ
epoch_end = 2 ^ 33

-- ---- where each field stands: a tag, a length and a code are each one byte

abbrev pub tag_size : ℕ
tag_size = 1

abbrev pub length_size : ℕ
length_size = 1

abbrev pub code_size : ℕ
code_size = 1

abbrev pub service_at : ℕ
service_at = tag_size + length_size

abbrev pub peer_at : ℕ
peer_at = service_at + identifier_size + tag_size + length_size

abbrev pub address_at : ℕ
address_at = peer_at + identifier_size + tag_size + length_size + code_size

abbrev pub port_at : ℕ
port_at = address_at + address_size + code_size

abbrev pub signature_at : ℕ
signature_at = port_at + port_size + tag_size + length_size

abbrev pub timestamp_at : ℕ
timestamp_at = signature_at + signature_size + tag_size

-- an accepted message's second is below 2^34, a varint of five bytes at most
abbrev pub most_size : ℕ
most_size = timestamp_at + 5

-- the fields of a message, the stamp in Unix seconds
unfoldable pub fields_in : List ℕ → Ad
fields_in m =
    ad_fields (part service_at identifier_size m) (part peer_at identifier_size m) (part address_at address_size m) (number (part port_at port_size m))
    (varint_value (drop timestamp_at m)) (part signature_at signature_size m)

-- accepted: it is the message of the fields in it, which have a port, and a second from the epoch to the clock's last. That they are any fields of the
-- table's lengths is `accepted_message` and `message_accepted`.
unfoldable pub accepted : ℕ → List ℕ → Bool
accepted epoch m =
    let f = fields_in m in
    both (same (message f) m) (both (not (eqb f.port 0)) (both (leb epoch f.stamp) (leb f.stamp (epoch + last_second))))
