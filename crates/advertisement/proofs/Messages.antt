-- Laws of the Advertisement message (specs/Advertisement.antt): its bytes, its length, its fields again, and which messages are accepted.
use mathlib.Core.Path.{◌≡◌, refl, sym, ap, ◌∙◌}
use mathlib.Core.Bool.{Bool, true, false}
use mathlib.Core.List.{List, [], ◌∷◌, ◌++◌, append_assoc}
use Prim.Native.Nat.{ℕ, suc, ◌+◌, ◌-◌, ◌*◌, ◌^◌, ◌≤◌, ◌<◌, min}
use native.Mathlib.Omega.{arith}
use lib.Dec.{leb}
use lib.ListN.{length, set, replicate, take, drop, get_or, length-set, length-append, length-take, length-drop}
use lib.Seq.{drop_at, take_at}
use borrow.Author.Tests.{leb-true, eqb-false, not-true, ne_eqb, le-leb}
use Rattle.octets.specs.Numbers.{number, bytes, Octets}
use Rattle.octets.specs.Runs.{part, put, both, same}
use Rattle.octets.proofs.Runs.{put_one, put_whole, length_put, length_part, both_true, both_one, same_true, same_refl, same_lengths}
use Rattle.octets.proofs.Numbers.{length_bytes, number_bytes, number_below, octets_part}
use Rattle.settings.specs.Settings.{last_clock}
use Rattle.record.specs.Layout.{identifier_size, address_size, port_size, signature_size}
use Rattle.record.specs.Fields.{together, widths, total, parts}
use Rattle.record.specs.Ads.{Ad, ad_fields}
use Rattle.record.proofs.Fields.{record_laid, fields_first, length_together}
use Rattle.record.proofs.Ads.{Sized}
use Rattle.wire.specs.Wire.{varint, varint_value, wire_varint, wire_len, tag, varint_field, len_field}
use Rattle.advertisement.specs.Advertisement.{service_field, peer_field, addrs_field, signature_field, timestamp_field, ip4, tcp, tag_size, length_size, code_size, service_at, peer_at, address_at, signature_at, port_at, timestamp_at, multiaddr, message, second, last_second, epoch_end, fields_in, accepted, most_size}
use Rattle.wire.proofs.Varints.{varint_one, value_back, varint_some, varint_short, length_varint_field, length_len_field}

-- ---- a multiaddr

multiaddr_bytes : (x : List ℕ) (n : ℕ) → multiaddr x n ≡ ip4 ∷ (x ++ (tcp ∷ bytes port_size n))
unfolding multiaddr
multiaddr_bytes x n = rw (varint_one ip4 (omega arith), varint_one tcp (omega arith))

pub length_multiaddr : (x : List ℕ) (n : ℕ) → length (multiaddr x n) ≡ code_size + length x + code_size + port_size
length_multiaddr x n = rw multiaddr_bytes (simp (length-append, length_bytes) (omega arith))

pub multiaddr_laid : (x : List ℕ) (n : ℕ) → length x ≡ address_size
    → put (code_size + address_size + code_size) (bytes port_size n) (set (put code_size x (set (replicate {A = ℕ} (code_size + address_size + code_size + port_size) 0) 0 ip4)) (code_size + address_size) tcp) ≡ multiaddr x n
multiaddr_laid x n e =
    let out : List ℕ = replicate (code_size + address_size + code_size + port_size) 0 in
    let ws = address_size ∷ code_size ∷ port_size ∷ [] in
    let fs = x ∷ (tcp ∷ []) ∷ bytes port_size n ∷ [] in
    let w : widths fs ≡ ws = rw (e, length_bytes port_size n) in
    let l = length-set out 0 ip4 in
    let k = length_put code_size x (set out 0 ip4) (omega arith) in
    let whole : length (ip4 ∷ together fs) ≡ length out = ap suc (length_together fs ∙ ap total w) in
    ap (put (code_size + address_size + code_size) (bytes port_size n)) (put_one (code_size + address_size) tcp (put code_size x (set out 0 ip4)) (omega arith))
    ∙ record_laid ip4 ws fs out w (omega arith) ∙ put_whole (ip4 ∷ together fs) out whole ∙ sym (multiaddr_bytes x n)

-- ---- the message, byte for byte

pub message_length : (f : Ad) → length (message f)
    ≡ length (len_field service_field f.service) + (length (len_field peer_field f.peer)
    + (length (len_field addrs_field (multiaddr f.address f.port)) + (length (len_field signature_field f.signature) + length (varint_field timestamp_field f.stamp))))
unfolding message
message_length f = simp length-append

-- a LEN field whose tag and length are each one byte
len_short : (field t n : ℕ) (bs : List ℕ) → field * 8 + wire_len ≡ t → t < 128 → length bs ≡ n → n < 128 → len_field field bs ≡ t ∷ n ∷ bs
unfolding len_field tag
len_short field t n bs e h l k = rw (e, l, varint_one t h, varint_one n k)

-- the tags, lengths and codes as bytes, with the fields between them, up to the timestamp's varint
abbrev pub pieces : Ad → List (List ℕ)
pieces f =
    (0x0a ∷ 0x20 ∷ [])
    ∷ f.service
    ∷ (0x12 ∷ 0x20 ∷ [])
    ∷ f.peer
    ∷ (0x1a ∷ 0x08 ∷ 0x04 ∷ [])
    ∷ f.address
    ∷ (0x06 ∷ [])
    ∷ bytes port_size f.port
    ∷ (0x22 ∷ 0x40 ∷ [])
    ∷ f.signature
    ∷ (0x30 ∷ [])
    ∷ []

-- pieces one behind the other, before a list
abbrev before : List (List ℕ) → List ℕ → List ℕ
before [] v = v
before (p ∷ ps) v = p ++ before ps v

before_together : (ps : List (List ℕ)) (v : List ℕ) → before ps v ≡ together ps ++ v
before_together [] v = refl
before_together (p ∷ []) v = refl
before_together (p ∷ q ∷ ps) v = ap (λ (l : List ℕ). p ++ l) (before_together (q ∷ ps) v) ∙ sym (append_assoc p (together (q ∷ ps)) v)

pub message_bytes : (f : Ad) → Sized address_size f → message f ≡ together (pieces f) ++ varint f.stamp
unfolding message varint_field tag
message_bytes f h =
    let place : length (multiaddr f.address f.port) ≡ 0x08 = length_multiaddr f.address f.port ∙ omega (arith, h.address) in
    let rest : List ℕ = 0x22 ∷ 0x40 ∷ (f.signature ++ (0x30 ∷ varint f.stamp)) in
    rw (
      len_short service_field 0x0a 0x20 f.service refl (omega arith) h.service (omega arith),
      len_short peer_field 0x12 0x20 f.peer refl (omega arith) h.peer (omega arith),
      len_short addrs_field 0x1a 0x08 (multiaddr f.address f.port) refl (omega arith) place (omega arith),
      len_short signature_field 0x22 0x40 f.signature refl (omega arith) h.signature (omega arith),
      multiaddr_bytes f.address f.port,
      varint_one 0x30 (omega arith),
    )
    (ap (λ (l : List ℕ). 0x0a ∷ 0x20 ∷ (f.service ++ (0x12 ∷ 0x20 ∷ (f.peer ++ (0x1a ∷ 0x08 ∷ 0x04 ∷ l)))))
    (append_assoc f.address (0x06 ∷ bytes port_size f.port) rest)
    ∙ before_together (pieces f) (varint f.stamp))

abbrev piece_widths : List ℕ
piece_widths =
    service_at
    ∷ identifier_size
    ∷ (tag_size + length_size)
    ∷ identifier_size
    ∷ (tag_size + length_size + code_size)
    ∷ address_size
    ∷ code_size
    ∷ port_size
    ∷ (tag_size + length_size)
    ∷ signature_size
    ∷ tag_size
    ∷ []

piece_widths_lem : (f : Ad) → Sized address_size f → widths (pieces f) ≡ piece_widths
piece_widths_lem f h = rw (h.service, h.peer, h.address, length_bytes port_size f.port, h.signature)

front_long : (f : Ad) → Sized address_size f → length (together (pieces f)) ≡ timestamp_at
front_long f h = length_together (pieces f) ∙ ap total (piece_widths_lem f h)

pub length_message : (f : Ad) → Sized address_size f → length (message f) ≡ timestamp_at + length (varint f.stamp)
length_message f h = rw (message_bytes f h, length-append, front_long f h)

-- 146 to 150 bytes, where the second is below 2^35
pub message_most : (f : Ad) → Sized address_size f → f.stamp < 2 ^ 35 → length (message f) ≤ most_size
message_most f h b = let v = varint_short 4 f.stamp (omega arith) in rw (length_message f h) (omega arith)

-- ---- its fields again

-- fields of the pieces, and of what stands behind them
abbrev fields_from : List (List ℕ) → List ℕ → Ad
fields_from ps behind = ad_fields (get_or ps 1 []) (get_or ps 3 []) (get_or ps 5 []) (number (get_or ps 7 [])) (varint_value behind) (get_or ps 9 [])

pub fields_again : (f : Ad) → Sized address_size f → f.port < 2 ^ 16 → f.stamp < 2 ^ 64 → fields_in (message f) ≡ f
unfolding fields_in
fields_again f h hn ht =
    let m = together (pieces f) ++ varint f.stamp in
    let front : parts 0 piece_widths m ≡ pieces f = fields_first piece_widths (pieces f) (varint f.stamp) (piece_widths_lem f h) in
    let behind : drop timestamp_at m ≡ varint f.stamp = drop_at (together (pieces f)) (varint f.stamp) timestamp_at (front_long f h) in
    let all : fields_from (parts 0 piece_widths m) (drop timestamp_at m) ≡ f =
    ap (λ (ps : List (List ℕ)). fields_from ps (drop timestamp_at m)) front ∙ ap (fields_from (pieces f)) behind
    ∙ rw (number_bytes port_size f.port hn, value_back f.stamp (omega arith)) in
    rw (message_bytes f h) all

-- ---- what is accepted

-- a second is within the clock's range exactly up to 1,099,511,627
pub seconds_of_clock : (t : ℕ) → (t ≤ 1099511627 → t * second ≤ last_clock) × (t * second ≤ last_clock → t ≤ 1099511627)
seconds_of_clock t = (λ h. omega arith, λ h. omega arith)

-- a message is accepted exactly when it is the message of some fields of the table's lengths, with a port, and a second from the epoch to
-- 1,099,511,627 behind it
pub record IsMessage (epoch : ℕ) (m : List ℕ) : Type 0 where
  pub fields : Ad
  pub sized : Sized address_size fields
  pub port_fits : fields.port < 2 ^ 16
  pub port_is : fields.port ≡ 0 → ⊥
  pub since : epoch ≤ fields.stamp
  pub until : fields.stamp ≤ epoch + 1099511627
  pub is : message fields ≡ m

-- the second alone decides of a message of fields that have a port: both sides of both edges
pub second_decides : (epoch : ℕ) (f : Ad) → Sized address_size f → f.port < 2 ^ 16 → (f.port ≡ 0 → ⊥) → f.stamp < 2 ^ 64
    → accepted epoch (message f) ≡ both (leb epoch f.stamp) (leb f.stamp (epoch + 1099511627))
unfolding accepted
second_decides epoch f h hn hp ht = rw (fields_again f h hn ht, same_refl (message f), ne_eqb f.port 0 hp)

pub message_accepted : (epoch : ℕ) (m : List ℕ) → epoch < epoch_end → IsMessage epoch m → accepted epoch m ≡ true
message_accepted epoch m e i =
    let f = i.fields in
    let t = second_decides epoch f i.sized i.port_fits i.port_is (omega (arith, i.until)) in
    rw (← i.is) (t ∙ rw (le-leb epoch f.stamp i.since, le-leb f.stamp (epoch + 1099511627) i.until))

-- what the definition says of an accepted message
pub record Accepted (epoch : ℕ) (m : List ℕ) : Type 0 where
  pub is : message (fields_in m) ≡ m
  pub port_is : number (part port_at port_size m) ≡ 0 → ⊥
  pub since : epoch ≤ varint_value (drop timestamp_at m)
  pub until : varint_value (drop timestamp_at m) ≤ epoch + last_second

pub accepted_facts : (epoch : ℕ) (m : List ℕ) → accepted epoch m ≡ true → Accepted epoch m
unfolding accepted fields_in
accepted_facts epoch m e =
    let p = both_true _ _ e in
    let q = both_true _ _ p.1 in
    let r = both_true _ _ q.1 in
    record { is = same_true _ _ p.0; port_is = eqb-false _ _ (not-true _ q.0); since = leb-true _ _ r.0; until = leb-true _ _ r.1 }

-- ---- an accepted message has all its fields, whatever bytes come

len_least : (field : ℕ) (bs : List ℕ) → tag_size + length_size + length bs ≤ length (len_field field bs)
len_least field bs =
    let l = length_len_field field bs in
    let t = varint_some (field * 8 + wire_len) in
    let v = varint_some (length bs) in
    omega arith

message_least : (f : Ad) → 14 + length f.service + length f.peer + length f.address + length f.signature ≤ length (message f)
message_least f =
    let all = message_length f in
    let s = len_least service_field f.service in
    let p = len_least peer_field f.peer in
    let a = len_least addrs_field (multiaddr f.address f.port) in
    let l = length_multiaddr f.address f.port in
    let g = len_least signature_field f.signature in
    let t = length_varint_field timestamp_field f.stamp in
    let u = varint_some (timestamp_field * 8 + wire_varint) in
    let v = varint_some f.stamp in
    omega arith

-- a part that is shorter than it should be ends where the list does
part_fits : (at n k : ℕ) (s : List ℕ) → at < k → k + length (part at n s) ≤ length s → at + n ≤ length s
unfolding part
part_fits at n k s h l =
    let e : length (part at n s) ≡ min n (length s - at) = simp (length-take, length-drop) in
    omega arith

-- a list that is the message of what stands in it at these places is long enough to have them
fields_fit : (m : List ℕ) → message (fields_in m) ≡ m → timestamp_at < length m
unfolding fields_in
fields_fit m e =
    let l : 14 + length (part service_at identifier_size m) + length (part peer_at identifier_size m) + length (part address_at address_size m)
    + length (part signature_at signature_size m) ≤ length m = rw e at (message_least (fields_in m)) in
    go l
  where
    go : 14 + length (part service_at identifier_size m) + length (part peer_at identifier_size m) + length (part address_at address_size m)
        + length (part signature_at signature_size m) ≤ length m → timestamp_at < length m
    go l =
        let s = length_part service_at identifier_size m (part_fits service_at identifier_size 14 m (omega arith) (omega arith)) in
        let p = length_part peer_at identifier_size m (part_fits peer_at identifier_size 46 m (omega arith) (omega arith)) in
        let a = length_part address_at address_size m (part_fits address_at address_size 78 m (omega arith) (omega arith)) in
        let g = length_part signature_at signature_size m (part_fits signature_at signature_size 82 m (omega arith) (omega arith)) in
        omega arith

-- and where it is, its fields have their lengths, whatever the port and the stamp are
pub parts_sized : (m : List ℕ) (n t : ℕ) → timestamp_at < length m
    → Sized address_size (ad_fields (part service_at identifier_size m) (part peer_at identifier_size m) (part address_at address_size m) n t (part signature_at signature_size m))
parts_sized m n t h =
    record {
      service = length_part service_at identifier_size m (omega arith);
      peer = length_part peer_at identifier_size m (omega arith);
      address = length_part address_at address_size m (omega arith);
      signature = length_part signature_at signature_size m (omega arith);
    }

fields_sized : (m : List ℕ) → timestamp_at < length m → Sized address_size (fields_in m)
unfolding fields_in
fields_sized m h = parts_sized m _ _ h

-- the fields read one by one
pub fields_read : (m : List ℕ) (n t : ℕ) → n ≡ number (part port_at port_size m) → t ≡ varint_value (drop timestamp_at m)
    → ad_fields (part service_at identifier_size m) (part peer_at identifier_size m) (part address_at address_size m) n t (part signature_at signature_size m) ≡ fields_in m
unfolding fields_in
fields_read m n t en et = rw (en, et)

pub accepted_sized : (epoch : ℕ) (m : List ℕ) → Accepted epoch m → Sized address_size (fields_in m)
accepted_sized epoch m a = fields_sized m (fields_fit m a.is)

-- a port that stands in bytes is of two bytes
pub port_below : (at : ℕ) (s : List ℕ) → Octets s → at + port_size ≤ length s → number (part at port_size s) < 2 ^ 16
port_below at s o h =
    let l = length_part at port_size s h in
    let b = number_below (part at port_size s) (octets_part at port_size s o) in
    rw l at b

pub accepted_port : (epoch : ℕ) (m : List ℕ) → Octets m → Accepted epoch m → (fields_in m).port < 2 ^ 16
unfolding fields_in
accepted_port epoch m o a = let h = fields_fit m a.is in port_below port_at m o (omega arith)

pub accepted_message : (epoch : ℕ) (m : List ℕ) → Octets m → accepted epoch m ≡ true → IsMessage epoch m
unfolding fields_in
accepted_message epoch m o e =
    let a = accepted_facts epoch m e in
    record {
      fields = fields_in m;
      sized = accepted_sized epoch m a;
      port_fits = accepted_port epoch m o a;
      port_is = a.port_is;
      since = a.since;
      until = a.until;
      is = a.is;
    }

-- ---- the definition, test by test

pub record Bounds (m : List ℕ) : Type 0 where
  pub least : timestamp_at < length m
  pub most : length m ≤ most_size

pub accepted_bounds : (epoch : ℕ) (m : List ℕ) → epoch < epoch_end → Accepted epoch m → Bounds m
unfolding fields_in
accepted_bounds epoch m h a =
    let l = fields_fit m a.is in
    record { least = l; most = rw a.is at (message_most (fields_in m) (fields_sized m l) (omega (arith, a.until))) }

refuted : (b : Bool) → (b ≡ true → ⊥) → false ≡ b
refuted true h = absurd (h refl)
refuted false h = refl

module _ (epoch : ℕ) (m : List ℕ) where
  pub short_refused : length m ≤ timestamp_at → false ≡ accepted epoch m
  short_refused h = refuted (accepted epoch m) (λ e. let l = fields_fit m (accepted_facts epoch m e).is in omega arith)

  pub long_refused : epoch < epoch_end → most_size < length m → false ≡ accepted epoch m
  long_refused r h = refuted (accepted epoch m) (λ e. let b = accepted_bounds epoch m r (accepted_facts epoch m e) in omega (arith, b.most))

  pub early_refused : varint_value (drop timestamp_at m) < epoch → false ≡ accepted epoch m
  early_refused h = refuted (accepted epoch m) (λ e. let a = accepted_facts epoch m e in omega (arith, a.since))

  pub late_refused : epoch + last_second < varint_value (drop timestamp_at m) → false ≡ accepted epoch m
  late_refused h = refuted (accepted epoch m) (λ e. let a = accepted_facts epoch m e in omega (arith, a.until))

  pub port_refused : number (part port_at port_size m) ≡ 0 → false ≡ accepted epoch m
  port_refused h = refuted (accepted epoch m) (λ e. (accepted_facts epoch m e).port_is h)

  -- with a port and a second in its range it is left to the comparison
  pub judged : (number (part port_at port_size m) ≡ 0 → ⊥) → epoch ≤ varint_value (drop timestamp_at m) → varint_value (drop timestamp_at m) ≤ epoch + last_second
      → accepted epoch m ≡ same (message (fields_in m)) m
  unfolding accepted fields_in
  judged p q r = rw (ne_eqb _ 0 p, le-leb _ _ q, le-leb _ _ r) (both_one _)

  -- the message made again, w, is what the fields make, and is compared with the message
  pub other_length : accepted epoch m ≡ same (message (fields_in m)) m → (n : ℕ) → n ≡ length (message (fields_in m)) → (n ≡ length m → ⊥) → false ≡ accepted epoch m
  other_length j n e h = sym (j ∙ same_lengths (message (fields_in m)) m (λ l. h (e ∙ l)))

-- ---- what a buffer holds that it was put into

pub taken : (p s : List ℕ) (n : ℕ) → n ≡ 0 + length p → take n (put 0 p s) ≡ p
unfolding put
taken p s n e = take_at p (drop (0 + length p) s) n (omega arith)
