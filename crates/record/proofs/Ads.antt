-- Laws of an advertisement's record (specs/Ads.antt), over the length of an address: what is written field by field is the record; the record and the fields
-- give each other back; and what that says of the public calls.
use mathlib.Core.Path.{◌≡◌, refl, sym, ap, ◌∙◌}
use mathlib.Core.List.{List, [], ◌∷◌}
use Prim.Native.Nat.{ℕ, suc, ◌+◌, ◌<◌, ◌^◌}
use native.Mathlib.Omega.{arith}
use lib.ListN.{length, set, get_or, length-drop}
use borrow.Author.Tests.{eqb-false, eq-eqb, ne_eqb}
use Rattle.octets.specs.Numbers.{number, bytes, Octets}
use Rattle.octets.specs.Runs.{part, put}
use Rattle.octets.proofs.Runs.{length_part, put_whole}
use Rattle.octets.proofs.Numbers.{length_bytes, number_bytes, bytes_number_part, octets_drop}
use Rattle.record.specs.Layout.{ad_kind_v6, kind_of, kind_size, identifier_size, address_size_v6, port_size, stamp_size, signature_size, service_at, peer_at, address_at, port_at, stamp_at, signature_at, ad_size, body_size, port, ad_body}
use Rattle.record.specs.Fields.{widths, total}
use Rattle.record.specs.Refusals.{refusal, beside, reply}
use Rattle.record.specs.Ads.{Ad, AdRead, ad_fields, ad_parts, ad_widths, ad_in, body_of, ad_of, ad_rows, no_ad, ad_given, ad_read, ad_write_rows, ad_written}
use Rattle.record.proofs.Fields.{laid, length_together, fields_all, bytes_all, record_laid, in_record, opened}
use Rattle.record.proofs.Refusals.{none_refused, not_differ, beside_none, beside_number, replied_done, replied_wrote}

-- every field has the table's length
pub record Sized (a : ℕ) (f : Ad) : Type 0 where
  pub service : length f.service ≡ identifier_size
  pub peer : length f.peer ≡ identifier_size
  pub address : length f.address ≡ a
  pub signature : length f.signature ≡ signature_size

ad_widths_lem : (a : ℕ) (f : Ad) → Sized a f → widths (ad_parts f) ≡ ad_widths a
ad_widths_lem a f h =
    rw (h.service, h.peer, h.address, length_bytes port_size f.port, length_bytes stamp_size f.stamp, h.signature)

length_body : (a : ℕ) (f : Ad) → Sized a f → length (body_of f) ≡ body_size a
unfolding body_of
length_body a f h = length_together (ad_parts f) ∙ ap total (ad_widths_lem a f h) ∙ omega arith

-- the fields put one behind the other; those behind the address stand where code has them, its length added last
pub ad_laid : (a kind : ℕ) (f : Ad) (out : List ℕ) → Sized a f → length out ≡ ad_size a
    → put (kind_size + address_at + port_size + stamp_size + a) f.signature
    (put (kind_size + address_at + port_size + a) (bytes stamp_size f.stamp)
    (put (kind_size + address_at + a) (bytes port_size f.port)
    (put (kind_size + address_at) f.address (put (kind_size + peer_at) f.peer (put kind_size f.service (set out 0 kind))))))
    ≡ ad_of kind f
unfolding body_of
ad_laid a kind f out h e =
    let whole = put_whole (ad_of kind f) out (ap suc (length_body a f h) ∙ omega arith) in
    let all = record_laid kind (ad_widths a) (ad_parts f) out (ad_widths_lem a f h) (omega arith) in
    at (kind_size + address_at + port_size + a) (kind_size + address_at + port_size + stamp_size + a) (omega arith) (omega arith) (all ∙ whole)
  where
    at : (i j : ℕ) → i ≡ kind_size + address_at + a + port_size → j ≡ kind_size + address_at + a + port_size + stamp_size
        → laid kind_size (ad_widths a) (ad_parts f) (set out 0 kind) ≡ ad_of kind f
        → put j f.signature (put i (bytes stamp_size f.stamp) (laid kind_size (identifier_size ∷ identifier_size ∷ a ∷ port_size ∷ []) (ad_parts f) (set out 0 kind))) ≡ ad_of kind f
    at i j p q t = rw (p, q) t

-- the fields read one by one
pub read_off : (a : ℕ) (ad s p x g : List ℕ) (n t : ℕ) → s ≡ part kind_size identifier_size ad → p ≡ part (kind_size + peer_at) identifier_size ad
    → x ≡ part (kind_size + address_at) a ad → n ≡ number (part (kind_size + address_at + a) port_size ad)
    → t ≡ number (part (kind_size + address_at + port_size + a) stamp_size ad) → g ≡ part (kind_size + address_at + port_size + stamp_size + a) signature_size ad
    → ad_fields s p x n t g ≡ ad_in a (ad_body ad)
unfolding ad_in
read_off a ad s p x g n t hs hp hx hn ht hg =
    let es = in_record service_at identifier_size kind_size ad (omega arith) in
    let ep = in_record peer_at identifier_size (kind_size + peer_at) ad (omega arith) in
    let ex = in_record address_at a (kind_size + address_at) ad (omega arith) in
    let en = in_record (port_at a) port_size (kind_size + address_at + a) ad (omega arith) in
    let et = in_record (stamp_at a) stamp_size (kind_size + address_at + port_size + a) ad (omega arith) in
    let eg = in_record (signature_at a) signature_size (kind_size + address_at + port_size + stamp_size + a) ad (omega arith) in
    rw (es, ep, ex, en, et, eg) (cc)

-- what an ad without a refusal is
pub record AcceptedAd (a kind : ℕ) (ad : List ℕ) : Type 0 where
  pub size : length ad ≡ ad_size a
  pub kind_is : kind_of ad ≡ kind
  pub port_is : port a (ad_body ad) ≡ 0 → ⊥

pub ad_accepted : (a kind : ℕ) (ad : List ℕ) → refusal (ad_rows a kind ad) ≡ 0 → AcceptedAd a kind ad
unfolding ad_rows
ad_accepted a kind ad e =
    let p1 = none_refused _ _ _ e in
    let p2 = none_refused _ _ _ p1.behind in
    let p3 = none_refused _ _ _ p2.behind in
    record { size = not_differ _ _ p1.here; kind_is = not_differ _ _ p2.here; port_is = eqb-false _ _ p3.here }

-- what fields that can be written are
pub record Writable (a : ℕ) (out : List ℕ) (f : Ad) : Type 0 where
  pub size : length out ≡ ad_size a
  pub sized : Sized a f
  pub port_is : f.port ≡ 0 → ⊥

pub writable : (a : ℕ) (out : List ℕ) (f : Ad) (r : ℕ) → r ≡ refusal (ad_write_rows a out f.service f.peer f.address f.port f.signature) → r ≡ 0 → Writable a out f
unfolding ad_write_rows
writable a out f r e z =
    let p1 = none_refused _ _ _ (sym e ∙ z) in
    let p2 = none_refused _ _ _ p1.behind in
    let p3 = none_refused _ _ _ p2.behind in
    let p4 = none_refused _ _ _ p3.behind in
    let p5 = none_refused _ _ _ p4.behind in
    let p6 = none_refused _ _ _ p5.behind in
    record {
      size = not_differ _ _ p1.here;
      sized = record { service = not_differ _ _ p2.here; peer = not_differ _ _ p3.here; address = not_differ _ _ p4.here; signature = not_differ _ _ p5.here };
      port_is = eqb-false _ _ p6.here;
    }

-- ---- the fields of a body and the body of fields give each other back

-- an ad of its fields as bytes
ad_from : List (List ℕ) → Ad
ad_from fs = ad_fields (get_or fs 0 []) (get_or fs 1 []) (get_or fs 2 []) (number (get_or fs 3 [])) (number (get_or fs 4 [])) (get_or fs 5 [])

pub fields_back : (a : ℕ) (f : Ad) → Sized a f → f.port < 256 ^ port_size → f.stamp < 256 ^ stamp_size → ad_in a (body_of f) ≡ f
unfolding ad_in body_of ad_from
fields_back a f h hn ht =
    ap ad_from (fields_all (ad_widths a) (ad_parts f) (ad_widths_lem a f h)) ∙ rw (number_bytes port_size f.port hn, number_bytes stamp_size f.stamp ht)

body_back : (a : ℕ) (body : List ℕ) → Octets body → length body ≡ body_size a → body_of (ad_in a body) ≡ body
unfolding ad_in body_of
body_back a body o l =
    let en = bytes_number_part (port_at a) port_size body (omega arith) o in
    let et = bytes_number_part (stamp_at a) stamp_size body (omega arith) o in
    rw (en, et) (bytes_all (ad_widths a) body (omega arith))

-- ---- the record, its check and its fields

-- what is written of fields with a port passes the check, and reads back as the fields
pub written_passes : (a kind : ℕ) (f : Ad) → Sized a f → f.port < 256 ^ port_size → f.stamp < 256 ^ stamp_size → (f.port ≡ 0 → ⊥) → refusal (ad_rows a kind (ad_of kind f)) ≡ 0
unfolding refusal ad_rows ad_in
written_passes a kind f h hn ht hp =
    let l : length (ad_of kind f) ≡ ad_size a = ap suc (length_body a f h) ∙ omega arith in
    let e : port a (body_of f) ≡ f.port = ap (λ (x : Ad). x.port) (fields_back a f h hn ht) in
    simp (eq-eqb _ _ l, eq-eqb kind kind refl, ne_eqb _ _ (λ z. hp (sym e ∙ z)))

-- the bytes of an ad that passes are those that its fields are written as
pub passed_bytes : (a kind : ℕ) (ad : List ℕ) → Octets ad → refusal (ad_rows a kind ad) ≡ 0 → ad_of kind (ad_in a (ad_body ad)) ≡ ad
passed_bytes a kind ad o e =
    let h = ad_accepted a kind ad e in
    let l : length (ad_body ad) ≡ body_size a = length-drop 1 ad ∙ omega arith in
    let b = body_back a (ad_body ad) (octets_drop 1 ad o) l in
    rw (b, ← h.kind_is) (opened ad (omega arith))

-- the fields of an ad that passes can be written
fields_pass : (a kind : ℕ) (ad out : List ℕ) → AcceptedAd a kind ad → length out ≡ ad_size a
    → let f = ad_in a (ad_body ad) in refusal (ad_write_rows a out f.service f.peer f.address f.port f.signature) ≡ 0
unfolding refusal ad_write_rows ad_in
fields_pass a kind ad out h l =
    let b : length (ad_body ad) ≡ body_size a = length-drop 1 ad ∙ omega (arith, h.size) in
    let ls = length_part service_at identifier_size (ad_body ad) (omega arith) in
    let lp = length_part peer_at identifier_size (ad_body ad) (omega arith) in
    let lx = length_part address_at a (ad_body ad) (omega arith) in
    let lg = length_part (signature_at a) signature_size (ad_body ad) (omega arith) in
    simp (eq-eqb _ _ l, eq-eqb _ _ ls, eq-eqb _ _ lp, eq-eqb _ _ lx, eq-eqb _ _ lg, ne_eqb _ _ h.port_is)

-- ---- what the public calls promise together, for an address of either length

-- what was written is read back as the same fields. The bounds are those of the types u16 and u64.
pub ad_reads_back : (a kind : ℕ) (out b : List ℕ) (f : Ad) → f.port < 2 ^ 16 → f.stamp < 2 ^ 64 → ad_written a kind out f ≡ reply 0 b → ad_read a kind b ≡ record { refusal = 0; ad = f }
unfolding ad_written ad_read beside
ad_reads_back a kind out b f hn ht e =
    let w = replied_wrote _ _ _ b e in
    let h = writable a out f 0 (sym w.none) refl in
    let p = written_passes a kind f h.sized hn ht h.port_is in
    let g = fields_back a f h.sized hn ht in
    rw (← w.written, p, g)

-- an ad that is accepted on reading is, byte for byte, what is written of the fields that reading gave
pub ad_writes_back : (a kind : ℕ) (ad out : List ℕ) → Octets ad → length out ≡ ad_size a → (ad_read a kind ad).refusal ≡ 0 → ad_written a kind out (ad_read a kind ad).ad ≡ reply 0 ad
unfolding ad_written ad_read
ad_writes_back a kind ad out o l e =
    let f = ad_in a (ad_body ad) in
    let n = refusal (ad_rows a kind ad) in
    let z : n ≡ 0 = sym (beside_number ad_given (no_ad a) (λ (r : AdRead). r.refusal) (λ m g. refl) n f) ∙ e in
    let r : beside ad_given (no_ad a) n f ≡ ad_given 0 f = sym (beside_none ad_given (no_ad a) 0 n f (sym z) refl) in
    let p = fields_pass a kind ad out (ad_accepted a kind ad z) l in
    rw r (sym (replied_done 0 _ (ad_of kind f) out ad (sym p) refl (sym (passed_bytes a kind ad o z))))

-- both for an address of IPv6, field by field: none is exchanged with another, and none is lost
pub v6_reads_back : (out b : List ℕ) (f : Ad) → f.port < 2 ^ 16 → f.stamp < 2 ^ 64 → ad_written address_size_v6 ad_kind_v6 out f ≡ reply 0 b
    → ad_read address_size_v6 ad_kind_v6 b
    ≡ record { refusal = 0; ad = record { service = f.service; peer = f.peer; address = f.address; port = f.port; stamp = f.stamp; signature = f.signature } }
v6_reads_back out b f hn ht e = ad_reads_back address_size_v6 ad_kind_v6 out b f hn ht e

pub v6_writes_back : (ad out : List ℕ) → Octets ad → length out ≡ ad_size address_size_v6 → (ad_read address_size_v6 ad_kind_v6 ad).refusal ≡ 0
    → let r = (ad_read address_size_v6 ad_kind_v6 ad).ad in ad_written address_size_v6 ad_kind_v6 out (ad_fields r.service r.peer r.address r.port r.stamp r.signature) ≡ reply 0 ad
v6_writes_back ad out o l e = ad_writes_back address_size_v6 ad_kind_v6 ad out o l e
