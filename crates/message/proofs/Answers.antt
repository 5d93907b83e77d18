-- What reading and writing answer (specs/Calls.antt): an ad that has a message, its fields, and the answers by the rows.
use mathlib.Core.Path.{◌≡◌, refl, ap, ◌∙◌}
use mathlib.Core.Bool.{true, false, not}
use mathlib.Core.List.{List}
use Prim.Native.Nat.{ℕ, zero, suc, ◌+◌, ◌/◌, ◌%◌, ◌^◌, ◌≤◌, ◌<◌}
use native.Mathlib.Omega.{arith}
use lib.ListN.{length, drop}
use borrow.Author.Tests.{eqb-true, ltb-true, leb-true, not-false, le-ltb}
use Rattle.octets.specs.Numbers.{number}
use Rattle.octets.specs.Runs.{part, put}
use Rattle.octets.proofs.Runs.{both_true, length_part, put_back}
use Rattle.settings.specs.Settings.{last_clock}
use Rattle.record.specs.Layout.{ad_kind, kind_size, identifier_size, address_size, port_size, stamp_size, signature_size, peer_at, address_at, stamp_at, ad_size}
use Rattle.record.specs.Refusals.{refusal, replied}
use Rattle.record.specs.Ads.{Ad, ad_fields, ad_rows}
use Rattle.record.proofs.Fields.{in_record}
use Rattle.record.proofs.Refusals.{refused, passed, differ, agree, none_refused, at_number}
use Rattle.record.proofs.Ads.{Sized, ad_accepted, read_off}
use Rattle.advertisement.specs.Advertisement.{message, second, epoch_end, timestamp_at, most_size}
use Rattle.message.specs.Calls.{stamped, in_unix, read_rows, message_read, message_of, stamp_of, has_message, write_rows, answer_of, buffer_of, write_answer, write_buffer, MessageWritten}
use Rattle.message.specs.Written.{Refused, Length}
use Rattle.wire.proofs.Varints.{varint_some}
use Rattle.advertisement.proofs.Messages.{length_message, message_most}

-- the stamp, read off the ad
pub stamp_read : (ad : List ℕ) → stamp_of ad ≡ number (part (kind_size + stamp_at address_size) stamp_size ad)
stamp_read ad = ap number (in_record (stamp_at address_size) stamp_size (kind_size + stamp_at address_size) ad (omega arith))

-- what is true of an ad that has a message
pub record Has (epoch : ℕ) (ad : List ℕ) : Type 0 where
  pub none : refusal (ad_rows address_size ad_kind ad) ≡ 0
  pub epoch_fits : epoch < epoch_end
  pub stamp_fits : stamp_of ad ≤ last_clock
  pub whole : stamp_of ad % second ≡ 0

pub has_facts : (epoch : ℕ) (ad : List ℕ) → has_message epoch ad ≡ true → Has epoch ad
unfolding has_message
has_facts epoch ad e =
    let p = both_true _ _ e in
    let q = both_true _ _ p.1 in
    let r = both_true _ _ q.1 in
    record { none = eqb-true _ _ p.0; epoch_fits = ltb-true _ _ q.0; stamp_fits = leb-true _ _ r.0; whole = eqb-true _ _ r.1 }

pub has_length : (epoch : ℕ) (ad : List ℕ) → has_message epoch ad ≡ true → length ad ≡ ad_size address_size
has_length epoch ad e = (ad_accepted address_size ad_kind ad (has_facts epoch ad e).none).size

-- the fields that are lent to its writer
pub lent_sized : (ad : List ℕ) (n t : ℕ) → length ad ≡ ad_size address_size
    → Sized address_size (ad_fields (part kind_size identifier_size ad) (part (kind_size + peer_at) identifier_size ad) (part (kind_size + address_at) address_size ad) n t (part (kind_size + address_at + port_size + stamp_size + address_size) signature_size ad))
lent_sized ad n t h =
    record {
      service = length_part kind_size identifier_size ad (omega arith);
      peer = length_part (kind_size + peer_at) identifier_size ad (omega arith);
      address = length_part (kind_size + address_at) address_size ad (omega arith);
      signature = length_part (kind_size + address_at + port_size + stamp_size + address_size) signature_size ad (omega arith);
    }

pub lent_message : (epoch : ℕ) (ad : List ℕ) (n t : ℕ) → n ≡ number (part (kind_size + address_at + address_size) port_size ad)
    → t ≡ number (part (kind_size + address_at + port_size + address_size) stamp_size ad)
    → message (ad_fields (part kind_size identifier_size ad) (part (kind_size + peer_at) identifier_size ad) (part (kind_size + address_at) address_size ad) n (epoch + t / second) (part (kind_size + address_at + port_size + stamp_size + address_size) signature_size ad)) ≡ message_of epoch ad
unfolding message_of in_unix
lent_message epoch ad n t en et =
    ap (λ (f : Ad). message (stamped (epoch + f.stamp / second) f))
    (read_off address_size ad (part kind_size identifier_size ad) (part (kind_size + peer_at) identifier_size ad) (part (kind_size + address_at) address_size ad)
    (part (kind_size + address_at + port_size + stamp_size + address_size) signature_size ad) n t refl refl refl en et refl)

pub record Sizes (m : List ℕ) : Type 0 where
  pub least : timestamp_at < length m
  pub most : length m ≤ most_size

pub message_sizes : (epoch : ℕ) (ad : List ℕ) → has_message epoch ad ≡ true → Sizes (message_of epoch ad)
message_sizes epoch ad e =
    let h = has_facts epoch ad e in
    let n = number (part (kind_size + address_at + address_size) port_size ad) in
    let t = number (part (kind_size + address_at + port_size + address_size) stamp_size ad) in
    let r = stamp_read ad in
    let f = lent_sized ad n (epoch + t / second) (has_length epoch ad e) in
    rw (← lent_message epoch ad n t refl refl)
    (record { least = rw (length_message _ f) (omega (arith, varint_some (epoch + t / second))); most = message_most _ f (omega (arith, h.stamp_fits, h.epoch_fits)) })

-- ---- of two refusals the earlier in the list is told: reading 2, 16, 15; writing 16, 2

pub buffer_told_first : (epoch : ℕ) (m out : List ℕ) → (length out ≡ 143 → ⊥) → (message_read epoch m out).number ≡ 2
unfolding message_read read_rows replied
buffer_told_first epoch m out h =
    let told : refusal (read_rows epoch m (length out)) ≡ 2 = refused 2 _ (differ (length out) (ad_size address_size) h) in
    rw told

pub epoch_told_next : (epoch : ℕ) (m out : List ℕ) → length out ≡ 143 → 2 ^ 33 ≤ epoch → (message_read epoch m out).number ≡ 16
unfolding message_read read_rows replied
epoch_told_next epoch m out h late =
    let told : refusal (read_rows epoch m (length out)) ≡ 16 =
    passed 2 _ (agree (length out) (ad_size address_size) h) ∙ refused 16 _ (ap not (le-ltb epoch epoch_end late)) in
    rw told

pub unfit_told_first : (epoch : ℕ) (ad out : List ℕ) → has_message epoch ad ≡ false → write_answer epoch ad out ≡ Refused 16
unfolding write_rows answer_of
unfit_told_first epoch ad out h =
    let told : refusal (write_rows epoch ad (length out)) ≡ 16 = refused 16 _ (ap not h) in
    rw told

-- ---- what was written

-- an answer that is a length
pub record WroteIt (epoch : ℕ) (ad out : List ℕ) (n : ℕ) : Type 0 where
  pub has : has_message epoch ad ≡ true
  pub long : n ≡ 0 + length (message_of epoch ad)
  pub none : refusal (write_rows epoch ad (length out)) ≡ 0

answered_length : (r k n : ℕ) → answer_of r k ≡ Length n → (r ≡ 0) × (k ≡ n)
unfolding answer_of
answered_length zero k n e = (refl, cc)
answered_length (suc r) k n e = let z : ◌≡◌ {A = ℕ} 0 1 = cc in absurd (omega arith)

pub wrote_it : (epoch : ℕ) (ad out : List ℕ) (n : ℕ) → write_answer epoch ad out ≡ Length n → WroteIt epoch ad out n
unfolding write_rows
wrote_it epoch ad out n e =
    let a = answered_length _ _ n e in
    let p = none_refused _ _ _ a.0 in
    record { has = not-false _ p.here; long = omega (arith, a.1); none = a.0 }

-- a message has 146 to 150 bytes
pub written_sizes : (epoch : ℕ) (ad out : List ℕ) (n : ℕ) → write_answer epoch ad out ≡ Length n → (146 ≤ n) × (n ≤ 150)
written_sizes epoch ad out n e =
    let w = wrote_it epoch ad out n e in
    let s = message_sizes epoch ad w.has in
    (omega (arith, w.long, s.least), omega (arith, w.long, s.most))

-- the bytes behind the message stay
pub later_bytes_stay : (epoch : ℕ) (ad out : List ℕ) (n : ℕ) → write_answer epoch ad out ≡ Length n → drop n (write_buffer epoch ad out) ≡ drop n out
unfolding buffer_of
later_bytes_stay epoch ad out n e =
    let w = wrote_it epoch ad out n e in
    rw (w.none, w.long) (put_back 0 out (omega arith) (message_of epoch ad))

-- the answers
pub write_refused : (epoch : ℕ) (ad out : List ℕ) (r : ℕ) → r ≡ refusal (write_rows epoch ad (length out)) → (r ≡ 0 → ⊥) → MessageWritten epoch ad out (Refused r) out
unfolding answer_of buffer_of
write_refused epoch ad out r e h =
    let n = refusal (write_rows epoch ad (length out)) in
    let m = message_of epoch ad in
    record {
      answered = at_number (λ k. answer_of k (length m)) (λ k. Refused k) (λ k. refl) r n e h;
      leaves = at_number (λ k. buffer_of k m out) (λ k. out) (λ k. refl) r n e h;
    }

pub write_done : (epoch : ℕ) (ad out : List ℕ) (n : ℕ) (left : List ℕ) → refusal (write_rows epoch ad (length out)) ≡ 0 → n ≡ length (message_of epoch ad)
    → left ≡ put 0 (message_of epoch ad) out → MessageWritten epoch ad out (Length n) left
unfolding answer_of buffer_of
write_done epoch ad out n left e l b = record { answered = rw (e, l); leaves = rw (e, b) }
