-- What the two calls promise together (document 02, order 6): under one epoch, what was written is read as the ad, an ad that was read is written as its
-- message, and no two messages give one ad.
use mathlib.Core.Path.{◌≡◌, refl, sym, ap, ◌∙◌}
use mathlib.Core.Bool.{true}
use mathlib.Core.List.{List}
use Prim.Native.Nat.{ℕ, ◌+◌, ◌-◌, ◌*◌, ◌/◌, ◌%◌, ◌^◌, ◌≤◌, ◌<◌}
use native.Mathlib.Omega.{arith}
use lib.ListN.{length, take, length-drop}
use borrow.Author.Tests.{ltb-true, not-false, eq-eqb, lt-ltb, le-leb, le-ltb}
use Rattle.octets.specs.Numbers.{Octets}
use Rattle.octets.specs.Runs.{put}
use Rattle.octets.proofs.Runs.{length_part}
use Rattle.octets.proofs.Numbers.{octets_drop}
use Rattle.settings.specs.Settings.{last_clock}
use Rattle.record.specs.Layout.{ad_kind, identifier_size, address_size, signature_size, ad_size, service_at, peer_at, address_at, port_at, signature_at, ad_body}
use Rattle.record.specs.Refusals.{refusal, reply}
use Rattle.record.specs.Ads.{Ad, ad_in, ad_of, body_of}
use Rattle.record.proofs.Refusals.{none_refused, replied_done, replied_wrote}
use Rattle.record.proofs.Ads.{Sized, ad_accepted, fields_back, written_passes, passed_bytes}
use Rattle.advertisement.specs.Advertisement.{message, second, epoch_end, fields_in, accepted}
use Rattle.message.specs.Calls.{stamped, in_unix, since_epoch, read_rows, ad_from, message_read, message_of, stamp_of, has_message, write_rows, buffer_of, write_answer, write_buffer, MessageWritten}
use Rattle.message.specs.Written.{Length}
use Rattle.advertisement.proofs.Messages.{fields_again, second_decides, accepted_facts, accepted_sized, accepted_port, port_below, taken}
use Rattle.message.proofs.Answers.{has_facts, wrote_it, write_done}

-- ---- a stamp in milliseconds and in Unix seconds

unix_back : (epoch : ℕ) (f : Ad) → f.stamp % second ≡ 0 → since_epoch epoch (in_unix epoch f) ≡ f
unfolding since_epoch in_unix
unix_back epoch f h =
    let e : (epoch + f.stamp / second - epoch) * second ≡ f.stamp = omega arith in
    ap (λ (t : ℕ). stamped t f) e

epoch_back : (epoch : ℕ) (f : Ad) → epoch ≤ f.stamp → in_unix epoch (since_epoch epoch f) ≡ f
unfolding since_epoch in_unix
epoch_back epoch f h =
    let e : epoch + (f.stamp - epoch) * second / second ≡ f.stamp = omega arith in
    ap (λ (t : ℕ). stamped t f) e

-- ---- what was written is read

fields_of_ad : (ad : List ℕ) → length ad ≡ ad_size address_size → Sized address_size (ad_in address_size (ad_body ad))
unfolding ad_in
fields_of_ad ad h =
    let l = length-drop 1 ad in
    record {
      service = length_part service_at identifier_size (ad_body ad) (omega arith);
      peer = length_part peer_at identifier_size (ad_body ad) (omega arith);
      address = length_part address_at address_size (ad_body ad) (omega arith);
      signature = length_part (signature_at address_size) signature_size (ad_body ad) (omega arith);
    }

record ReadsBack (epoch : ℕ) (ad : List ℕ) : Type 0 where
  taken_in : accepted epoch (message_of epoch ad) ≡ true
  gives : ad_from epoch (message_of epoch ad) ≡ ad

has_reads : (epoch : ℕ) (ad : List ℕ) → Octets ad → has_message epoch ad ≡ true → ReadsBack epoch ad
unfolding message_of ad_from ad_in in_unix
has_reads epoch ad o e =
    let h = has_facts epoch ad e in
    let c = ad_accepted address_size ad_kind ad h.none in
    let f = ad_in address_size (ad_body ad) in
    let z = fields_of_ad ad c.size in
    let sized : Sized address_size (in_unix epoch f) = record { service = z.service; peer = z.peer; address = z.address; signature = z.signature } in
    let l = length-drop 1 ad in
    let n : f.port < 2 ^ 16 = port_below (port_at address_size) (ad_body ad) (octets_drop 1 ad o) (omega (arith, c.size)) in
    let t : (in_unix epoch f).stamp < 2 ^ 34 = omega (arith, h.stamp_fits, h.epoch_fits) in
    let d = second_decides epoch (in_unix epoch f) sized n c.port_is (omega arith) in
    let again = fields_again (in_unix epoch f) sized n (omega arith) in
    record {
      taken_in = d ∙ rw (le-leb epoch (in_unix epoch f).stamp (omega arith), le-leb (in_unix epoch f).stamp (epoch + 1099511627) (omega (arith, h.stamp_fits)));
      gives = ap (λ (g : Ad). ad_of ad_kind (since_epoch epoch g)) again ∙ ap (ad_of ad_kind) (unix_back epoch f h.whole) ∙ passed_bytes address_size ad_kind ad o h.none;
    }

-- reading what was written, to that length, gives the ad
pub message_reads_back : (epoch : ℕ) (ad out buffer : List ℕ) (n : ℕ) → Octets ad → length buffer ≡ ad_size address_size → write_answer epoch ad out ≡ Length n
    → message_read epoch (take n (write_buffer epoch ad out)) buffer ≡ reply 0 ad
unfolding message_read read_rows refusal buffer_of
message_reads_back epoch ad out buffer n o l e =
    let w = wrote_it epoch ad out n e in
    let b = has_reads epoch ad o w.has in
    let m : take n (buffer_of (refusal (write_rows epoch ad (length out))) (message_of epoch ad) out) ≡ message_of epoch ad = rw w.none (taken (message_of epoch ad) out n w.long) in
    let z : refusal (read_rows epoch (message_of epoch ad) (length buffer)) ≡ 0 = simp (eq-eqb _ _ l, lt-ltb _ _ (has_facts epoch ad w.has).epoch_fits, b.taken_in) in
    rw m (sym (replied_done 0 _ (ad_from epoch (message_of epoch ad)) buffer ad (sym z) refl (sym b.gives)))

-- ---- what was read is written

record WritesBack (epoch : ℕ) (m ad : List ℕ) : Type 0 where
  has : has_message epoch ad ≡ true
  is : message_of epoch ad ≡ m

-- the ad of fields in their ranges has a message, and it is theirs
module _ (epoch : ℕ) (f : Ad) (low : epoch < epoch_end) (sized : Sized address_size f) (hn : f.port < 2 ^ 16) (hp : f.port ≡ 0 → ⊥) (ht : f.stamp ≤ last_clock) where
  ad_back : ad_in address_size (body_of f) ≡ f
  ad_back = fields_back address_size f sized hn (omega arith)

  made_has : f.stamp % second ≡ 0 → has_message epoch (ad_of ad_kind f) ≡ true
  unfolding has_message ad_in
  made_has h =
      let pass = written_passes address_size ad_kind f sized hn (omega arith) hp in
      let t : stamp_of (ad_of ad_kind f) ≡ f.stamp = ap (λ (g : Ad). g.stamp) ad_back in
      rw (eq-eqb _ 0 pass, lt-ltb epoch epoch_end low, t, le-leb f.stamp last_clock ht, eq-eqb (f.stamp % second) 0 h)

  made_message : message_of epoch (ad_of ad_kind f) ≡ message (in_unix epoch f)
  unfolding message_of
  made_message = ap (λ (g : Ad). message (in_unix epoch g)) ad_back

reads_written : (epoch : ℕ) (m buffer ad : List ℕ) → Octets m → message_read epoch m buffer ≡ reply 0 ad → WritesBack epoch m ad
unfolding message_read read_rows ad_from since_epoch fields_in
reads_written epoch m buffer ad o e =
    let r = replied_wrote _ _ _ ad e in
    let p1 = none_refused _ _ _ r.none in
    let p2 = none_refused _ _ _ p1.behind in
    let p3 = none_refused _ _ _ p2.behind in
    let low = ltb-true epoch epoch_end (not-false _ p2.here) in
    let a = accepted_facts epoch m (not-false _ p3.here) in
    let z = accepted_sized epoch m a in
    let f = since_epoch epoch (fields_in m) in
    let sized : Sized address_size f = record { service = z.service; peer = z.peer; address = z.address; signature = z.signature } in
    let n = accepted_port epoch m o a in
    let t : f.stamp ≤ last_clock = omega (arith, a.until) in
    let whole : f.stamp % second ≡ 0 = omega arith in
    let w : ad_of ad_kind f ≡ ad = r.written in
    rw (← w) (record {
      has = made_has epoch f low sized n a.port_is t whole;
      is = made_message epoch f low sized n a.port_is t ∙ ap message (epoch_back epoch (fields_in m) a.since) ∙ a.is;
    })

-- writing an ad that was read gives the message's bytes
pub message_writes_back : (epoch : ℕ) (m buffer ad out : List ℕ) → Octets m → message_read epoch m buffer ≡ reply 0 ad → length m ≤ length out
    → MessageWritten epoch ad out (Length (length m)) (put 0 m out)
unfolding write_rows refusal
message_writes_back epoch m buffer ad out o e l =
    let b = reads_written epoch m buffer ad o e in
    let z : refusal (write_rows epoch ad (length out)) ≡ 0 = simp (b.has, b.is, le-ltb _ _ l) in
    write_done epoch ad out (length m) (put 0 m out) z (ap length (sym b.is)) (ap (λ (x : List ℕ). put 0 x out) (sym b.is))

-- under one epoch no two messages give one ad
pub one_message_for_an_ad : (epoch : ℕ) (m k b d ad : List ℕ) → Octets m → Octets k → message_read epoch m b ≡ reply 0 ad → message_read epoch k d ≡ reply 0 ad → m ≡ k
one_message_for_an_ad epoch m k b d ad om ok p q = sym (reads_written epoch m b ad om p).is ∙ (reads_written epoch k d ad ok q).is
