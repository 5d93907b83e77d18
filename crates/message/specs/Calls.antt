-- What reading and writing the message answer (document 02, order 6): the refusals in order, and what is left in the buffer.
use Rattle.std.specs.Prelude.{ℕ, zero, suc, ◌+◌, ◌-◌, ◌*◌, ◌/◌, ◌%◌, ◌≡◌, Bool, not, List, [], ◌∷◌, eqb, leb, ltb, length}
use Rattle.octets.specs.Runs.{put, both}
use Rattle.settings.specs.Settings.{last_clock}
use Rattle.record.specs.Layout.{ad_kind, address_size, ad_size, ad_body, stamp}
use Rattle.record.specs.Refusals.{Row, row, refusal, Reply, replied}
use Rattle.record.specs.Ads.{Ad, ad_fields, ad_in, ad_of, ad_rows}
use Rattle.advertisement.specs.Advertisement.{message, second, epoch_end, fields_in, accepted}
use Rattle.message.specs.Written.{Written}
use Rattle.message.specs.Written.{Refused, Length}

-- ---- a stamp in Unix seconds, and in milliseconds since an epoch that is given in Unix seconds

abbrev pub stamped : ℕ → Ad → Ad
stamped t f = ad_fields f.service f.peer f.address f.port t f.signature

unfoldable pub in_unix : ℕ → Ad → Ad
in_unix epoch f = stamped (epoch + f.stamp / second) f

unfoldable pub since_epoch : ℕ → Ad → Ad
since_epoch epoch f = stamped ((f.stamp - epoch) * second) f

-- ---- reading: 2 the ad's buffer has not its length; 16 the epoch is out of range; 15 the message is not accepted

unfoldable pub read_rows : ℕ → List ℕ → ℕ → List Row
read_rows epoch m size =
    row 2 (not (eqb size (ad_size address_size)))
    ∷ row 16 (not (ltb epoch epoch_end))
    ∷ row 15 (not (accepted epoch m))
    ∷ []

unfoldable pub ad_from : ℕ → List ℕ → List ℕ
ad_from epoch m = ad_of ad_kind (since_epoch epoch (fields_in m))

unfoldable pub message_read : ℕ → List ℕ → List ℕ → Reply
message_read epoch m out = replied (refusal (read_rows epoch m (length out))) (ad_from epoch m) out

-- ---- writing: 16 the ad has no message under the epoch; 2 the buffer is shorter than the message

unfoldable pub message_of : ℕ → List ℕ → List ℕ
message_of epoch ad = message (in_unix epoch (ad_in address_size (ad_body ad)))

abbrev pub stamp_of : List ℕ → ℕ
stamp_of ad = stamp address_size (ad_body ad)

-- the ad passes its check (4, 13 and 14), the epoch and the stamp are in their ranges, and the stamp is a whole second
unfoldable pub has_message : ℕ → List ℕ → Bool
has_message epoch ad =
    both (eqb (refusal (ad_rows address_size ad_kind ad)) 0)
    (both (ltb epoch epoch_end) (both (leb (stamp_of ad) last_clock) (eqb (stamp_of ad % second) 0)))

unfoldable pub write_rows : ℕ → List ℕ → ℕ → List Row
write_rows epoch ad size = row 16 (not (has_message epoch ad)) ∷ row 2 (ltb size (length (message_of epoch ad))) ∷ []

-- a refusal's number, or the message's length
unfoldable pub answer_of : ℕ → ℕ → Written
answer_of zero n = Length n
answer_of (suc r) n = Refused (suc r)

-- a refusal leaves the buffer as it was; the bytes behind the message stay
unfoldable pub buffer_of : ℕ → List ℕ → List ℕ → List ℕ
buffer_of zero m out = put 0 m out
buffer_of (suc r) m out = out

abbrev pub write_answer : ℕ → List ℕ → List ℕ → Written
write_answer epoch ad out = answer_of (refusal (write_rows epoch ad (length out))) (length (message_of epoch ad))

abbrev pub write_buffer : ℕ → List ℕ → List ℕ → List ℕ
write_buffer epoch ad out = buffer_of (refusal (write_rows epoch ad (length out))) (message_of epoch ad) out

pub record MessageWritten (epoch : ℕ) (ad out : List ℕ) (answer : Written) (left : List ℕ) : Type 0 where
  pub answered : answer ≡ write_answer epoch ad out
  pub leaves : left ≡ write_buffer epoch ad out
