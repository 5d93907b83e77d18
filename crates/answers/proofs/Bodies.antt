-- Laws of the records of a log (specs/Records.antt): what is written field by field is the record, and a record gives its fields back.
use mathlib.Core.Path.{◌≡◌, refl, sym, ap, ◌∙◌}
use mathlib.Core.Bool.{Bool, true, false}
use mathlib.Core.List.{List, [], ◌∷◌, ◌++◌, append-nil}
use Prim.Native.Nat.{ℕ, suc, ◌+◌, ◌-◌, ◌≤◌, ◌<◌, ◌^◌}
use native.Mathlib.Nat.{add-zero}
use native.Mathlib.Omega.{arith}
use lib.Dec.{eqb}
use lib.ListN.{length, take, drop, set, get_or, length-append, length-set}
use lib.Seq.{take_all, drop-append_seam, get_or-take, get_or-drop}
use Rattle.octets.specs.Numbers.{number, bytes}
use Rattle.octets.specs.Runs.{part, put}
use Rattle.octets.proofs.Runs.{length_part, put_one, put_behind, put_whole, length_put, lent_part}
use Rattle.octets.proofs.Numbers.{length_bytes, number_bytes}
use Rattle.record.specs.Layout.{kind_of, identifier_size, time_size, vouched_size}
use Rattle.record.specs.Fields.{widths, total}
use Rattle.record.proofs.Fields.{length_together, fields_first, fields_all, record_laid, in_record}
use Rattle.answers.specs.Records.{ask_kind, return_kind, list_kind, ask_size, return_size, list_size, ad_body_size, ticket_body_size, log_clock_at, vouched_at, ask_body_at, list_service_at, clock_in, vouched_in, body_in, ticket_body_in, service_in, vouched_byte, request_fields, request_of, ask_of, return_of, list_fields, list_of}

-- a kind and the n bytes of a record from `at`, in a buffer of just their length
pub body_laid : (kind at n : ℕ) (out r : List ℕ) → length out ≡ suc n → at + n ≤ length r → put 1 (take (at + n - at) (drop at r)) (set out 0 kind) ≡ kind ∷ part at n r
body_laid kind at n out r e h =
    let l : length (part at n r) ≡ n = length_part at n r h in
    rw (lent_part at n r, put_one 0 kind out (omega arith), put_behind log_clock_at (kind ∷ []) (part at n r) out refl)
    (put_whole (kind ∷ part at n r) out (omega arith))

-- ---- the fields have the table's lengths

abbrev request_widths : List ℕ
request_widths = time_size ∷ vouched_size ∷ ad_body_size ∷ []

abbrev list_widths : List ℕ
list_widths = time_size ∷ identifier_size ∷ []

request_widths_lem : (clock : ℕ) (vouched : Bool) (body : List ℕ) → length body ≡ ad_body_size → widths (request_fields clock vouched body) ≡ request_widths
request_widths_lem clock vouched body e = rw (length_bytes time_size clock, e)

list_widths_lem : (clock : ℕ) (service : List ℕ) → length service ≡ identifier_size → widths (list_fields clock service) ≡ list_widths
list_widths_lem clock service e = rw (length_bytes time_size clock, e)

request_length : (kind clock : ℕ) (vouched : Bool) (body : List ℕ) → length body ≡ ad_body_size → length (request_of kind clock vouched body) ≡ ask_size
unfolding request_of
request_length kind clock vouched body e = ap suc (length_together (request_fields clock vouched body) ∙ ap total (request_widths_lem clock vouched body e))

-- ---- what is written field by field is the record

pub request_laid : (kind clock : ℕ) (vouched : Bool) (body out : List ℕ) → ask_size ≤ length out → length body ≡ ad_body_size
    → put ask_body_at body (set (put log_clock_at (bytes time_size clock) (set out 0 kind)) vouched_at (vouched_byte vouched)) ≡ put 0 (request_of kind clock vouched body) out
unfolding request_of
request_laid kind clock vouched body out h e =
    let s = put log_clock_at (bytes time_size clock) (set out 0 kind) in
    let k = length-set out 0 kind in
    let n = length_bytes time_size clock in
    let l = length_put log_clock_at (bytes time_size clock) (set out 0 kind) (omega arith) in
    rw (put_one vouched_at (vouched_byte vouched) s (omega arith))
    (record_laid kind request_widths (request_fields clock vouched body) out (request_widths_lem clock vouched body e) (omega arith))

pub ask_laid : (clock : ℕ) (vouched : Bool) (body out : List ℕ) → length out ≡ ask_size → length body ≡ ad_body_size → put 0 (request_of ask_kind clock vouched body) out ≡ ask_of clock vouched body
ask_laid clock vouched body out l e = let k = request_length ask_kind clock vouched body e in put_whole (request_of ask_kind clock vouched body) out (omega arith)

pub return_laid : (clock : ℕ) (vouched : Bool) (body ticket out : List ℕ) → length out ≡ return_size → length body ≡ ad_body_size → length ticket ≡ ticket_body_size
    → put ask_size ticket (put 0 (request_of return_kind clock vouched body) out) ≡ return_of clock vouched body ticket
unfolding return_of
return_laid clock vouched body ticket out l e t =
    let r = request_of return_kind clock vouched body in
    let k = request_length return_kind clock vouched body e in
    let m : length (r ++ ticket) ≡ length out = length-append r ticket ∙ omega arith in
    rw (put_behind ask_size r ticket out k) (put_whole (r ++ ticket) out m)

pub list_laid : (clock : ℕ) (service out : List ℕ) → length out ≡ list_size → length service ≡ identifier_size
    → put list_service_at service (put log_clock_at (bytes time_size clock) (set out 0 list_kind)) ≡ list_of clock service
unfolding list_of
list_laid clock service out l e =
    let w = list_widths_lem clock service e in
    let n : length (list_of clock service) ≡ list_size = ap suc (length_together (list_fields clock service) ∙ ap total w) in
    record_laid list_kind list_widths (list_fields clock service) out w (omega arith) ∙ put_whole (list_of clock service) out (n ∙ sym l)

-- ---- the fields of a record that was written are those it was written of; the bound is that of the type u64

pub record Fields (r : List ℕ) (kind clock : ℕ) (vouched : Bool) (body : List ℕ) : Type 0 where
  pub kind_is : kind_of r ≡ kind
  pub clock_is : clock_in r ≡ clock
  pub vouched_is : vouched_in r ≡ vouched
  pub body_is : body_in r ≡ body

byte_vouched : (vouched : Bool) → eqb (vouched_byte vouched) 1 ≡ vouched
byte_vouched true = refl
byte_vouched false = refl

-- a field of one byte
byte_is : (at b : ℕ) (s : List ℕ) → part at 1 s ≡ b ∷ [] → get_or s at 0 ≡ b
unfolding part
byte_is at b s e = sym (get_or-take 1 (drop at s) 0 0 (omega arith) ∙ get_or-drop at s 0 0 ∙ rw add-zero) ∙ ap (λ (l : List ℕ). get_or l 0 0) e

pub request_back : (kind clock : ℕ) (vouched : Bool) (body more : List ℕ) → clock < 2 ^ 64 → length body ≡ ad_body_size → Fields (request_of kind clock vouched body ++ more) kind clock vouched body
unfolding request_of
request_back kind clock vouched body more c e =
    let r = request_of kind clock vouched body ++ more in
    let f = fields_first request_widths (request_fields clock vouched body) more (request_widths_lem clock vouched body e) in
    let v : part vouched_at vouched_size r ≡ vouched_byte vouched ∷ [] = sym (in_record time_size vouched_size vouched_at r refl) ∙ ap (λ (l : List (List ℕ)). get_or l 1 []) f in
    record {
      kind_is = refl;
      clock_is = ap number (sym (in_record 0 time_size log_clock_at r refl) ∙ ap (λ (l : List (List ℕ)). get_or l 0 []) f) ∙ number_bytes time_size clock c;
      vouched_is = ap (λ (x : ℕ). eqb x 1) (byte_is vouched_at (vouched_byte vouched) r v) ∙ byte_vouched vouched;
      body_is = sym (in_record (time_size + vouched_size) ad_body_size ask_body_at r refl) ∙ ap (λ (l : List (List ℕ)). get_or l 2 []) f;
    }

pub ask_back : (clock : ℕ) (vouched : Bool) (body : List ℕ) → clock < 2 ^ 64 → length body ≡ ad_body_size → Fields (ask_of clock vouched body) ask_kind clock vouched body
ask_back clock vouched body c e = rw append-nil at (request_back ask_kind clock vouched body [] c e)

-- a return gives its ticket's body back too
pub record ReturnFields (r : List ℕ) (clock : ℕ) (vouched : Bool) (body ticket : List ℕ) : Type 0 where
  pub request : Fields r return_kind clock vouched body
  pub ticket_is : ticket_body_in r ≡ ticket

pub return_back : (clock : ℕ) (vouched : Bool) (body ticket : List ℕ) → clock < 2 ^ 64 → length body ≡ ad_body_size → length ticket ≡ ticket_body_size
    → ReturnFields (return_of clock vouched body ticket) clock vouched body ticket
unfolding return_of part
return_back clock vouched body ticket c e t =
    let r = request_of return_kind clock vouched body in
    let b : drop ask_size (r ++ ticket) ≡ ticket = ap (λ (n : ℕ). drop n (r ++ ticket)) (sym (request_length return_kind clock vouched body e)) ∙ drop-append_seam r ticket in
    record {
      request = request_back return_kind clock vouched body ticket c e;
      ticket_is = ap (take ticket_body_size) b ∙ take_all ticket_body_size ticket (omega arith);
    }

pub record ListFields (r : List ℕ) (clock : ℕ) (service : List ℕ) : Type 0 where
  pub kind_is : kind_of r ≡ list_kind
  pub clock_is : clock_in r ≡ clock
  pub service_is : service_in r ≡ service

pub list_back : (clock : ℕ) (service : List ℕ) → clock < 2 ^ 64 → length service ≡ identifier_size → ListFields (list_of clock service) clock service
unfolding list_of
list_back clock service c e =
    let r = list_of clock service in
    let f = fields_all list_widths (list_fields clock service) (list_widths_lem clock service e) in
    record {
      kind_is = refl;
      clock_is = ap number (sym (in_record 0 time_size log_clock_at r refl) ∙ ap (λ (l : List (List ℕ)). get_or l 0 []) f) ∙ number_bytes time_size clock c;
      service_is = sym (in_record time_size identifier_size list_service_at r refl) ∙ ap (λ (l : List (List ℕ)). get_or l 1 []) f;
    }
