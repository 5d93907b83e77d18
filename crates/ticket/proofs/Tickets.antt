-- Laws of a ticket (specs/Tickets.antt): what is written field by field is the ticket; the ticket and the fields give each other back under one
-- key; and what that says of the two public calls.
use mathlib.Core.Path.{◌≡◌, refl, sym, ap, ◌∙◌}
use mathlib.Core.Bool.{Bool, true, false, true≢false, not, cond}
use mathlib.Core.List.{List, [], ◌++◌}
use Prim.Native.Nat.{ℕ, suc, ◌+◌, ◌<◌, ◌^◌}
use native.Mathlib.Omega.{arith}
use lib.Dec.{eqb}
use lib.ListN.{length, set, get_or, length-append, length-drop}
use borrow.Author.Tests.{eq-eqb, eqb-true, not-false}
use Rattle.octets.specs.Numbers.{number, Octets}
use Rattle.octets.specs.Runs.{both, part, put}
use Rattle.octets.proofs.Runs.{both_true, length_part, part_first, part_past, part_join, part_all, part_put_same, put_behind, put_whole}
use Rattle.octets.proofs.Numbers.{length_bytes, number_bytes, bytes_number_part, octets_drop}
use Rattle.sha256.specs.Hmac.{hmac_of}
use Rattle.sha256.specs.Tag.{same_tag}
use Rattle.sha256.proofs.Tags.{same_tag_equal, same_tag_refl}
use Rattle.settings.specs.Settings.{last_clock, key_size}
use Rattle.times.specs.Times.{timely}
use Rattle.times.proofs.Laws.{timely_facts}
use Rattle.record.specs.Layout.{ticket_kind, kind_of, kind_size, hash_size, time_size, tag_size, hash_at, first_at, issued_at, wait_at, tag_at, ticket_body_size, ticket_size, tagged_size, first, issued, wait, tag, tagged, ticket_body}
use Rattle.record.specs.Fields.{widths, total}
use Rattle.record.specs.Refusals.{refusal, beside, reply}
use Rattle.ticket.specs.Tickets.{TicketRead, ticket_fields, ticket_parts, ticket_widths, ticket_in, tagged_of, ticket_of, ticket_rows, is_formed, ticket_read_rows, no_ticket, ticket_given, ticket_read, ticket_write_rows, ticket_written}
use Rattle.ticket.specs.declared.Ticket.{Ticket}
use Rattle.sha256.proofs.Sizes.{length_hmac}
use Rattle.record.proofs.Fields.{laid, length_together, fields_first, bytes_part, record_laid, in_record, opened}
use Rattle.record.proofs.Refusals.{passed, none_refused, not_differ, beside_none, beside_number, replied_done, replied_wrote}

-- every field has the table's length: a number has, whatever it is
abbrev pub Sized : Ticket → Type 0
Sized t = length t.hash ≡ hash_size

ticket_widths_lem : (t : Ticket) → Sized t → widths (ticket_parts t) ≡ ticket_widths
ticket_widths_lem t h =
    rw (h, length_bytes time_size t.first, length_bytes time_size t.issued, length_bytes time_size t.wait)

length_tagged : (t : Ticket) → Sized t → length (tagged_of t) ≡ tagged_size
unfolding tagged_of
length_tagged t h = ap suc (length_together (ticket_parts t) ∙ ap total (ticket_widths_lem t h))

-- the fields put one behind the other, and the tag behind them
pub tagged_laid : (t : Ticket) (out : List ℕ) → Sized t → length out ≡ ticket_size
    → laid kind_size ticket_widths (ticket_parts t) (set out 0 ticket_kind) ≡ put 0 (tagged_of t) out
unfolding tagged_of
tagged_laid t out h e = record_laid ticket_kind ticket_widths (ticket_parts t) out (ticket_widths_lem t h) (omega arith)

pub ticket_laid : (key : List ℕ) (t : Ticket) (out filled : List ℕ) → Sized t → length out ≡ ticket_size → filled ≡ put 0 (tagged_of t) out
    → put tagged_size (hmac_of key (tagged filled)) filled ≡ ticket_of key t
unfolding ticket_of
ticket_laid key t out filled h e f =
    let s = tagged_of t in
    let l = length_tagged t h in
    let m = hmac_of key s in
    let p : tagged (put 0 s out) ≡ s = rw (← l) (part_put_same 0 out (omega arith) s) in
    let w : length (s ++ m) ≡ length out = length-append s m ∙ omega (arith, length_hmac key s) in
    rw (f, p, put_behind tagged_size s m out l) (put_whole (s ++ m) out w)

-- the fields read one by one
pub read_off : (ticket h : List ℕ) (f i w : ℕ) → h ≡ part (kind_size + hash_at) hash_size ticket → f ≡ first (ticket_body ticket) → i ≡ issued (ticket_body ticket)
    → w ≡ wait (ticket_body ticket) → ticket_fields h f i w ≡ ticket_in (ticket_body ticket)
unfolding ticket_in
read_off ticket h f i w hh hf hi hw = rw (in_record hash_at hash_size (kind_size + hash_at) ticket refl) (cc)

-- ---- the check

-- the tag that was made and compared
pub tag_compared : (key ticket made : List ℕ) (r : Bool) → made ≡ hmac_of key (tagged ticket) → r ≡ same_tag made (part tagged_size tag_size ticket)
    → same_tag (hmac_of key (tagged ticket)) (tag (ticket_body ticket)) ≡ r
tag_compared key ticket made r e h = rw (in_record tag_at tag_size tagged_size ticket refl) (sym (h ∙ ap (λ (l : List ℕ). same_tag l (part tagged_size tag_size ticket)) e))

-- the times that were read and tested
pub times_tested : (latest f i w : ℕ) (body : List ℕ) (r : Bool) → r ≡ timely latest f i w → f ≡ first body → i ≡ issued body → w ≡ wait body
    → timely latest (first body) (issued body) (wait body) ≡ r
times_tested latest f i w body r h hf hi hw = cc

-- a ticket that is formed, and one that is not
pub record Formed (ticket : List ℕ) : Type 0 where
  pub size : length ticket ≡ ticket_size
  pub kind_is : kind_of ticket ≡ ticket_kind

pub formed : (ticket : List ℕ) → is_formed ticket ≡ true → Formed ticket
unfolding is_formed
formed ticket e =
    let h = both_true (eqb (length ticket) ticket_size) (eqb (kind_of ticket) ticket_kind) e in
    record { size = eqb-true _ _ h.0; kind_is = eqb-true _ _ h.1 }

pub unformed : (latest : ℕ) (key ticket : List ℕ) → is_formed ticket ≡ false → refusal (ticket_rows latest key ticket) ≡ 7
unfolding is_formed refusal ticket_rows
unformed latest key ticket e = go (eqb (length ticket) ticket_size) (eqb (kind_of ticket) ticket_kind) _ e
  where
    go : (l k : Bool) (rest : ℕ) → both l k ≡ false → cond (not l) 7 (cond (not k) 7 rest) ≡ 7
    go false k rest h = refl
    go true false rest h = refl
    go true true rest h = absurd (true≢false h)

-- what a ticket without a refusal is
pub record AcceptedTicket (latest : ℕ) (key ticket : List ℕ) : Type 0 where
  pub size : length ticket ≡ ticket_size
  pub kind_is : kind_of ticket ≡ ticket_kind
  pub tag_is : hmac_of key (tagged ticket) ≡ tag (ticket_body ticket)
  pub times : timely latest (first (ticket_body ticket)) (issued (ticket_body ticket)) (wait (ticket_body ticket)) ≡ true

pub ticket_accepted : (latest : ℕ) (key ticket : List ℕ) → refusal (ticket_rows latest key ticket) ≡ 0 → AcceptedTicket latest key ticket
unfolding ticket_rows
ticket_accepted latest key ticket e =
    let p1 = none_refused _ _ _ e in
    let p2 = none_refused _ _ _ p1.behind in
    let p3 = none_refused _ _ _ p2.behind in
    let p4 = none_refused _ _ _ p3.behind in
    record {
      size = not_differ _ _ p1.here;
      kind_is = not_differ _ _ p2.here;
      tag_is = same_tag_equal _ _ (not-false _ p3.here);
      times = not-false _ p4.here;
    }

-- what fields that can be written are
pub record Writable (key out : List ℕ) (t : Ticket) : Type 0 where
  pub key_size_lem : length key ≡ key_size
  pub size : length out ≡ ticket_size
  pub sized : Sized t
  pub times : timely last_clock t.first t.issued t.wait ≡ true

pub writable : (key out : List ℕ) (t : Ticket) (r : ℕ) → r ≡ refusal (ticket_write_rows key out t) → r ≡ 0 → Writable key out t
unfolding ticket_write_rows
writable key out t r e z =
    let p1 = none_refused _ _ _ (sym e ∙ z) in
    let p2 = none_refused _ _ _ p1.behind in
    let p3 = none_refused _ _ _ p2.behind in
    let p4 = none_refused _ _ _ p3.behind in
    record {
      key_size_lem = not_differ _ _ p1.here;
      size = not_differ _ _ p2.here;
      sized = not_differ _ _ p3.here;
      times = not-false _ p4.here;
    }

-- ---- the fields of a ticket and the ticket of fields give each other back

-- a ticket of its fields as bytes
ticket_from : List (List ℕ) → Ticket
ticket_from fs = ticket_fields (get_or fs 0 []) (number (get_or fs 1 [])) (number (get_or fs 2 [])) (number (get_or fs 3 []))

timely_in : (latest : ℕ) (body : List ℕ) (t : Ticket) → ticket_in body ≡ t
    → timely latest (first body) (issued body) (wait body) ≡ timely latest t.first t.issued t.wait
unfolding ticket_in
timely_in latest body t e = ap (λ (x : Ticket). timely latest x.first x.issued x.wait) e

-- the bytes that a tag is over are those of the fields
tagged_fields : (ticket : List ℕ) → Octets ticket → length ticket ≡ ticket_size → kind_of ticket ≡ ticket_kind → tagged_of (ticket_in (ticket_body ticket)) ≡ tagged ticket
unfolding tagged_of ticket_in part
tagged_fields ticket o l k =
    let b = ticket_body ticket in
    let lb : length b ≡ ticket_body_size = length-drop kind_size ticket ∙ omega arith in
    let ob = octets_drop kind_size ticket o in
    let ef = bytes_number_part first_at time_size b (omega arith) ob in
    let ei = bytes_number_part issued_at time_size b (omega arith) ob in
    let ew = bytes_number_part wait_at time_size b (omega arith) ob in
    rw (ef, ei, ew, bytes_part 0 ticket_widths b, ← k) (ap (part 0 tagged_size) (opened ticket (omega arith)))

module _ (key : List ℕ) (t : Ticket) (h : Sized t) where
  length_ticket : length (ticket_of key t) ≡ ticket_size
  unfolding ticket_of
  length_ticket = length-append (tagged_of t) (hmac_of key (tagged_of t)) ∙ omega (arith, length_tagged t h, length_hmac key (tagged_of t))

  tagged_back : tagged (ticket_of key t) ≡ tagged_of t
  unfolding ticket_of
  tagged_back = part_first tagged_size (tagged_of t) (hmac_of key (tagged_of t)) (length_tagged t h)

  tag_back : tag (ticket_body (ticket_of key t)) ≡ hmac_of key (tagged_of t)
  unfolding ticket_of
  tag_back =
      let m = hmac_of key (tagged_of t) in
      in_record tag_at tag_size tagged_size (tagged_of t ++ m) (omega arith) ∙ part_past tagged_size 0 tag_size (tagged_of t) m (omega (arith, length_tagged t h)) ∙ part_all tag_size m (length_hmac key (tagged_of t))

  kind_back : kind_of (ticket_of key t) ≡ ticket_kind
  unfolding ticket_of tagged_of
  kind_back = refl

  pub fields_back : t.first < 2 ^ 64 → t.issued < 2 ^ 64 → t.wait < 2 ^ 64 → ticket_in (ticket_body (ticket_of key t)) ≡ t
  unfolding ticket_in ticket_of tagged_of ticket_from
  fields_back hf hi hw =
      ap ticket_from (fields_first ticket_widths (ticket_parts t) (hmac_of key (tagged_of t)) (ticket_widths_lem t h))
      ∙ rw (number_bytes time_size t.first hf, number_bytes time_size t.issued hi, number_bytes time_size t.wait hw)

  -- what is written of timely fields passes the check
  pub written_passes : (latest : ℕ) → t.first < 2 ^ 64 → t.issued < 2 ^ 64 → t.wait < 2 ^ 64 → timely latest t.first t.issued t.wait ≡ true
      → refusal (ticket_rows latest key (ticket_of key t)) ≡ 0
  unfolding refusal ticket_rows
  written_passes latest hf hi hw e =
      let b = fields_back hf hi hw in
      let body = ticket_body (ticket_of key t) in
      let g : timely latest (first body) (issued body) (wait body) ≡ true = timely_in latest body t b ∙ e in
      let s : same_tag (hmac_of key (tagged (ticket_of key t))) (tag body) ≡ true = rw (tagged_back, tag_back) (same_tag_refl (hmac_of key (tagged_of t)) (length_hmac key (tagged_of t))) in
      simp (eq-eqb _ _ length_ticket, eq-eqb _ _ kind_back, s, g)

-- the bytes of a ticket that passes are those that its fields are written as under the key
passed_bytes : (latest : ℕ) (key ticket : List ℕ) → Octets ticket → refusal (ticket_rows latest key ticket) ≡ 0
    → ticket_of key (ticket_in (ticket_body ticket)) ≡ ticket
unfolding ticket_of
passed_bytes latest key ticket o e =
    let h = ticket_accepted latest key ticket e in
    let s = tagged_fields ticket o h.size h.kind_is in
    rw (s, h.tag_is, in_record tag_at tag_size tagged_size ticket refl, part_join 0 tagged_size tagged_size tag_size ticket refl) (part_all ticket_size ticket h.size)

-- the fields of a ticket that passes can be written
fields_pass : (key ticket out : List ℕ) → length key ≡ key_size → AcceptedTicket last_clock key ticket → length out ≡ ticket_size
    → refusal (ticket_write_rows key out (ticket_in (ticket_body ticket))) ≡ 0
unfolding refusal ticket_write_rows ticket_in
fields_pass key ticket out k h l =
    let b : length (ticket_body ticket) ≡ ticket_body_size = length-drop kind_size ticket ∙ omega (arith, h.size) in
    let lh = length_part hash_at hash_size (ticket_body ticket) (omega arith) in
    simp (eq-eqb _ _ k, eq-eqb _ _ l, eq-eqb _ _ lh, h.times)

-- ---- what the two public calls promise together

-- what write_ticket wrote under a key, read_ticket reads back under that key as the same fields
pub ticket_reads_back : (key out b : List ℕ) (t : Ticket) → ticket_written key out t ≡ reply 0 b → ticket_read key b ≡ record { refusal = 0; ticket = t }
unfolding ticket_written ticket_read ticket_read_rows beside
ticket_reads_back key out b t e =
    let w = replied_wrote _ _ _ b e in
    let h = writable key out t 0 (sym w.none) refl in
    let f = timely_facts last_clock t.first t.issued t.wait h.times in
    let hf : t.first < 2 ^ 64 = omega arith in
    let hi : t.issued < 2 ^ 64 = omega arith in
    let hw : t.wait < 2 ^ 64 = omega arith in
    let p = passed 2 (ticket_rows last_clock key (ticket_of key t)) (ap not (eq-eqb _ _ h.key_size_lem)) ∙ written_passes key t h.sized last_clock hf hi hw h.times in
    rw (← w.written, p, fields_back key t h.sized hf hi hw)

-- a ticket that read_ticket accepts under a key is, byte for byte, what write_ticket writes under that key of the fields that it gave
pub ticket_writes_back : (key ticket out : List ℕ) → Octets ticket → length out ≡ ticket_size → (ticket_read key ticket).refusal ≡ 0
    → ticket_written key out (ticket_read key ticket).ticket ≡ reply 0 ticket
unfolding ticket_written ticket_read ticket_read_rows
ticket_writes_back key ticket out o l e =
    let t = ticket_in (ticket_body ticket) in
    let n = refusal (ticket_read_rows key ticket) in
    let z : n ≡ 0 = sym (beside_number ticket_given no_ticket (λ (r : TicketRead). r.refusal) (λ m g. refl) n t) ∙ e in
    let c = none_refused _ _ _ z in
    let r : beside ticket_given no_ticket n t ≡ ticket_given 0 t = sym (beside_none ticket_given no_ticket 0 n t (sym z) refl) in
    let p = fields_pass key ticket out (not_differ _ _ c.here) (ticket_accepted last_clock key ticket c.behind) l in
    rw r (sym (replied_done 0 _ (ticket_of key t) out ticket (sym p) refl (sym (passed_bytes last_clock key ticket o c.behind))))
