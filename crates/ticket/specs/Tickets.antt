-- A ticket by itself (document 02, order 4; document 01, the end of "Refusal numbers"): what it is bound to, the bytes of its fields under a key, the
-- fields of its bytes, and what reading and writing answer. The tag is made under the key and is no field that a caller hands in.
use Rattle.std.specs.Prelude.{ℕ, Bool, not, List, [], ◌∷◌, ◌++◌, eqb, length, replicate, Result, Ok, Err}
use Rattle.octets.specs.Numbers.{bytes}
use Rattle.octets.specs.Runs.{both}
use Rattle.sha256.specs.Digest.{sha256_of}
use Rattle.sha256.specs.Hmac.{hmac_of}
use Rattle.sha256.specs.Tag.{same_tag}
use Rattle.settings.specs.Settings.{last_clock, key_size}
use Rattle.times.specs.Times.{timely}
use Rattle.record.specs.Layout.{ticket_kind, kind_of, hash_size, time_size, ticket_size, hash, first, issued, wait, tag, tagged, ticket_body}
use Rattle.record.specs.Fields.{together}
use Rattle.record.specs.Refusals.{number_of, Row, row, refusal, beside, Reply, replied}
use Rattle.ticket.specs.declared.Ticket.{Ticket}
use Rattle.record.specs.declared.reasons.Refusal.{Refusal}

-- what a ticket is bound to: the SHA-256 of an ad, its kind and its body, every byte of it (000 compares the whole ad). Two ads with one hash are a
-- collision of SHA-256, which no law here excludes
abbrev pub ad_hash : List ℕ → List ℕ
ad_hash ad = sha256_of ad

abbrev pub ticket_fields : List ℕ → ℕ → ℕ → ℕ → Ticket
ticket_fields h f i w = record { hash = h; first = f; issued = i; wait = w }

-- the fields in the table's order, each as bytes, and their widths; the tag stands behind them
abbrev pub ticket_parts : Ticket → List (List ℕ)
ticket_parts t = t.hash ∷ bytes time_size t.first ∷ bytes time_size t.issued ∷ bytes time_size t.wait ∷ []

abbrev pub ticket_widths : List ℕ
ticket_widths = hash_size ∷ time_size ∷ time_size ∷ time_size ∷ []

-- the fields of a body, the bytes that the tag is over, and the ticket of fields
unfoldable pub ticket_in : List ℕ → Ticket
ticket_in body = ticket_fields (hash body) (first body) (issued body) (wait body)

unfoldable pub tagged_of : Ticket → List ℕ
tagged_of t = ticket_kind ∷ together (ticket_parts t)

unfoldable pub ticket_of : List ℕ → Ticket → List ℕ
ticket_of key t = tagged_of t ++ hmac_of key (tagged_of t)

-- the ticket check under a key, for a ticket that was brought: 7 for its length or its kind, 8 for its tag, 9 for its times. REGISTER's latest
-- is its clock
unfoldable pub ticket_rows : ℕ → List ℕ → List ℕ → List Row
ticket_rows latest key ticket =
    row 7 (not (eqb (length ticket) ticket_size))
    ∷ row 7 (not (eqb (kind_of ticket) ticket_kind))
    ∷ row 8 (not (same_tag (hmac_of key (tagged ticket)) (tag (ticket_body ticket))))
    ∷ row 9 (not (timely latest (first (ticket_body ticket)) (issued (ticket_body ticket)) (wait (ticket_body ticket))))
    ∷ []

-- a ticket has its length and its kind, so that 7 is not told of it
unfoldable pub is_formed : List ℕ → Bool
is_formed ticket = both (eqb (length ticket) ticket_size) (eqb (kind_of ticket) ticket_kind)

-- reading: 2 for the key's length, then the check, an empty ticket too; the fields are zeros beside a refusal
unfoldable pub ticket_read_rows : List ℕ → List ℕ → List Row
ticket_read_rows key ticket = row 2 (not (eqb (length key) key_size)) ∷ ticket_rows last_clock key ticket

unfoldable pub no_ticket : Ticket
no_ticket = ticket_fields (replicate hash_size 0) 0 0 0

pub record TicketRead : Type 0 where
  pub refusal : ℕ
  pub ticket : Ticket

abbrev pub ticket_given : ℕ → Ticket → TicketRead
ticket_given n t = record { refusal = n; ticket = t }

unfoldable pub ticket_read : List ℕ → List ℕ → TicketRead
ticket_read key ticket = beside ticket_given no_ticket (refusal (ticket_read_rows key ticket)) (ticket_in (ticket_body ticket))

-- the same of an answer
abbrev pub as_ticket_read : Result Ticket Refusal → TicketRead
as_ticket_read (Ok t) = ticket_given 0 t
as_ticket_read (Err e) = ticket_given (number_of e) no_ticket

-- writing: 2 for the key's, the buffer's or a field's length, then 9 for the times
unfoldable pub ticket_write_rows : List ℕ → List ℕ → Ticket → List Row
ticket_write_rows key out t =
    row 2 (not (eqb (length key) key_size))
    ∷ row 2 (not (eqb (length out) ticket_size))
    ∷ row 2 (not (eqb (length t.hash) hash_size))
    ∷ row 9 (not (timely last_clock t.first t.issued t.wait))
    ∷ []

unfoldable pub ticket_written : List ℕ → List ℕ → Ticket → Reply
ticket_written key out t = replied (refusal (ticket_write_rows key out t)) (ticket_of key t) out
