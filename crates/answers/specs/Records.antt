-- The records of a log (document 01, "Records", kinds 5 and 7; document 02, order 4, kind 9): their kinds, lengths and fields, and the record of
-- fields. Every other kind is unknown to a log: the other records' too, and 6, a return with a ticket of before order 4. Addresses are IPv4's. Offsets and lengths are sums over the table's fields.
use Rattle.std.specs.Prelude.{ℕ, Bool, not, cond, List, [], ◌∷◌, ◌++◌, eqb, length, get_or}
use Rattle.octets.specs.Numbers.{number, bytes}
use Rattle.octets.specs.Runs.{part}
use Rattle.record.specs.Layout.{ad_kind, ticket_kind, identifier_size, time_size, body_size, address_size, ask_size as size_of_ask, return_size as size_of_return}
pub use Rattle.record.specs.Layout.{ask_kind, return_kind, list_kind, log_clock_at, vouched_at, ask_body_at, list_service_at, list_size, ticket_body_size}
use Rattle.record.specs.Fields.{together}
use Rattle.record.specs.Refusals.{Row, row, refusal, Reply, replied}

-- an ad's body, whose kind a log leaves out, as it does a ticket's
abbrev pub ad_body_size : ℕ
ad_body_size = body_size address_size

-- with IPv4's address
abbrev pub ask_size : ℕ
ask_size = size_of_ask address_size

abbrev pub return_size : ℕ
return_size = size_of_return address_size

-- the length of a record of a kind; 0: no record of a log
unfoldable pub record_size : ℕ → ℕ
record_size kind = cond (eqb kind ask_kind) ask_size (cond (eqb kind return_kind) return_size (cond (eqb kind list_kind) list_size 0))

-- ---- fields

abbrev pub clock_in : List ℕ → ℕ
clock_in r = number (part log_clock_at time_size r)

-- vouched means the byte is 1
abbrev pub vouched_in : List ℕ → Bool
vouched_in r = eqb (get_or r vouched_at 0) 1

abbrev pub body_in : List ℕ → List ℕ
body_in r = part ask_body_at ad_body_size r

abbrev pub ticket_body_in : List ℕ → List ℕ
ticket_body_in r = part ask_size ticket_body_size r

abbrev pub service_in : List ℕ → List ℕ
service_in r = part list_service_at identifier_size r

-- the ad of an ask or a return, and the ticket of a return: the kind, then the body
abbrev pub ad_of_record : List ℕ → List ℕ
ad_of_record r = ad_kind ∷ body_in r

abbrev pub ticket_of_record : List ℕ → List ℕ
ticket_of_record r = ticket_kind ∷ ticket_body_in r

-- ---- the record of fields

abbrev pub vouched_byte : Bool → ℕ
vouched_byte v = cond v 1 0

-- an ask, and what a return has before its ticket: the kind, and the fields behind it
abbrev pub request_fields : ℕ → Bool → List ℕ → List (List ℕ)
request_fields clock vouched body = bytes time_size clock ∷ (vouched_byte vouched ∷ []) ∷ body ∷ []

unfoldable pub request_of : ℕ → ℕ → Bool → List ℕ → List ℕ
request_of kind clock vouched body = kind ∷ together (request_fields clock vouched body)

abbrev pub ask_of : ℕ → Bool → List ℕ → List ℕ
ask_of clock vouched body = request_of ask_kind clock vouched body

unfoldable pub return_of : ℕ → Bool → List ℕ → List ℕ → List ℕ
return_of clock vouched body ticket = request_of return_kind clock vouched body ++ ticket

abbrev pub list_fields : ℕ → List ℕ → List (List ℕ)
list_fields clock service = bytes time_size clock ∷ service ∷ []

unfoldable pub list_of : ℕ → List ℕ → List ℕ
list_of clock service = list_kind ∷ together (list_fields clock service)

-- ---- writing: refusal 2 where the buffer or a field is not of the table's length

abbrev pub differs : ℕ → ℕ → Row
differs n m = row 2 (not (eqb n m))

unfoldable pub ask_written : List ℕ → ℕ → Bool → List ℕ → Reply
ask_written out clock vouched body =
    replied (refusal (differs (length out) ask_size ∷ differs (length body) ad_body_size ∷ [])) (ask_of clock vouched body) out

unfoldable pub return_written : List ℕ → ℕ → Bool → List ℕ → List ℕ → Reply
return_written out clock vouched body ticket =
    replied (refusal (differs (length out) return_size ∷ differs (length body) ad_body_size ∷ differs (length ticket) ticket_body_size ∷ []))
    (return_of clock vouched body ticket) out

unfoldable pub list_written : List ℕ → ℕ → List ℕ → Reply
list_written out clock service =
    replied (refusal (differs (length out) list_size ∷ differs (length service) identifier_size ∷ [])) (list_of clock service) out
