-- An advertisement by itself (document 01, "Records", and the end of "Refusal numbers"): the bytes of its fields, the fields of its bytes, and
-- what reading and writing answer. `a` is the length of an address in bytes and `kind` the kind of an ad with such an address (document 02, order 10, for IPv6's).
use Rattle.std.specs.Prelude.{ℕ, not, List, [], ◌∷◌, eqb, length, replicate, Result, Ok, Err}
use Rattle.octets.specs.Numbers.{bytes}
use Rattle.record.specs.Layout.{kind_of, identifier_size, port_size, stamp_size, signature_size, ad_size, service, peer, address, port, stamp, signature, ad_body}
use Rattle.record.specs.Fields.{together}
use Rattle.record.specs.Refusals.{Row, row, refusal, beside, number_of, Reply, replied}
use Rattle.record.specs.declared.ad.Ad.{Ad as AdWith}
use Rattle.record.specs.declared.reasons.Refusal.{Refusal}

-- the fields of an ad, with an address of any length
pub record Ad : Type 0 where
  pub service : List ℕ
  pub peer : List ℕ
  pub address : List ℕ
  pub port : ℕ
  pub stamp : ℕ
  pub signature : List ℕ

abbrev pub ad_fields : List ℕ → List ℕ → List ℕ → ℕ → ℕ → List ℕ → Ad
ad_fields s p x n t g = record { service = s; peer = p; address = x; port = n; stamp = t; signature = g }

-- the fields in the table's order, each as bytes, and their widths
abbrev pub ad_parts : Ad → List (List ℕ)
ad_parts f = f.service ∷ f.peer ∷ f.address ∷ bytes port_size f.port ∷ bytes stamp_size f.stamp ∷ f.signature ∷ []

abbrev pub ad_widths : ℕ → List ℕ
ad_widths a = identifier_size ∷ identifier_size ∷ a ∷ port_size ∷ stamp_size ∷ signature_size ∷ []

-- the fields of a body, and the body of fields
unfoldable pub ad_in : ℕ → List ℕ → Ad
ad_in a body = ad_fields (service body) (peer body) (address a body) (port a body) (stamp a body) (signature a body)

unfoldable pub body_of : Ad → List ℕ
body_of f = together (ad_parts f)

-- the record of a kind with these fields
abbrev pub ad_of : ℕ → Ad → List ℕ
ad_of kind f = kind ∷ body_of f

-- 14: port 0, read or to be written
abbrev pub port_row : ℕ → Row
port_row n = row 14 (eqb n 0)

-- the ad check: 4 for its length, 13 for its kind, then the port (document 02, order 2)
unfoldable pub ad_rows : ℕ → ℕ → List ℕ → List Row
ad_rows a kind ad =
    row 4 (not (eqb (length ad) (ad_size a)))
    ∷ row 13 (not (eqb (kind_of ad) kind))
    ∷ port_row (port a (ad_body ad))
    ∷ []

-- reading: the refusal beside the fields, which are zeros where there is one
unfoldable pub no_ad : ℕ → Ad
no_ad a = ad_fields (replicate identifier_size 0) (replicate identifier_size 0) (replicate a 0) 0 0 (replicate signature_size 0)

pub record AdRead : Type 0 where
  pub refusal : ℕ
  pub ad : Ad

abbrev pub ad_given : ℕ → Ad → AdRead
ad_given n f = record { refusal = n; ad = f }

unfoldable pub ad_read : ℕ → ℕ → List ℕ → AdRead
ad_read a kind ad = beside ad_given (no_ad a) (refusal (ad_rows a kind ad)) (ad_in a (ad_body ad))

-- the same of what code has and answers, where an address has so many bytes
abbrev pub fields_of : {A : ℕ} → AdWith A → Ad
fields_of f = ad_fields f.service f.peer f.address f.port f.stamp f.signature

abbrev pub as_read : {A : ℕ} → ℕ → Result (AdWith A) Refusal → AdRead
as_read a (Ok f) = ad_given 0 (fields_of f)
as_read a (Err e) = ad_given (number_of e) (no_ad a)

-- writing: refusal 2 for the buffer's or a field's length, then the port
unfoldable pub ad_write_rows : ℕ → List ℕ → List ℕ → List ℕ → List ℕ → ℕ → List ℕ → List Row
ad_write_rows a out s p x n g =
    row 2 (not (eqb (length out) (ad_size a)))
    ∷ row 2 (not (eqb (length s) identifier_size))
    ∷ row 2 (not (eqb (length p) identifier_size))
    ∷ row 2 (not (eqb (length x) a))
    ∷ row 2 (not (eqb (length g) signature_size))
    ∷ port_row n
    ∷ []

unfoldable pub ad_written : ℕ → ℕ → List ℕ → Ad → Reply
ad_written a kind out f =
    replied (refusal (ad_write_rows a out f.service f.peer f.address f.port f.signature)) (ad_of kind f) out
