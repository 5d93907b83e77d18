-- The records of a recorded day (document 02, order 1): kind 20 is a first ask, kind 21 a return, and both have the same body. A visit is what such a
-- record tells: who came when, without the ticket.
use Rattle.std.specs.Prelude.{ℕ, Bool, cond, List, eqb, get_or}
use Rattle.octets.specs.Numbers.{number}
use Rattle.octets.specs.Runs.{part}
use Rattle.record.specs.Layout.{visit_kind, revisit_kind, kind_of, time_size, body_size, address_size, advertiser_at, visit_clock_at, visit_vouched_at, visit_body_at, visit_size}

-- the length of a record of a kind; 0: no record of a day
unfoldable pub record_size : ℕ → ℕ
record_size kind = cond (eqb kind visit_kind) (visit_size address_size) (cond (eqb kind revisit_kind) (visit_size address_size) 0)

pub record Visit : Type 0 where
  pub returns : Bool
  pub advertiser : ℕ
  pub clock : ℕ
  pub vouched : Bool
  pub body : List ℕ

-- vouched means the byte is 1
abbrev pub visit_in : List ℕ → Visit
visit_in r =
    record {
      returns = eqb (kind_of r) revisit_kind;
      advertiser = get_or r advertiser_at 0;
      clock = number (part visit_clock_at time_size r);
      vouched = eqb (get_or r visit_vouched_at 0) 1;
      body = part visit_body_at (body_size address_size) r;
    }
