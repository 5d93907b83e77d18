-- `record::ad::check_ad` meets its contract: a row of the table for each test.
use mathlib.Core.Path.{◌≡◌, sym, ap, ◌∙◌}
use Prim.Native.Nat.{◌+◌}
use native.Mathlib.Omega.{arith}
use borrow.Author.Tests.{eq-eqb, ne_eqb}
use Rattle.octets.specs.Numbers.{number}
use Rattle.record.specs.Layout.{kind_size, port_size, address_at, port_at, port, ad_body}
use Rattle.record.specs.Refusals.{refusal}
use Rattle.record.specs.Ads.{ad_rows}
use Rattle.record.proofs.Fields.{in_record}
use Rattle.record.proofs.ad.check_ad.Goals as goal
use Rattle.record.proofs.ad.check_ad.Goals.{After-read_u16}

pub returns-then-ad-a : goal.returns-then-ad-a
unfolding refusal ad_rows
returns-then-ad-a c = simp (ne_eqb _ _ c.if-ad-a.true)

pub returns-then-ad-kind : goal.returns-then-ad-kind
unfolding refusal ad_rows
returns-then-ad-kind c = simp (eq-eqb _ _ c.if-ad-a.false, ne_eqb _ _ c.if-ad-kind.true)

-- the port that was read is the body's
is-port : (c : goal.After-read_u16) → let args = c.args in port args.a (ad_body args.ad.now) ≡ c.read_u16.result
is-port c =
    let args = c.args in
    ap number (in_record (port_at args.a) port_size (kind_size + address_at + args.a) args.ad.now (omega arith)) ∙ sym c.read_u16.ensures

-- the rows above have failed, so the port's decide
pub returns : goal.returns
unfolding refusal ad_rows
returns c =
    c.check_port.ensures ∙ simp (eq-eqb _ _ c.if-ad-a.false, eq-eqb _ _ c.if-ad-kind.false, is-port (goal.at.returns c).After-read_u16)
