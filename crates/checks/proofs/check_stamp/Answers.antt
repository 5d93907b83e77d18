-- `checks::check_stamp` meets its contract: no row, or row 20.
use mathlib.Core.Path.{◌≡◌, sym, ap, ◌∙◌}
use mathlib.Core.Bool.{true}
use Prim.Native.Nat.{◌+◌}
use native.Mathlib.Omega.{arith}
use Rattle.octets.specs.Numbers.{number}
use Rattle.times.specs.Times.{is_fresh}
use Rattle.record.specs.Layout.{kind_size, address_at, port_size, stamp_size, stamp_at, stamp, ad_body}
use Rattle.record.specs.Refusals.{refusal}
use Rattle.record.proofs.Fields.{in_record}
use Rattle.checks.proofs.check_stamp.Goals as goal
use Rattle.checks.proofs.check_stamp.Goals.{After-is_fresh, Else-not-judged}

pub returns-then-not-judged : goal.returns-then-not-judged
unfolding refusal
returns-then-not-judged c = rw c.if-not-judged.true

judges : (c : goal.Else-not-judged) → c.args.judged ≡ true
judges c = c.if-not-judged.false

-- the stamp that was read is the ad's
fresh : (c : goal.After-is_fresh) → let a = c.args in is_fresh a.clock (stamp a.address (ad_body a.ad.now)) ≡ c.is_fresh.result
fresh c =
    let a = c.args in
    ap (is_fresh a.clock)
    (ap number (in_record (stamp_at a.address) stamp_size (kind_size + address_at + port_size + a.address) a.ad.now (omega arith)) ∙ sym c.read_u64-stamp.ensures)
    ∙ sym c.is_fresh.ensures

pub returns-then-not-is_fresh : goal.returns-then-not-is_fresh
unfolding refusal
returns-then-not-is_fresh c = rw (judges (goal.at.returns-then-not-is_fresh c).Else-not-judged, fresh (goal.at.returns-then-not-is_fresh c).After-is_fresh, c.if-not-is_fresh.true)

pub returns : goal.returns
unfolding refusal
returns c = rw (judges (goal.at.returns c).Else-not-judged, fresh (goal.at.returns c).After-is_fresh, c.if-not-is_fresh.false)
