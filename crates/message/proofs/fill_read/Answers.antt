-- `message::fill_read` meets its contract: the fields of the message, in an ad.
use mathlib.Core.Path.{ap, ◌∙◌}
use native.Mathlib.Omega.{arith}
use Rattle.octets.specs.Runs.{part}
use Rattle.record.specs.Layout.{ad_kind}
use Rattle.record.specs.Ads.{Ad, ad_of}
use Rattle.message.specs.Calls.{since_epoch, ad_from}
use Rattle.advertisement.proofs.Messages.{Accepted, accepted_facts, Bounds, accepted_bounds, fields_read}
use Rattle.message.proofs.fill_read.Goals as goal
use Rattle.message.proofs.fill_read.Goals.{Start}

facts : (s : goal.Start) → Accepted s.args.epoch s.args.message.now
facts s = accepted_facts s.args.epoch s.args.message.now s.requires.2

bounds : (s : goal.Start) → Bounds s.args.message.now
bounds s = accepted_bounds s.args.epoch s.args.message.now s.requires.1 (facts s)

pub varint_value-requires : goal.varint_value-requires
varint_value-requires c = let b = bounds (goal.at.varint_value-requires c).Start in (omega (arith, b.least), omega (arith, b.most))

pub returns : goal.returns
unfolding ad_from since_epoch part
returns c =
    c.fill_ad.ensures ∙ ap (λ (f : Ad). ad_of ad_kind (since_epoch c.args.epoch f)) (fields_read c.args.message.now _ _ c.read_u16.ensures c.varint_value.ensures)

pub overflow_sub-stamp : goal.overflow_sub-stamp
overflow_sub-stamp c = omega (arith, (facts (goal.at.overflow_sub-stamp c).Start).since, c.varint_value.ensures)

pub overflow_mul-stamp : goal.overflow_mul-stamp
overflow_mul-stamp c = omega (arith, (facts (goal.at.overflow_mul-stamp c).Start).until, c.varint_value.ensures, c.requires.1)

pub slice_bounds-fill_ad-end : goal.slice_bounds-fill_ad-end
slice_bounds-fill_ad-end c = omega (arith, (bounds (goal.at.slice_bounds-fill_ad-end c).Start).least)

pub slice_bounds-fill_ad-end-2 : goal.slice_bounds-fill_ad-end-2
slice_bounds-fill_ad-end-2 c = omega (arith, (bounds (goal.at.slice_bounds-fill_ad-end-2 c).Start).least)

pub slice_bounds-fill_ad-end-3 : goal.slice_bounds-fill_ad-end-3
slice_bounds-fill_ad-end-3 c = omega (arith, (bounds (goal.at.slice_bounds-fill_ad-end-3 c).Start).least)

pub read_u16-requires : goal.read_u16-requires
read_u16-requires c = omega (arith, (bounds (goal.at.read_u16-requires c).Start).least)

pub slice_bounds-fill_ad-end-4 : goal.slice_bounds-fill_ad-end-4
slice_bounds-fill_ad-end-4 c = omega (arith, (bounds (goal.at.slice_bounds-fill_ad-end-4 c).Start).least)
