-- `record::ad::write_ad_as` meets its contract.
use mathlib.Core.Path.{refl, sym, ap, ◌∙◌}
use Rattle.record.specs.Layout.{ad_size}
use Rattle.record.specs.Ads.{ad_written, ad_fields}
use Rattle.record.proofs.Refusals.{replied_err, replied_ok}
use Rattle.record.proofs.Ads.{writable}
use Rattle.record.proofs.ad.write_ad_as.Goals as goal

pub returns-in_err-check_fields : goal.returns-in_err-check_fields
unfolding ad_written
returns-in_err-check_fields c = replied_err c.from_residual.result _ _ _ _ c.from_residual.ensures.1 c.in_err-check_fields.ensures

pub fill_ad-requires : goal.fill_ad-requires
fill_ad-requires c =
    let args = c.args in
    let f = ad_fields args.service.now args.peer.now args.address.now args.port args.stamp args.signature.now in
    let h = writable args.a args.out.now f 0 c.in_ok-check_fields.ensures refl in
    (h.sized.service, h.sized.peer, h.sized.signature, h.size ∙ ap ad_size (sym h.sized.address))

pub returns : goal.returns
unfolding ad_written
returns c = replied_ok _ _ _ _ c.in_ok-check_fields.ensures c.fill_ad.ensures
