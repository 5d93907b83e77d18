-- `record::ad::read_ad_as` meets its contract.
use mathlib.Core.Path.{refl, sym, ap, ◌∙◌}
use native.Mathlib.Omega.{arith}
use Rattle.record.specs.Layout.{ad_body}
use Rattle.record.specs.Ads.{no_ad, ad_given, ad_read, ad_in, as_read}
use Rattle.record.proofs.Ads.{ad_accepted}
use Rattle.record.proofs.Refusals.{beside_refused, beside_none, handed_on, number_not_0}
use Rattle.record.proofs.ad.read_ad_as.Goals as goal

pub returns-in_err-check_ad : goal.returns-in_err-check_ad
unfolding ad_read
returns-in_err-check_ad g c =
    let a = g.row.A in
    let e = c.in_err-check_ad.field-0.0 in
    ap (as_read a) (handed_on c.from_residual.result e c.from_residual.ensures.1)
    ∙ beside_refused ad_given (no_ad a) _ _ (ad_in a (ad_body c.args.ad.now)) c.in_err-check_ad.ensures (number_not_0 e)

pub fields-requires : goal.fields-requires
fields-requires g c = (omega (arith, c.requires), (c.requires, (ad_accepted g.row.A c.args.kind c.args.ad.now (sym c.in_ok-check_ad.ensures)).size))

pub returns : goal.returns
unfolding ad_read
returns g c = ap (ad_given 0) c.fields.ensures ∙ beside_none ad_given (no_ad g.row.A) _ _ _ c.in_ok-check_ad.ensures refl
