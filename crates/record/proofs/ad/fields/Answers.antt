-- `record::ad::fields` meets its contract.
use Rattle.record.proofs.Ads.{read_off}
use Rattle.record.proofs.ad.fields.Goals as goal

pub returns : goal.returns
returns g c =
    read_off g.row.A c.args.ad.now _ _ _ _ _ _ c.array-service.ensures c.array-peer.ensures c.array-address.ensures c.read_u16-port.ensures c.read_u64-stamp.ensures c.array-signature.ensures
