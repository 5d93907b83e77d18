-- `record::ad::fill_ad` meets its contract: the fields are put one behind the other.
use mathlib.Core.Path.{◌≡◌, refl, ap, ◌∙◌}
use Prim.Native.Nat.{◌+◌}
use native.Mathlib.Omega.{arith}
use lib.ListN.{length, length-set}
use Rattle.octets.specs.Numbers.{bytes}
use Rattle.octets.specs.Runs.{put}
use Rattle.record.specs.Layout.{kind_size, port_size, stamp_size, peer_at, address_at}
use Rattle.record.specs.Ads.{ad_fields}
use Rattle.record.proofs.Ads.{ad_laid}
use Rattle.record.proofs.ad.fill_ad.Goals as goal
use Rattle.record.proofs.ad.fill_ad.Goals.{After-copy, After-copy-2, After-copy-3, After-copy-4, After-write_u16, After-write_u64}

long1 : (c : goal.After-copy) → length c.copy.new.dst ≡ length c.args.out.now
long1 c = let a = c.args in omega (arith, length-set a.out.now 0 a.kind)

long2 : (c : goal.After-copy-2) → length c.copy-2.new.dst ≡ length c.args.out.now
long2 c = c.copy-2.auto.dst ∙ long1 (goal.at.After-copy-2 c).After-copy

long3 : (c : goal.After-copy-3) → length c.copy-3.new.dst ≡ length c.args.out.now
long3 c = c.copy-3.auto.dst ∙ long2 (goal.at.After-copy-3 c).After-copy-2

long4 : (c : goal.After-write_u16) → length c.write_u16.new.s ≡ length c.args.out.now
long4 c = c.write_u16.auto.s ∙ long3 (goal.at.After-write_u16 c).After-copy-3

long5 : (c : goal.After-write_u64) → length c.write_u64.new.s ≡ length c.args.out.now
long5 c = c.write_u64.auto.s ∙ long4 (goal.at.After-write_u64 c).After-write_u16

long6 : (c : goal.After-copy-4) → length c.copy-4.new.dst ≡ length c.args.out.now
long6 c = c.copy-4.auto.dst ∙ long5 (goal.at.After-copy-4 c).After-write_u64

pub copy-requires : goal.copy-requires
copy-requires c = simp length-set (omega arith)

pub copy-requires-2 : goal.copy-requires-2
copy-requires-2 c = let l = long1 (goal.at.copy-requires-2 c).After-copy in let p = c.requires in omega (arith, p)

pub copy-requires-3 : goal.copy-requires-3
copy-requires-3 c = let l = long2 (goal.at.copy-requires-3 c).After-copy-2 in let p = c.requires in omega (arith, p)

pub write_u16-requires : goal.write_u16-requires
write_u16-requires c = let l = long3 (goal.at.write_u16-requires c).After-copy-3 in let p = c.requires in omega (arith, p)

pub write_u64-requires : goal.write_u64-requires
write_u64-requires c = let l = long4 (goal.at.write_u64-requires c).After-write_u16 in let p = c.requires in omega (arith, p)

pub copy-requires-4 : goal.copy-requires-4
copy-requires-4 c = let l = long5 (goal.at.copy-requires-4 c).After-write_u64 in let p = c.requires in omega (arith, p)

pub returns : goal.returns
returns c =
    let p = c.requires in
    let args = c.args in
    let f = ad_fields args.service.now args.peer.now args.address.now args.port args.stamp args.signature.now in
    let a = length args.address.now in
    c.copy-4.ensures
    ∙ ap (put (kind_size + address_at + port_size + stamp_size + a) f.signature)
    (c.write_u64.ensures
    ∙ ap (put (kind_size + address_at + port_size + a) (bytes stamp_size f.stamp))
    (c.write_u16.ensures
    ∙ ap (put (kind_size + address_at + a) (bytes port_size f.port))
    (c.copy-3.ensures ∙ ap (put (kind_size + address_at) f.address) (c.copy-2.ensures ∙ ap (put (kind_size + peer_at) f.peer) c.copy.ensures))))
    ∙ ad_laid a args.kind f args.out.now (record { service = p.0; peer = p.1; address = refl; signature = p.2 }) p.3
