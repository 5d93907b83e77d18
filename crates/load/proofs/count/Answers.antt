-- `load::count` meets its contract: where no count is wanted, and for other bytes than an ad's, the check is all there is; the fields of an ad are lent as parts of it, and the totals are zeros.
use native.Mathlib.Omega.{arith}
use mathlib.Core.Path.{◌≡◌, refl, sym, ap, ◌∙◌}
use mathlib.Core.List.{List}
use Prim.Native.Nat.{ℕ, ◌+◌, ◌-◌, ◌*◌}
use lib.ListN.{length, take, drop, replicate, length-drop, length-replicate}
use Rattle.record.proofs.Fields.{field_part}
use Rattle.octets.specs.Runs.{part}
use Rattle.octets.proofs.Runs.{take_replicate, lent_rest, part_drop}
use Rattle.record.specs.Layout.{ad_size, identifier_size, address_size_v6, service_at, peer_at, address_at, kind_size}
use Rattle.cache.specs.declared.Shape.{Shape}
use Rattle.load.specs.Counts.{counts, counts_in, live_in}
use Rattle.load.proofs.count.Goals as goal
use Rattle.load.proofs.count.Goals.{Else-ad-address, Start}

-- the counters that are lent are zeros
lent : (c : goal.Start) → take {A = ℕ} (8 * c.args.shape.address + 1) (replicate (8 * address_size_v6 + 1) 0) ≡ replicate (8 * c.args.shape.address + 1) 0
lent c = take_replicate (8 * c.args.shape.address + 1) (8 * address_size_v6 + 1) 0 (omega (arith, c.requires.address_most))

-- the ad has its length
sized : (c : goal.Else-ad-address) → length c.args.ad.now ≡ ad_size c.args.shape.address
sized c = omega (arith, c.if-ad-address.false)

pub slice_bounds-tabulate-end-4 : goal.slice_bounds-tabulate-end-4
slice_bounds-tabulate-end-4 c =
    sym (ap length (lent (goal.at.slice_bounds-tabulate-end-4 c).Start) ∙ length-replicate (8 * c.args.shape.address + 1) 0)

pub tabulate-requires : goal.tabulate-requires
tabulate-requires c =
    let l = sized (goal.at.tabulate-requires c).Else-ad-address in
    record { sound = c.requires; address_size_v6_in_bounds = rw (lent_rest (kind_size + address_at) c.args.ad.now) (simp length-drop (omega arith)); totals_value = lent (goal.at.tabulate-requires c).Start }

-- what is counted for the parts that are lent is what is counted for the fields
in-fields : (sh : Shape) (cache : List ℕ) (clock : ℕ) (ad : List ℕ) → counts sh.address (take (kind_size + peer_at - kind_size) (drop kind_size ad)) (take (kind_size + address_at - (kind_size + peer_at)) (drop (kind_size + peer_at) ad))
    (part 0 sh.address (take (length ad - (kind_size + address_at)) (drop (kind_size + address_at) ad))) (live_in sh cache clock)
    ≡ counts_in sh cache clock ad
unfolding counts_in
in-fields sh cache clock ad =
    rw (
      ← field_part service_at identifier_size kind_size (kind_size + peer_at) ad refl refl,
      ← field_part peer_at identifier_size (kind_size + peer_at) (kind_size + address_at) ad refl refl,
      lent_rest (kind_size + address_at) ad,
      part_drop 0 sh.address (kind_size + address_at) ad,
      part_drop address_at sh.address kind_size ad,
    )

pub returns : goal.returns
returns c =
    let a = c.args in
    record {
      number = c.tabulate.ensures.number;
      counted = λ w e f z. (c.tabulate.ensures.tabled f z).counted ∙ in-fields a.shape a.cache.now a.clock a.ad.now;
    }
