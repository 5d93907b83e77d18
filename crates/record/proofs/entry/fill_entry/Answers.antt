-- `record::entry::fill_entry` meets its contract: the fields are put one behind the other.
use mathlib.Core.Path.{◌≡◌, ap, ◌∙◌}
use Prim.Native.Nat.{◌-◌}
use native.Mathlib.Omega.{arith}
use lib.ListN.{length, length-set, length-take, length-drop, take}
use Rattle.octets.specs.Runs.{put}
use Rattle.record.specs.Layout.{kind_size, entry_body_at, ad_body}
use Rattle.record.proofs.Entries.{entry_laid}
use Rattle.record.proofs.entry.fill_entry.Goals as goal
use Rattle.record.proofs.entry.fill_entry.Goals.{After-write_u64}

-- after the time the place is as long as it came
long : (c : goal.After-write_u64) → length c.write_u64.new.s ≡ length c.args.place.now
long c = let a = c.args in c.write_u64.auto.s ∙ length-set a.place.now 0 a.kind

pub write_u64-requires : goal.write_u64-requires
write_u64-requires c = simp length-set (omega arith)

pub copy-requires : goal.copy-requires
copy-requires c =
    let l = long (goal.at.copy-requires c).After-write_u64 in
    let p = c.requires in
    simp (length-take, length-drop) (omega (arith, p))

pub returns : goal.returns
returns c =
    let ad = c.args.ad.now in
    c.copy.ensures ∙ ap (put entry_body_at (take (length ad - kind_size) (ad_body ad))) c.write_u64.ensures
    ∙ entry_laid c.args.kind c.args.time ad c.args.place.now c.requires.0 c.requires.1
