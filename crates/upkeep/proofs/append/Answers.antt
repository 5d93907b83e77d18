-- `upkeep::append` meets its contract: the entry is written straight into the next slot, and the head anew.
use mathlib.Core.Bool.{true}
use mathlib.Core.List.{List}
use native.Mathlib.Omega.{arith}
use mathlib.Core.Path.{◌≡◌, ap, ◌∙◌}
use Prim.Native.Nat.{◌+◌, ◌≤◌, ℕ, ◌-◌, ◌<◌}
use lib.ListN.{length}
use borrow.Rule.Slice.PartMut.{put_mid}
use Rattle.octets.specs.Runs.{put}
use Rattle.cache.specs.declared.Shape.{Shape}
use Rattle.cache.specs.declared.Head.{Head}
use Rattle.cache.specs.Cache.{head_size, max_capacity, width, size_of, well_formed, count_of, capacity_of, head_in, head_of}
use Rattle.cache.specs.Expiry.{head_confirmed, appended}
use Rattle.cache.proofs.Check.{HeadFacts, sound_head, next_inside}
use Rattle.upkeep.specs.Newcomer.{newcomer}
use Rattle.upkeep.proofs.Head.{head_put}
use Rattle.upkeep.proofs.Change.{appended_written}
use Rattle.upkeep.proofs.append.Goals as goal
use Rattle.upkeep.proofs.append.Goals.{After-count-n, After-width, Start}

facts : (c : goal.Start) → HeadFacts c.args.shape c.args.cache.now
facts c = sound_head c.args.shape c.args.cache.now c.requires.sound c.requires.cache_value

head-inside : (c : goal.Start) → head_size ≤ length c.args.cache.now
head-inside c = let f = facts c in omega (arith, f.inside)

-- the next slot lies within the cache
inside : (c : goal.After-width) → c.slot_at-at.result + c.width.result ≤ length c.args.cache.now
inside c =
    omega (arith, c.slot_at-at.ensures ∙ ap (size_of c.args.shape) c.count-n.ensures, c.width.ensures, next_inside c.args.shape c.args.cache.now (facts (goal.at.After-width c).Start) c.requires.cache_bound)

-- the number of entries is small
small : (c : goal.After-count-n) → c.count-n.result ≤ max_capacity
small c = let f = facts (goal.at.After-count-n c).Start in omega (arith, f.most, f.few, c.count-n.ensures)

-- what the calls before it found and wrote, and the head that is written last
laid : (sh : Shape) (clock : ℕ) (e cache : List ℕ) (at w n : ℕ) (old next : Head) (entry left : List ℕ) → well_formed sh cache ≡ true → count_of cache < capacity_of cache → at ≡ size_of sh n → w ≡ width sh → old ≡ head_in cache → n ≡ count_of cache → entry ≡ e → next ≡ head_confirmed clock old → left ≡ put 0 (head_of sh.kinds.head (n + 1) next) (put_mid at (at + w - at) cache entry) → left ≡ appended sh clock e cache
laid sh clock e cache at w n old next entry left well free ea ew eo en ee ex h = h ∙ rw head_put (rw (ee, ex, ea, ew, eo, en) (appended_written sh clock e cache well free))

pub returns : goal.returns
returns c =
    let a = c.args in
    laid a.shape a.clock (newcomer a.shape a.clock a.ad.now) a.cache.now c.slot_at-at.result c.width.result c.count-n.result c.read_head-head.result
    c.after_confirmation-next.result c.fill_entry.new.place _ c.requires.cache_value c.requires.cache_bound c.slot_at-at.ensures c.width.ensures c.read_head-head.ensures c.count-n.ensures
    c.fill_entry.ensures c.after_confirmation-next.ensures c.write_head.ensures

pub read_head-head-requires : goal.read_head-head-requires
read_head-head-requires c = head-inside (goal.at.read_head-head-requires c).Start

pub count-n-requires : goal.count-n-requires
count-n-requires c = head-inside (goal.at.count-n-requires c).Start

pub slot_at-at-requires : goal.slot_at-at-requires
slot_at-at-requires c = (c.requires.sound, small (goal.at.slot_at-at-requires c).After-count-n)

pub slice_bounds-fill_entry-end : goal.slice_bounds-fill_entry-end
slice_bounds-fill_entry-end c = let i = inside (goal.at.slice_bounds-fill_entry-end c).After-width in omega arith
