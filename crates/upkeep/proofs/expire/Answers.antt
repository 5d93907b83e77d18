-- `upkeep::expire` meets its contract: the expired entries are the first ones, and what stays is moved up behind a new head.
use mathlib.Core.Bool.{true}
use mathlib.Core.List.{List}
use lib.ListN.{length}
use native.Mathlib.Omega.{arith}
use mathlib.Core.Path.{◌≡◌, ◌∙◌}
use Prim.Native.Nat.{◌≤◌, ℕ, ◌-◌}
use Rattle.octets.specs.Runs.{put}
use Rattle.cache.specs.declared.Shape.{Shape}
use Rattle.cache.specs.declared.Head.{Head}
use Rattle.cache.specs.Cache.{head_size, max_capacity, entries, well_formed, count_of, head_in, head_of, width}
use Rattle.cache.specs.Expiry.{gone, head_expired, cleared}
use Rattle.cache.proofs.Check.{HeadFacts, sound_head}
use Rattle.cache.proofs.Contents.{gone_few}
use Rattle.upkeep.specs.Packed.{packed}
use Rattle.upkeep.proofs.Head.{head_put}
use Rattle.upkeep.proofs.Change.{expired_written}
use Rattle.upkeep.proofs.expire.Goals as goal
use Rattle.upkeep.proofs.expire.Goals.{After-count-n, Start}

facts : (c : goal.Start) → HeadFacts c.args.shape c.args.cache.now
facts c = sound_head c.args.shape c.args.cache.now c.requires.sound c.requires.cache_value

-- no more have expired than there are
few : (c : goal.After-count-n) → c.args.passed ≤ c.count-n.result
few c =
    let a = c.args in
    omega (arith, c.requires.passed_value, c.count-n.ensures, gone_few a.shape a.cache.now a.clock)

pub pack-requires : goal.pack-requires
pack-requires c =
    let f = facts (goal.at.pack-requires c).Start in
    (few (goal.at.pack-requires c).After-count-n, rw (c.width.ensures, c.count-n.ensures) f.inside)

head-inside : (c : goal.Start) → head_size ≤ length c.args.cache.now
head-inside c = let f = facts c in omega (arith, f.inside)

-- the number of entries is small
small : (c : goal.After-count-n) → c.count-n.result ≤ max_capacity
small c = let f = facts (goal.at.After-count-n c).Start in omega (arith, f.most, f.few, c.count-n.ensures)

-- what the calls before it found and wrote, and the head that is written last
laid : (sh : Shape) (clock : ℕ) (cache : List ℕ) (w n g : ℕ) (old next : Head) (moved left : List ℕ) → well_formed sh cache ≡ true → w ≡ width sh → old ≡ head_in cache → n ≡ count_of cache → g ≡ gone clock (entries sh cache) → moved ≡ packed head_size w n g cache → next ≡ head_expired clock g old → left ≡ put 0 (head_of sh.kinds.head (n - g) next) moved → left ≡ cleared sh clock cache
laid sh clock cache w n g old next moved left well ew eo en eg em ex h = h ∙ rw head_put (rw (em, ex, ew, eo, en, eg) (expired_written sh clock cache well))

pub returns : goal.returns
returns c =
    let a = c.args in
    laid a.shape a.clock a.cache.now c.width.result c.count-n.result a.passed c.read_head-head.result c.after_expiry-next.result c.pack.new.cache _
    c.requires.cache_value c.width.ensures c.read_head-head.ensures c.count-n.ensures c.requires.passed_value c.pack.ensures c.after_expiry-next.ensures c.write_head.ensures

pub read_head-head-requires : goal.read_head-head-requires
read_head-head-requires c = head-inside (goal.at.read_head-head-requires c).Start

pub count-n-requires : goal.count-n-requires
count-n-requires c = head-inside (goal.at.count-n-requires c).Start

pub overflow_cast-n : goal.overflow_cast-n
overflow_cast-n c = let n = small (goal.at.overflow_cast-n c).After-count-n in omega arith

pub write_head-requires : goal.write_head-requires
write_head-requires c = let k = c.pack.auto.cache in let h = head-inside (goal.at.write_head-requires c).Start in omega arith
