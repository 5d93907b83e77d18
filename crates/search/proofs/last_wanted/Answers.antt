use mathlib.Core.Path.{◌≡◌, sym, ◌∙◌}
use mathlib.Core.Bool.{Bool, true, false}
use mathlib.Core.List.{List}
use Prim.Native.Nat.{ℕ, ◌+◌, ◌-◌, ◌*◌}
use native.Mathlib.Omega.{arith}
use lib.ListN.{take, drop}
use Rattle.octets.specs.Runs.{part}
use Rattle.octets.proofs.Runs.{lent_part}
use Rattle.cache.specs.Cache.{width}
use Rattle.cache.specs.Chunks.{chunks}
use Rattle.cache.proofs.Chunks.{both_intro}
use Rattle.listing.specs.Listing.{wanted, not_older, wanted_since}
use Rattle.listing.proofs.Filling.{wanted_of, not_wanted, is_older}
use Rattle.search.specs.Newest.{offers, last_of}
use Rattle.search.proofs.Last.{last_hit, last_missed, last_none}
use Rattle.search.proofs.last_wanted.Goals as goal
use Rattle.search.proofs.last_wanted.Goals.{else-wanted-via-then-wanted+else-not_older, else-wanted-via-else-wanted, After-wanted, At-loop-index, In-loop-index, Joined-else-wanted, Then-not_older}

-- the entry at the index, as a part that is lent
abbrev lent : goal.In-loop-index → List ℕ
lent c = let w = c.width-width.result in let at = w * (c.loop-index.index - 1) in take (at + w - at) (drop at c.args.stored.now)

abbrev test : goal.At-loop-index → List ℕ → Bool
test l = let a = l.args in wanted_since a.shape.address a.oldest a.shape.kinds a.clock a.service.now

-- what the two tests say of it
abbrev Tests : goal.In-loop-index → Bool → Type 0
Tests c b = let w = c.width-width.result in test (goal.at.In-loop-index c).At-loop-index (part (w * (c.loop-index.index - 1)) w c.args.stored.now) ≡ b

first_says : (c : goal.After-wanted) → let a = c.args in wanted a.shape.kinds a.clock a.service.now (lent (goal.at.After-wanted c).In-loop-index) ≡ c.wanted.result
first_says c =
    let a = c.args in
    sym (c.wanted.ensures ∙ wanted_of a.shape.kinds a.clock c.horizon-from.result a.service.now (lent (goal.at.After-wanted c).In-loop-index) c.horizon-from.ensures)

hit : (c : goal.Then-not_older) → Tests (goal.at.Then-not_older c).In-loop-index true
hit c = rw lent_part at (both_intro _ _ (first_says (goal.at.Then-not_older c).After-wanted ∙ c.if-wanted.true) (sym c.not_older.ensures ∙ c.if-not_older.true))

missed : (c : goal.Joined-else-wanted) → Tests (goal.at.Joined-else-wanted c).In-loop-index false
missed c =
    let a = c.args in
    let e = lent (goal.at.Joined-else-wanted c).In-loop-index in
    let h : test (goal.at.Joined-else-wanted c).At-loop-index e ≡ false =
    elim c.else-wanted.branch [
      | else-wanted-via-then-wanted+else-not_older w ↦ is_older (wanted a.shape.kinds a.clock a.service.now e) (sym w.not_older.ensures ∙ w.if-not_older.false)
      | else-wanted-via-else-wanted w ↦ not_wanted (not_older a.shape.address a.oldest e) (first_says (goal.at.Joined-else-wanted c).After-wanted ∙ w.if-wanted.false)
    ] in
    rw lent_part at h

-- the last of all, by the width that was worked out
of_all : (l : goal.At-loop-index) → let a = l.args in
    last_of (offers a.shape a.oldest a.clock a.service.now) (chunks (width a.shape) a.n a.stored.now) ≡ last_of (test l) (chunks l.width-width.result l.loop-index.index a.stored.now)
of_all l = rw (← l.width-width.ensures) l.loop-index.invariant

pub returns-then-not_older : goal.returns-then-not_older
returns-then-not_older c =
    let l = (goal.at.returns-then-not_older c).At-loop-index in
    sym (of_all l ∙ last_hit (test l) _ _ _ c.loop-index-test.true (hit (goal.at.returns-then-not_older c).Then-not_older))

pub loop-index-preserved : goal.loop-index-preserved
loop-index-preserved c =
    let l = (goal.at.loop-index-preserved c).At-loop-index in
    c.loop-index.invariant ∙ last_missed (test l) _ _ _ c.loop-index-test.true (missed (goal.at.loop-index-preserved c).Joined-else-wanted)

pub returns : goal.returns
returns c =
    let l = (goal.at.returns c).At-loop-index in
    let z : c.loop-index.index ≡ 0 = omega arith in
    sym (of_all l ∙ rw z (last_none (test l) _ _))
