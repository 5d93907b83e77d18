use mathlib.Core.Path.{◌≡◌, sym, ◌∙◌}
use mathlib.Core.Bool.{Bool, true, false}
use mathlib.Core.List.{◌++◌}
use Prim.Native.Nat.{◌+◌, ◌-◌, ◌*◌}
use native.Mathlib.Omega.{arith}
use lib.ListN.{length}
use borrow.Rule.Slice.PartMut.{put_mid}
use Rattle.std.specs.Slice.Iter.{chunks_exact_rest, chunks_exact_size}
use Rattle.record.specs.Layout.{time_size}
use Rattle.cache.proofs.Chunks.{both_intro}
use Rattle.listing.specs.Listing.{wanted, not_older, wanted_since, chosen_since}
use Rattle.listing.proofs.Filling.{Filled, fill_start, fill_over, fill_in, fill_full, fill_end, wanted_of, not_wanted, is_older}
use Rattle.listing.proofs.write_ads.Goals as goal
use Rattle.listing.proofs.write_ads.Goals.{else-wanted-via-then-wanted+else-not_older, else-wanted-via-else-wanted, After-fill_listed, After-wanted, In-Some, Joined-else-wanted, Then-not_older}

pub loop-entry-init : goal.loop-entry-init
loop-entry-init c =
    let w = c.width-width.ensures in
    rw c.into_iter-entry-iterator.ensures.into_iter_gives
    (c.chunks_exact-entry-items.ensures.size, (fill_start (omega (arith, w)) (omega (arith, w, c.requires.list_len)) (rw w c.requires.sound.1) c.chunks_exact-entry-items.ensures.rest, omega arith))

-- the entry comes off the front of those that were left
record Off (c : goal.In-Some) : Type 0 where
  pub cut : chunks_exact_rest c.loop-entry.entry-iterator ≡ c.in-Some.entry.now ++ chunks_exact_rest c.next.new.self
  pub long : length c.in-Some.entry.now ≡ c.width-width.result
  pub size : chunks_exact_size c.next.new.self ≡ c.width-width.result

off : (c : goal.In-Some) → Off c
off c =
    let s = c.in-Some.ensures.steps in
    let w = c.loop-entry.invariant.0 in
    record { cut = s.1.0; long = s.1.1 ∙ w; size = s.0 ∙ w }

-- what the two tests say of the entry
abbrev Tests : goal.In-Some → Bool → Type 0
Tests c b = let a = c.args in wanted_since a.shape.address a.oldest a.shape.kinds a.clock a.service.now c.in-Some.entry.now ≡ b

first_says : (c : goal.After-wanted) → let a = c.args in wanted a.shape.kinds a.clock a.service.now c.in-Some.entry.now ≡ c.wanted.result
first_says c = let a = c.args in sym (c.wanted.ensures ∙ wanted_of a.shape.kinds a.clock c.horizon-from.result a.service.now c.in-Some.entry.now c.horizon-from.ensures)

hit : (c : goal.Then-not_older) → Tests (goal.at.Then-not_older c).In-Some true
hit c = both_intro _ _ (first_says (goal.at.Then-not_older c).After-wanted ∙ c.if-wanted.true) (sym c.not_older.ensures ∙ c.if-not_older.true)

missed : (c : goal.Joined-else-wanted) → Tests (goal.at.Joined-else-wanted c).In-Some false
missed c =
    let a = c.args in
    let e = c.in-Some.entry.now in
    elim c.else-wanted.branch [
      | else-wanted-via-then-wanted+else-not_older w ↦ is_older (wanted a.shape.kinds a.clock a.service.now e) (sym w.not_older.ensures ∙ w.if-not_older.false)
      | else-wanted-via-else-wanted w ↦ not_wanted (not_older a.shape.address a.oldest e) (first_says (goal.at.Joined-else-wanted c).After-wanted ∙ w.if-wanted.false)
    ]

-- the list with the entry behind the others
grown : (c : goal.After-fill_listed) → let a = c.args in let size = c.width-width.result - time_size in let at = size * c.loop-entry.found in
    Filled (wanted_since a.shape.address a.oldest a.shape.kinds a.clock a.service.now) a.shape.kinds.ad c.width-width.result a.n a.stored.now a.list.now (chunks_exact_rest c.next.new.self)
    (c.loop-entry.found + 1) (put_mid at (at + size - at) c.loop-entry.list c.fill_listed.new.out)
grown c =
    let i = c.loop-entry.invariant in
    let o = off (goal.at.After-fill_listed c).In-Some in
    rw c.fill_listed.ensures (fill_in i.1.0 o.cut o.long (hit (goal.at.After-fill_listed c).Then-not_older) i.1.1)

pub returns-then-found-eq-MOST_LISTED : goal.returns-then-found-eq-MOST_LISTED
unfolding chosen_since
returns-then-found-eq-MOST_LISTED c = fill_full (grown (goal.at.returns-then-found-eq-MOST_LISTED c).After-fill_listed) c.width-width.ensures c.if-found-eq-MOST_LISTED.true

pub loop-entry-preserved-then-not_older : goal.loop-entry-preserved-then-not_older
loop-entry-preserved-then-not_older c =
    let after = (goal.at.loop-entry-preserved-then-not_older c).After-fill_listed in
    let some = c.loop-entry.invariant.1.1 in
    let few = c.if-found-eq-MOST_LISTED.false in
    ((off (goal.at.After-fill_listed after).In-Some).size, (grown after, omega arith))

pub loop-entry-preserved : goal.loop-entry-preserved
loop-entry-preserved c =
    let i = c.loop-entry.invariant in
    let o = off (goal.at.Joined-else-wanted c).In-Some in
    (o.size, (fill_over i.1.0 o.cut o.long (missed c), i.1.1))

pub returns : goal.returns
unfolding chosen_since
returns c = fill_end c.loop-entry.invariant.1.0 c.width-width.ensures (rw c.loop-entry.invariant.0 at c.in-None.ensures.steps.1.0)
