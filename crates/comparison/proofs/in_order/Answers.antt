-- `comparison::in_order` meets its contract.
use mathlib.Core.Path.{◌≡◌}
use mathlib.Core.Bool.{true}
use lib.Dec.{leb, ltb}
use borrow.Author.Tests.{le-leb, lt-leb, lt-ltb, le-ltb}
use Rattle.octets.specs.Runs.{both}
use Rattle.settings.specs.Settings.{max_capacity}
use Rattle.comparison.specs.declared.Simulated.{Simulated}
use Rattle.comparison.specs.Records.{levels, is_in_order}
use Rattle.comparison.proofs.Facts.{plain_is}
use Rattle.comparison.proofs.in_order.Goals as goal
use Rattle.comparison.proofs.in_order.Goals.{Else-told, Else-told-2, Else-told-gt-CAPACITY, Else-told-gt-LEVELS, Else-told-lt1}

-- the record, at each test that it passed
abbrev told : goal.Else-told-lt1 → Simulated
told c = c.args.told

abbrev told-2 : goal.Else-told-gt-CAPACITY → Simulated
told-2 c = told (goal.at.Else-told-gt-CAPACITY c).Else-told-lt1

abbrev told-3 : goal.Else-told → Simulated
told-3 c = told-2 (goal.at.Else-told c).Else-told-gt-CAPACITY

abbrev told-4 : goal.Else-told-2 → Simulated
told-4 c = told-3 (goal.at.Else-told-2 c).Else-told

abbrev told-5 : goal.Else-told-gt-LEVELS → Simulated
told-5 c = told-4 (goal.at.Else-told-gt-LEVELS c).Else-told-2

capacity : (c : goal.Else-told-gt-CAPACITY) → both (leb 1 (told-2 c).capacity) (leb (told-2 c).capacity max_capacity) ≡ true
capacity c = let r = told-2 c in rw (le-leb 1 r.capacity c.if-told-lt1.false, le-leb r.capacity max_capacity c.if-told-gt-CAPACITY.false)

occupancy : (c : goal.Else-told) → ltb (told-3 c).occupancy (told-3 c).capacity ≡ true
occupancy c = lt-ltb (told-3 c).occupancy (told-3 c).capacity c.if-told.false

serving : (c : goal.Else-told-2) → leb (told-4 c).serving (told-4 c).occupancy ≡ true
serving c = le-leb (told-4 c).serving (told-4 c).occupancy c.if-told-2.false

similarity : (c : goal.Else-told-gt-LEVELS) → leb (told-5 c).similarity levels ≡ true
similarity c = le-leb (told-5 c).similarity levels c.if-told-gt-LEVELS.false

pub returns-then-told-lt1 : goal.returns-then-told-lt1
unfolding is_in_order
returns-then-told-lt1 c = rw (lt-leb 1 c.args.told.capacity c.if-told-lt1.true)

pub returns-then-told-gt-CAPACITY : goal.returns-then-told-gt-CAPACITY
unfolding is_in_order
returns-then-told-gt-CAPACITY c =
    rw (le-leb 1 (told (goal.at.returns-then-told-gt-CAPACITY c).Else-told-lt1).capacity c.if-told-lt1.false, lt-leb (told (goal.at.returns-then-told-gt-CAPACITY c).Else-told-lt1).capacity max_capacity c.if-told-gt-CAPACITY.true)

pub returns-then-told : goal.returns-then-told
unfolding is_in_order
returns-then-told c = rw (capacity (goal.at.returns-then-told c).Else-told-gt-CAPACITY, le-ltb (told-2 (goal.at.returns-then-told c).Else-told-gt-CAPACITY).occupancy (told-2 (goal.at.returns-then-told c).Else-told-gt-CAPACITY).capacity c.if-told.true)

pub returns-then-told-2 : goal.returns-then-told-2
unfolding is_in_order
returns-then-told-2 c = rw (capacity (goal.at.returns-then-told-2 c).Else-told-gt-CAPACITY, occupancy (goal.at.returns-then-told-2 c).Else-told, lt-leb (told-3 (goal.at.returns-then-told-2 c).Else-told).serving (told-3 (goal.at.returns-then-told-2 c).Else-told).occupancy c.if-told-2.true)

pub returns-then-told-gt-LEVELS : goal.returns-then-told-gt-LEVELS
unfolding is_in_order
returns-then-told-gt-LEVELS c =
    rw (capacity (goal.at.returns-then-told-gt-LEVELS c).Else-told-gt-CAPACITY, occupancy (goal.at.returns-then-told-gt-LEVELS c).Else-told, serving (goal.at.returns-then-told-gt-LEVELS c).Else-told-2, lt-leb (told-4 (goal.at.returns-then-told-gt-LEVELS c).Else-told-2).similarity levels c.if-told-gt-LEVELS.true)

pub returns : goal.returns
unfolding is_in_order
returns c =
    rw (capacity (goal.at.returns c).Else-told-gt-CAPACITY, occupancy (goal.at.returns c).Else-told, serving (goal.at.returns c).Else-told-2, similarity (goal.at.returns c).Else-told-gt-LEVELS, plain_is (told-5 (goal.at.returns c).Else-told-gt-LEVELS).bits)
