-- `comparison::write_line` meets its contract.
use mathlib.Core.Path.{◌≡◌, sym, ◌∙◌}
use mathlib.Core.Bool.{true, false}
use Rattle.comparison.specs.Records.{is_in_order, bad_line, line_of}
use Rattle.comparison.proofs.write_line.Goals as goal
use Rattle.comparison.proofs.write_line.Goals.{Else-not-in_order}

-- the record is in order
in_order : (c : goal.Else-not-in_order) → is_in_order c.args.told ≡ true
in_order c = sym c.in_order.ensures ∙ c.if-not-in_order.false

pub returns-then-not-in_order : goal.returns-then-not-in_order
unfolding line_of bad_line
returns-then-not-in_order c =
    let e : is_in_order c.args.told ≡ false = sym c.in_order.ensures ∙ c.if-not-in_order.true in
    rw e c.number_and.ensures

pub our_bits-ours-requires : goal.our_bits-ours-requires
our_bits-ours-requires c = in_order (goal.at.our_bits-ours-requires c).Else-not-in_order

pub recipe_wait-wait-requires : goal.recipe_wait-wait-requires
recipe_wait-wait-requires c = in_order (goal.at.recipe_wait-wait-requires c).Else-not-in_order

pub returns : goal.returns
unfolding line_of
returns c =
    rw (in_order (goal.at.returns c).Else-not-in_order, ← c.our_bits-ours.ensures, ← c.recipe_wait-wait.ensures) c.compare.ensures
