-- The lengths of lines (specs/Records.antt): no line is longer than the room that is asked for one.
use mathlib.Core.Path.{◌≡◌}
use mathlib.Core.Bool.{Bool, true, false, cond}
use mathlib.Core.List.{◌++◌}
use Prim.Native.Nat.{ℕ, ◌+◌, ◌-◌, ◌≤◌}
use native.Mathlib.Omega.{arith}
use lib.Dec.{eqb, ltb}
use lib.ListN.{length, length-append}
use Rattle.lines.specs.Lines.{decimal, most_digits}
use Rattle.lines.proofs.Printing.{decimal_most}
use Rattle.comparison.specs.declared.Simulated.{Simulated}
use Rattle.comparison.specs.Records.{is_in_order, ours, recipe, word_same, word_diff, minus, difference, verdict, compared_line, bad_line, line_of, line_limit}

pub verdict_most : (a b : ℕ) → length (verdict a b) ≡ length word_same
unfolding verdict
verdict_most a b = by (eqb a b)
  where
    by : (t : Bool) → length (cond t word_same word_diff) ≡ 6
    by true = omega arith
    by false = omega arith

pub difference_most : (a b : ℕ) → length (difference a b) ≤ 1 + most_digits
unfolding difference
difference_most a b = by (ltb a b)
  where
    by : (t : Bool) → length (cond t (minus ++ decimal (b - a)) (decimal (a - b))) ≤ 21
    by true = let d = decimal_most (b - a) in omega arith
    by false = let d = decimal_most (a - b) in omega arith

compared_most : (n a b w : ℕ) → length (compared_line n a b w) ≤ line_limit
unfolding compared_line
compared_most n a b w =
    let l = decimal_most n in
    let v = verdict_most a b in
    let d = difference_most a b in
    let m = decimal_most w in
    simp length-append (omega arith)

bad_most : (n : ℕ) → length (bad_line n) ≤ line_limit
unfolding bad_line
bad_most n = let l = decimal_most n in simp length-append (omega arith)

pub line_most : (n : ℕ) (r : Simulated) → length (line_of n r) ≤ line_limit
unfolding line_of
line_most n r = by (is_in_order r)
  where
    by : (t : Bool) → length (cond t (compared_line n (ours r) r.bits (recipe r)) (bad_line n)) ≤ line_limit
    by true = compared_most n (ours r) r.bits (recipe r)
    by false = bad_most n
