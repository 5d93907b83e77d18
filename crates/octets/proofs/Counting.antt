-- What a test adds to a count.
use mathlib.Core.Bool.{Bool, true, false, cond}
use Prim.Native.Nat.{◌≤◌, zero-le}
use native.Mathlib.Nat.{le_refl}

pub one_most : (b : Bool) → cond b 1 0 ≤ 1
one_most true = le_refl 1
one_most false = zero-le
