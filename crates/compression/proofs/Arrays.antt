-- An array that is made by a closure, number by number: the list of what the closure computes.
use mathlib.Core.Path.{◌≡◌, subst}
use mathlib.Core.List.{List, map}
use Prim.Native.Nat.{ℕ, zero, suc, ◌+◌}
use native.Mathlib.Omega.{arith}
use denote.Param.Members.{Mut}
use lib.ListN.{length, drop}
use lib.Seq.{drop-length}
use Rattle.std.proofs.lemmas.List.{drop_more}
use Rattle.std.specs.Array.{IsFromFnResult, IsFromFnResultFrom}
use Rattle.std.specs.Fn.{Called}
use Rattle.std.specs.List.{range_with_len}

module _ {F B : Type 0} (g : Mut F (ℕ × Unit {0}) B) (f : F) (h : ℕ → B) (computes : (i : ℕ) (y : B) (q : F) → Called g f (i, tt) y q → (q ≡ f) × (y ≡ h i)) where
  made_from : (ys : List B) (n i : ℕ) → length ys ≡ i + n → IsFromFnResultFrom g f ys i n → drop i ys ≡ map h (range_with_len i n)
  made_from ys zero i long each = let all : length ys ≡ i = omega arith in rw (← all, drop-length)
  made_from ys (suc n) i long (q, y, at, call, rest) =
      let own = computes i y q call in
      rw (drop_more ys i y (omega arith), at.0, own.1, made_from ys n (i + 1) (omega arith) (subst (λ (p : F). IsFromFnResultFrom g p ys (i + 1) n) own.0 rest))

  pub made : (ys : List B) (n : ℕ) → IsFromFnResult g f ys n → ys ≡ map h (range_with_len 0 n)
  made ys n e = made_from ys n 0 (omega (arith, e.long)) e.each
