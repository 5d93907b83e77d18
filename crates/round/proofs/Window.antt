-- A window of sixteen words of the schedule: written out, it is fifteen words that are kept and one more.
use mathlib.Core.Path.{◌≡◌}
use mathlib.Core.List.{List, [], ◌∷◌, ◌++◌}
use Prim.Native.Nat.{ℕ, ◌<◌}
use native.Mathlib.Omega.{arith}
use lib.ListN.{length, get_or, drop}
use lib.Seq.{drop-cons, drop-length}

pub window : (w : List ℕ) {x y : ℕ} → length w ≡ 16 → x ≡ y
    → (get_or w 1 0 ∷ get_or w 2 0 ∷ get_or w 3 0 ∷ get_or w 4 0 ∷ get_or w 5 0 ∷ get_or w 6 0 ∷ get_or w 7 0 ∷ get_or w 8 0 ∷
    get_or w 9 0 ∷ get_or w 10 0 ∷ get_or w 11 0 ∷ get_or w 12 0 ∷ get_or w 13 0 ∷ get_or w 14 0 ∷ get_or w 15 0 ∷ x ∷ []) ≡ drop 1 w ++ (y ∷ [])
window w h e =
    let past : drop 16 w ≡ [] = rw h at (drop-length w) in
    let fits : (j : ℕ) → j < 16 → j < length w = λ j l. rw h l in
    rw (
      drop-cons w 1 0 (fits 1 (omega arith)),
      drop-cons w 2 0 (fits 2 (omega arith)),
      drop-cons w 3 0 (fits 3 (omega arith)),
      drop-cons w 4 0 (fits 4 (omega arith)),
      drop-cons w 5 0 (fits 5 (omega arith)),
      drop-cons w 6 0 (fits 6 (omega arith)),
      drop-cons w 7 0 (fits 7 (omega arith)),
      drop-cons w 8 0 (fits 8 (omega arith)),
      drop-cons w 9 0 (fits 9 (omega arith)),
      drop-cons w 10 0 (fits 10 (omega arith)),
      drop-cons w 11 0 (fits 11 (omega arith)),
      drop-cons w 12 0 (fits 12 (omega arith)),
      drop-cons w 13 0 (fits 13 (omega arith)),
      drop-cons w 14 0 (fits 14 (omega arith)),
      drop-cons w 15 0 (fits 15 (omega arith)),
      past,
      e,
    )
