-- Laws of the points (specs/Points.antt): a level's test is asked of c halved once for each level, and the walk over the totals takes one total off at each.
use mathlib.Core.Path.{◌≡◌, refl, sym, ◌∙◌}
use mathlib.Core.Bool.{Bool, true, false, cond}
use mathlib.Core.List.{List}
use Prim.Native.Nat.{ℕ, ◌+◌, ◌-◌, ◌*◌, ◌/◌, ◌^◌, ◌≤◌, ◌<◌, zero-le}
use native.Mathlib.Omega.{arith}
use native.Mathlib.Nat.{add-zero, div-lt_iff_lt-mul, le-div_iff_mul-le, div-one}
use native.Mathlib.Numerals.{add-one}
use lib.Dec.{ltb}
use lib.ListN.{length, drop, get_or}
use lib.Pow.{pow_pos, shr-shr}
use lib.Seq.{drop-cons}
use borrow.Author.Tests.{ltb-true, ltb-false, lt-ltb, le-ltb}
use Rattle.octets.specs.Counting.{passing_below}
use Rattle.similarity.specs.Bits.{passing}
use Rattle.similarity.specs.Points.{enough, sum, enough_at}

-- c < k·2^i is asked as c / 2^i < k
halved : (c k i : ℕ) → ltb (c / 2 ^ i) k ≡ enough c k i
halved c k i = go (ltb (c / 2 ^ i) k) refl
  where
    go : (b : Bool) → ltb (c / 2 ^ i) k ≡ b → ltb (c / 2 ^ i) k ≡ enough c k i
    go true h = h ∙ sym (lt-ltb c (k * 2 ^ i) ((div-lt_iff_lt-mul (pow_pos i)).0 (ltb-true (c / 2 ^ i) k h)))
    go false h = h ∙ sym (le-ltb c (k * 2 ^ i) ((le-div_iff_mul-le (pow_pos i)).0 (ltb-false (c / 2 ^ i) k h)))

-- after i levels: the sum of the totals behind them, what is left of c halved i times, and how many levels had enough
pub record Points (ts : List ℕ) (c i k r found : ℕ) : Type 0 where
  pub within : i ≤ length ts - 1
  pub near_is : k ≡ sum (drop (i + 1) ts)
  pub rest_is : r ≡ c / 2 ^ i
  pub found_is : found ≡ passing (enough_at ts c) i

-- the next total, and what is left without it
pub next_total : (ts : List ℕ) (i : ℕ) → i < length ts → sum (drop i ts) ≡ get_or ts i 0 + sum (drop (i + 1) ts)
unfolding sum
next_total ts i h = rw (add-one, drop-cons ts i 0 h)

pub points_start : (ts : List ℕ) (c : ℕ) → 1 ≤ length ts → sum ts ≡ c → Points ts c 0 (c - get_or ts 0 0) c 0
unfolding passing_below
points_start ts c l h =
    let t : sum ts ≡ get_or ts 0 0 + sum (drop (0 + 1) ts) = next_total ts 0 (omega arith) in
    record { within = zero-le; near_is = omega arith; rest_is = sym (div-one c); found_is = refl }

-- the next level is counted where it has enough
points_next : (ts : List ℕ) (c i k r found : ℕ) (b : Bool) → i < length ts - 1 → Points ts c i k r found
    → ltb (r / 2) k ≡ b → Points ts c (i + 1) (k - get_or ts (i + 1) 0) (r / 2) (found + cond b 1 0)
unfolding passing_below
points_next ts c i k r found b h l m =
    let t = next_total ts (i + 1) (omega arith) in
    let rest_is : r / 2 ≡ c / 2 ^ (i + 1) = rw l.rest_is (shr-shr c i 1) in
    let more : enough_at ts c (i + 1) ≡ b = sym (halved c (sum (drop (i + 1) ts)) (i + 1)) ∙ rw (← l.near_is, ← rest_is, m) in
    record {
      within = omega arith;
      near_is = rw (l.near_is, t) (omega arith);
      rest_is = rest_is;
      found_is = rw (l.found_is, ← more, add-one);
    }

pub points_found : (ts : List ℕ) (c i k r found : ℕ) → i < length ts - 1 → Points ts c i k r found → r / 2 < k
    → Points ts c (i + 1) (k - get_or ts (i + 1) 0) (r / 2) (found + 1)
points_found ts c i k r found h l m = points_next ts c i k r found true h l (lt-ltb (r / 2) k m)

pub points_passed : (ts : List ℕ) (c i k r found : ℕ) → i < length ts - 1 → Points ts c i k r found → k ≤ r / 2
    → Points ts c (i + 1) (k - get_or ts (i + 1) 0) (r / 2) found
points_passed ts c i k r found h l m = rw add-zero at (points_next ts c i k r found false h l (le-ltb (r / 2) k m))
