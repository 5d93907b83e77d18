-- What entering writes, as lists (specs/Entering.antt): those in force packed, with zeros behind them, and the pair's record in its place.
use mathlib.Core.Path.{◌≡◌, refl, sym, ap, ◌∙◌}
use mathlib.Core.Bool.{Bool, true, false, not, cond}
use mathlib.Core.List.{List, [], ◌∷◌, ◌++◌, append_assoc, append-nil}
use mathlib.Core.Logic.{⊎_elim}
use Prim.Native.Nat.{ℕ, zero, suc, ◌+◌, ◌-◌, ◌*◌, ◌≤◌, ◌<◌}
use native.Mathlib.Omega.{arith}
use native.Mathlib.Nat.{mul-suc, mul-zero, mul-sub, mul-add, sub-zero, suc-sub-suc, add_assoc, zero-add, eq-or-lt_of_le}
use borrow.Author.Tests.{eqb-true, eqb-false, eq-eqb}
use lib.Dec.{eqb}
use lib.ListN.{length, take, drop, replicate, length-append, length-drop, replicate-append-replicate}
use lib.Seq.{drop_at, take-append-add, drop-append-add}
use Rattle.octets.specs.Numbers.{bytes}
use Rattle.octets.specs.Runs.{put, both, zeros}
use Rattle.octets.proofs.Numbers.{length_bytes}
use Rattle.octets.proofs.Runs.{zeros_true, drop_replicate}
use Rattle.record.specs.Layout.{bound_size, pair_size, time_size}
use Rattle.cache.specs.Chunks.{joined, first_of, every}
use Rattle.cache.proofs.Chunks.{Wide, Each, all_true, chunks_wide, keep_le, first_le}
use Rattle.entering.specs.declared.Standing.{Standing}
use Rattle.bounds.specs.Bounds.{bound_of, is_of, places, in_use, bounds_in, among, is_not_late, each_once, fits, well_bounded}
use Rattle.entering.specs.Entering.{in_force, in_force_in, written, bounds_of, crowded, standing_in}
use Rattle.entering.specs.Packing.{dropped}
use Rattle.bounds.proofs.Records.{use_few, use_within}
use Rattle.bounds.proofs.Conditions.{Fitting, fitting}
use Rattle.entering.proofs.Packing.{keep_all, each_keep}
use Rattle.entering.proofs.Told.{in_use_long, first_none, none_first}

-- what the form gives
pub record Well (a : ℕ) (b : List ℕ) : Type 0 where
  pub fit : Fitting a b
  pub timely : every (is_not_late a) (bounds_in a b) ≡ true
  pub once : each_once a (bounds_in a b) ≡ true
  pub rest : drop (bound_size a * in_use a b) b ≡ replicate (bound_size a * (places a b - in_use a b)) 0

pub well : (a : ℕ) (b : List ℕ) → well_bounded a b ≡ true → Well a b
unfolding well_bounded
well a b h =
    let t = all_true (fits a b ∷ every (is_not_late a) (bounds_in a b) ∷ each_once a (bounds_in a b) ∷ zeros (drop (bound_size a * in_use a b) b) ∷ []) h in
    let f = fitting a b t.0 in
    let l : length (drop (bound_size a * in_use a b) b) ≡ bound_size a * (places a b - in_use a b) = rw length-drop (omega (arith, f.size, mul-sub (bound_size a) (places a b) (in_use a b))) in
    record { fit = f; timely = t.1.0; once = t.1.1.0; rest = rw l at (zeros_true (drop (bound_size a * in_use a b) b) t.1.1.1.0) }

pub in_use_wide : (a : ℕ) (b : List ℕ) → Each (Wide (bound_size a)) (bounds_in a b)
unfolding bounds_in
in_use_wide a b = chunks_wide (bound_size a) (in_use a b) b (use_within a b)

pub force_few : (a clock : ℕ) (b : List ℕ) → length (in_force_in a clock b) ≤ in_use a b
force_few a clock b = rw in_use_long at (keep_le (in_force a clock) (bounds_in a b))

pub force_wide : (a clock : ℕ) (b : List ℕ) → Each (Wide (bound_size a)) (in_force_in a clock b)
force_wide a clock b = each_keep (Wide (bound_size a)) (in_force a clock) (bounds_in a b) (in_use_wide a b)

pub bound_long : (a u : ℕ) (k : List ℕ) → length k ≡ pair_size a → length (bound_of k u) ≡ bound_size a
unfolding bound_of
bound_long a u k e = let l = length_bytes time_size u in let m = length-append k (bytes time_size u) in omega arith

-- ---- those past their time dropped

more_zeros : (x y z : ℕ) → x + y ≡ z → ◌≡◌ {A = List ℕ} (replicate x 0 ++ replicate y 0) (replicate z 0)
more_zeros x y z h = replicate-append-replicate x y 0 ∙ rw h

pub dropped_packed : (a clock : ℕ) (b : List ℕ) → Well a b → dropped a clock (in_use a b) b ≡ bounds_of a (places a b) (in_force_in a clock b)
unfolding dropped bounds_of bounds_in
dropped_packed a clock b w =
    let g = length (in_force_in a clock b) in
    let n = places a b in
    let few = force_few a clock b in
    let less = use_few a b in
    let d : (in_use a b - g) + (n - in_use a b) ≡ n - g = omega arith in
    let z = more_zeros (bound_size a * (in_use a b - g)) (bound_size a * (n - in_use a b)) (bound_size a * (n - g)) (sym (mul-add (bound_size a) (in_use a b - g) (n - in_use a b)) ∙ ap (λ (m : ℕ). bound_size a * m) d) in
    rw (w.rest, z)

-- ---- a record put into its place

put_past : (j : ℕ) (p s t : List ℕ) → put (length s + j) p (s ++ t) ≡ s ++ put j p t
unfolding put
put_past j p s t =
    rw (take-append-add s t j, add_assoc (length s) j (length p), drop-append-add s t (j + length p)) (append_assoc s (take j t) (p ++ drop (j + length p) t))

put_first : (p s : List ℕ) → put 0 p s ≡ p ++ drop (length p) s
unfolding put
put_first p s = rw zero-add

module _ (a : ℕ) (k : List ℕ) (u : ℕ) (e : length (bound_of k u) ≡ bound_size a) where
  pub put_written : (n : ℕ) (rs : List (List ℕ)) → Each (Wide (bound_size a)) rs → first_of (is_of a k) rs < n
      → put (bound_size a * first_of (is_of a k) rs) (bound_of k u) (bounds_of a n rs) ≡ bounds_of a n (written a k u rs)
  unfolding first_of bounds_of joined written
  put_written n [] w h =
      let d : bound_size a * n - bound_size a ≡ bound_size a * (n - 1) = omega (arith, mul-sub (bound_size a) n 1) in
      rw (mul-zero, sub-zero, put_first, e, drop_replicate, d, append-nil)
  put_written n (r ∷ rs) (w, ws) h = go n (is_of a k r) h (λ m l. put_written m rs ws l)
    where
      go : (n : ℕ) (b : Bool) → cond b 0 (suc (first_of (is_of a k) rs)) < n
          → ((m : ℕ) → first_of (is_of a k) rs < m → put (bound_size a * first_of (is_of a k) rs) (bound_of k u) (bounds_of a m rs) ≡ bounds_of a m (written a k u rs))
          → put (bound_size a * cond b 0 (suc (first_of (is_of a k) rs))) (bound_of k u) (bounds_of a n (r ∷ rs)) ≡ bounds_of a n (cond b (bound_of k u ∷ rs) (r ∷ written a k u rs))
      go n true l i =
          let z : List ℕ = replicate (bound_size a * (n - suc (length rs))) 0 in
          rw (mul-zero, put_first, e, append_assoc r (joined rs) z, drop_at r (joined rs ++ z) (bound_size a) w) (sym (append_assoc (bound_of k u) (joined rs) z))
      go zero false l i = absurd (omega arith)
      go (suc m) false l i =
          let at : bound_size a * suc (first_of (is_of a k) rs) ≡ length r + bound_size a * first_of (is_of a k) rs = omega (arith, mul-suc (bound_size a) (first_of (is_of a k) rs), w) in
          rw (at, append_assoc r (joined rs) (replicate {A = ℕ} (bound_size a * (suc m - suc (length rs))) 0), put_past, suc-sub-suc, suc-sub-suc, append_assoc r (joined (written a k u rs)))
          (ap (λ (l : List ℕ). r ++ l) (i m (omega arith)))

-- ---- whether there is a place

-- refusal 19's condition is that the pair's own would stand behind the last place
pub crowded_told : (a clock : ℕ) (k b : List ℕ) → crowded a clock k b ≡ eqb (first_of (is_of a k) (in_force_in a clock b)) (places a b)
unfolding crowded
crowded_told a clock k b = go (eqb (first_of (is_of a k) (in_force_in a clock b)) (places a b)) refl
  where
    go : (c : Bool) → eqb (first_of (is_of a k) (in_force_in a clock b)) (places a b) ≡ c → both (not (among a k (bounds_in a b))) (eqb (length (in_force_in a clock b)) (places a b)) ≡ c
    go true e =
        let d = eqb-true (first_of (is_of a k) (in_force_in a clock b)) (places a b) e in
        let f = first_le (is_of a k) (in_force_in a clock b) in
        let g = force_few a clock b in
        let l = use_few a b in
        let n = in_use_long a b in
        let all : in_force_in a clock b ≡ bounds_in a b = keep_all (in_force a clock) (bounds_in a b) (omega arith) in
        let none : among a k (bounds_in a b) ≡ false = first_none a k (bounds_in a b) (ap (first_of (is_of a k)) (sym all) ∙ omega arith) in
        rw (none, eq-eqb (length (in_force_in a clock b)) (places a b) (omega arith))
    go false e = other (among a k (bounds_in a b)) refl
      where
        other : (m : Bool) → among a k (bounds_in a b) ≡ m → both (not m) (eqb (length (in_force_in a clock b)) (places a b)) ≡ false
        other true h = refl
        other false h = rw (← none_first a k (in_force a clock) (bounds_in a b) h) e

-- the same, from what was found
pub crowded_found : (a clock : ℕ) (k b : List ℕ) (found : Standing) → found ≡ standing_in a clock k (bounds_in a b) → eqb found.place (places a b) ≡ crowded a clock k b
unfolding standing_in
crowded_found a clock k b found e = rw e (sym (crowded_told a clock k b))

-- there is a place
pub place_in : (a clock : ℕ) (k b : List ℕ) → crowded a clock k b ≡ false → first_of (is_of a k) (in_force_in a clock b) < places a b
place_in a clock k b h =
    let d = eqb-false (first_of (is_of a k) (in_force_in a clock b)) (places a b) (sym (crowded_told a clock k b) ∙ h) in
    let f = first_le (is_of a k) (in_force_in a clock b) in
    let g = force_few a clock b in
    let l = use_few a b in
    ⊎_elim (λ q. absurd (d q)) (λ q. q) (eq-or-lt_of_le (let m : first_of (is_of a k) (in_force_in a clock b) ≤ places a b = omega arith in m))
