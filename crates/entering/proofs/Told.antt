-- What the records tell of a pair (specs/Entering.antt, `standing_in`): by the first record of the pair, and by how many are in force before and behind it.
use mathlib.Core.Path.{◌≡◌, refl, sym, ap, ◌∙◌}
use mathlib.Core.Bool.{Bool, true, false, not, cond, ◌||◌}
use mathlib.Core.List.{List, [], ◌∷◌}
use mathlib.Core.Logic.{⊎_elim}
use Prim.Native.Nat.{ℕ, zero, suc, ◌+◌, ◌-◌, ◌*◌, ◌≤◌, ◌<◌}
use native.Mathlib.Omega.{arith}
use native.Mathlib.Nat.{mul-suc, mul-zero, mul-add, eq-or-lt_of_le}
use borrow.Author.Tests.{leb-true, lt-ltb, le-ltb, not-true}
use lib.Dec.{ltb}
use lib.ListN.{length, take, drop, length-append, take-append-drop}
use Rattle.octets.specs.Numbers.{number}
use Rattle.octets.specs.Runs.{part}
use Rattle.octets.proofs.Runs.{part_drop, part_part, same_true}
use Rattle.record.specs.Layout.{bound_size, until_at, time_size, pair, until}
use Rattle.cache.specs.Chunks.{chunks, keep, first_of, every}
use Rattle.cache.proofs.Chunks.{first_le, keep_append, drop_chunks, length_chunks, both_left, both_right, both_intro}
use Rattle.cache.proofs.Walk.{step}
use Rattle.bounds.specs.Bounds.{is_of, bounds_in, in_use, among, each_once}
use Rattle.bounds.specs.Told.{not_before}
use Rattle.entering.specs.declared.Standing.{Standing}
use Rattle.entering.specs.Entering.{until_in, in_force, standing_in}
use Rattle.entering.specs.Packing.{stay}

-- ---- of lists of records

module _ (a : ℕ) (k : List ℕ) where
  -- none is of the pair
  pub first_none : (rs : List (List ℕ)) → first_of (is_of a k) rs ≡ length rs → among a k rs ≡ false
  unfolding first_of among
  first_none [] h = refl
  first_none (r ∷ rs) h = go (is_of a k r) h (first_none rs)
    where
      go : (b : Bool) → cond b 0 (suc (first_of (is_of a k) rs)) ≡ suc (length rs) → (first_of (is_of a k) rs ≡ length rs → among a k rs ≡ false) → (b || among a k rs) ≡ false
      go true e i = absurd (omega arith)
      go false e i = i (omega arith)

  pub none_first : (p : List ℕ → Bool) (rs : List (List ℕ)) → among a k rs ≡ false → first_of (is_of a k) (keep p rs) ≡ length (keep p rs)
  unfolding first_of among keep
  none_first p [] h = refl
  none_first p (r ∷ rs) h = go (is_of a k r) refl (p r) h (none_first p rs)
    where
      go : (b : Bool) → is_of a k r ≡ b → (c : Bool) → (b || among a k rs) ≡ false → (among a k rs ≡ false → first_of (is_of a k) (keep p rs) ≡ length (keep p rs))
          → first_of (is_of a k) (cond c (r ∷ keep p rs) (keep p rs)) ≡ length (cond c (r ∷ keep p rs) (keep p rs))
      go true d c e i = let z : ◌≡◌ {A = ℕ} 0 1 = cc in absurd (omega arith)
      go false d true e i = rw d (ap suc (i e))
      go false d false e i = i e

  pub none_until : (rs : List (List ℕ)) → among a k rs ≡ false → until_in a k rs ≡ 0
  unfolding among until_in
  none_until [] h = refl
  none_until (r ∷ rs) h = go (is_of a k r) h (none_until rs)
    where
      go : (b : Bool) → (b || among a k rs) ≡ false → (among a k rs ≡ false → until_in a k rs ≡ 0) → cond b (until a r) (until_in a k rs) ≡ 0
      go true h i = let z : ◌≡◌ {A = ℕ} 0 1 = cc in absurd (omega arith)
      go false h i = i h

  -- the pair's own stands, among those in force, behind those in force before it
  found_force : (clock : ℕ) (rs : List (List ℕ)) → clock < until_in a k rs → first_of (is_of a k) (keep (in_force a clock) rs) ≡ length (keep (in_force a clock) (take (first_of (is_of a k) rs) rs))
  unfolding first_of until_in keep
  found_force clock [] h = refl
  found_force clock (r ∷ rs) h = go (is_of a k r) refl (ltb clock (until a r)) refl h (found_force clock rs)
    where
      go : (b : Bool) → is_of a k r ≡ b → (c : Bool) → ltb clock (until a r) ≡ c → clock < cond b (until a r) (until_in a k rs)
          → (clock < until_in a k rs → first_of (is_of a k) (keep (in_force a clock) rs) ≡ length (keep (in_force a clock) (take (first_of (is_of a k) rs) rs)))
          → first_of (is_of a k) (cond c (r ∷ keep (in_force a clock) rs) (keep (in_force a clock) rs)) ≡ length (keep (in_force a clock) (take (cond b 0 (suc (first_of (is_of a k) rs))) (r ∷ rs)))
      go true e true f h i = rw e
      go true e false f h i = let t = lt-ltb clock (until a r) h in let z : ◌≡◌ {A = ℕ} 0 1 = cc in absurd (omega arith)
      go false e true f h i = rw (e, f) (ap suc (i h))
      go false e false f h i = rw f (i h)

  -- one past its time, or none, goes behind them all
  found_past : (clock : ℕ) (rs : List (List ℕ)) → each_once a rs ≡ true → until_in a k rs ≤ clock → first_of (is_of a k) (keep (in_force a clock) rs) ≡ length (keep (in_force a clock) rs)
  unfolding first_of until_in keep each_once
  found_past clock [] o h = refl
  found_past clock (r ∷ rs) o h = go (is_of a k r) refl (ltb clock (until a r)) refl h (found_past clock rs (both_right (not (among a (pair a r) rs)) (each_once a rs) o))
    where
      go : (b : Bool) → is_of a k r ≡ b → (c : Bool) → ltb clock (until a r) ≡ c → cond b (until a r) (until_in a k rs) ≤ clock
          → (until_in a k rs ≤ clock → first_of (is_of a k) (keep (in_force a clock) rs) ≡ length (keep (in_force a clock) rs))
          → first_of (is_of a k) (cond c (r ∷ keep (in_force a clock) rs) (keep (in_force a clock) rs)) ≡ length (cond c (r ∷ keep (in_force a clock) rs) (keep (in_force a clock) rs))
      go true e true f h i = let t = le-ltb clock (until a r) h in let z : ◌≡◌ {A = ℕ} 0 1 = cc in absurd (omega arith)
      go true e false f h i =
          let n : among a (pair a r) rs ≡ false = not-true (among a (pair a r) rs) (both_left (not (among a (pair a r) rs)) (each_once a rs) o) in
          let m : among a k rs ≡ false = rw (same_true (pair a r) k e) at n in
          none_first (in_force a clock) rs m
      go false e true f h i = rw e (ap suc (i h))
      go false e false f h i = i h

  -- its until is that of the first
  found_until : (n : ℕ) (s : List ℕ) → first_of (is_of a k) (chunks (bound_size a) n s) < n
      → until_in a k (chunks (bound_size a) n s) ≡ until a (part (bound_size a * first_of (is_of a k) (chunks (bound_size a) n s)) (bound_size a) s)
  unfolding chunks first_of until_in part
  found_until zero s h = absurd (omega arith)
  found_until (suc n) s h = go (is_of a k (take (bound_size a) s)) h (found_until n (drop (bound_size a) s))
    where
      go : (b : Bool) → cond b 0 (suc (first_of (is_of a k) (chunks (bound_size a) n (drop (bound_size a) s)))) < suc n
          → (first_of (is_of a k) (chunks (bound_size a) n (drop (bound_size a) s)) < n
          → until_in a k (chunks (bound_size a) n (drop (bound_size a) s)) ≡ until a (part (bound_size a * first_of (is_of a k) (chunks (bound_size a) n (drop (bound_size a) s))) (bound_size a) (drop (bound_size a) s)))
          → cond b (until a (take (bound_size a) s)) (until_in a k (chunks (bound_size a) n (drop (bound_size a) s)))
          ≡ until a (part (bound_size a * cond b 0 (suc (first_of (is_of a k) (chunks (bound_size a) n (drop (bound_size a) s))))) (bound_size a) s)
      go true h j = rw mul-zero
      go false h j =
          let m = first_of (is_of a k) (chunks (bound_size a) n (drop (bound_size a) s)) in
          let e : bound_size a + bound_size a * m ≡ bound_size a * suc m = omega (arith, mul-suc (bound_size a) m) in
          j (omega arith) ∙ ap (until a) (part_drop (bound_size a * m) (bound_size a) (bound_size a) s ∙ ap (λ (x : ℕ). part x (bound_size a) s) e)

-- ---- of records in a buffer

take_chunks : (w n i : ℕ) (s : List ℕ) → i ≤ n → take i (chunks w n s) ≡ chunks w i s
unfolding chunks
take_chunks w n zero s h = refl
take_chunks w zero (suc i) s h = absurd (omega arith)
take_chunks w (suc n) (suc i) s h = ap (λ (l : List (List ℕ)). take w s ∷ l) (take_chunks w n i (drop w s) (omega arith))

-- those in force of the first i, and of the others
stay_split : (a clock n i : ℕ) (s : List ℕ) → i ≤ n → length (stay a clock i s) + length (stay a clock (n - i) (drop (bound_size a * i) s)) ≡ length (stay a clock n s)
stay_split a clock n i s h =
    let q = in_force a clock in
    let rs = chunks (bound_size a) n s in
    let e = ap (keep q) (sym (take-append-drop i rs)) ∙ keep_append q (take i rs) (drop i rs) in
    sym (ap length e ∙ length-append (keep q (take i rs)) (keep q (drop i rs)) ∙ rw (take_chunks (bound_size a) n i s h, drop_chunks (bound_size a) n i s))

-- before the least until all are in force
all_force : (a clock least : ℕ) → clock < least → (rs : List (List ℕ)) → every (not_before a least) rs ≡ true → length (keep (in_force a clock) rs) ≡ length rs
unfolding keep every
all_force a clock least h [] e = refl
all_force a clock least h (r ∷ rs) e =
    let l = leb-true least (until a r) (both_left (not_before a least r) (every (not_before a least) rs) e) in
    rw (lt-ltb clock (until a r) (omega arith)) (ap suc (all_force a clock least h rs (both_right (not_before a least r) (every (not_before a least) rs) e)))

pub all_stay : (a clock least n : ℕ) (s : List ℕ) → clock < least → every (not_before a least) (chunks (bound_size a) n s) ≡ true → n ≡ length (stay a clock n s)
all_stay a clock least n s h e = sym (all_force a clock least h (chunks (bound_size a) n s) e ∙ length_chunks (bound_size a) n s)

-- what holds of all holds of the first i, and of the others
every_take : (p : List ℕ → Bool) (i : ℕ) (rs : List (List ℕ)) → every p rs ≡ true → every p (take i rs) ≡ true
unfolding every
every_take p zero rs h = refl
every_take p (suc i) [] h = refl
every_take p (suc i) (r ∷ rs) h = both_intro (p r) (every p (take i rs)) (both_left (p r) (every p rs) h) (every_take p i rs (both_right (p r) (every p rs) h))

every_drop : (p : List ℕ → Bool) (i : ℕ) (rs : List (List ℕ)) → every p rs ≡ true → every p (drop i rs) ≡ true
unfolding every
every_drop p zero rs h = h
every_drop p (suc i) [] h = refl
every_drop p (suc i) (r ∷ rs) h = every_drop p i rs (both_right (p r) (every p rs) h)

module _ (a used i : ℕ) (b : List ℕ) (p : List ℕ → Bool) (eu : used ≡ in_use a b) (few : i ≤ used) (all : every p (bounds_in a b) ≡ true) where
  pub every_before : every p (chunks (bound_size a) i (drop 0 b)) ≡ true
  unfolding bounds_in
  every_before = rw (← take_chunks (bound_size a) used i b few, eu) (every_take p i (bounds_in a b) all)

  pub every_behind : every p (chunks (bound_size a) (used - i) (drop (bound_size a * i) b)) ≡ true
  unfolding bounds_in
  every_behind = rw (← drop_chunks (bound_size a) used i b, eu) (every_drop p i (bounds_in a b) all)

-- one record more counted
pub stay_step : (a clock left at u : ℕ) (s : List ℕ) (c : Bool) → 0 < left → at + bound_size a * left ≤ length s → u ≡ number (part (at + until_at a) time_size s) → ltb clock u ≡ c
    → length (stay a clock left (drop at s)) ≡ cond c 1 0 + length (stay a clock (left - 1) (drop (at + bound_size a) s))
unfolding keep
stay_step a clock left at u s c h l e f =
    let d : until a (part at (bound_size a) s) ≡ u = ap number (part_part (until_at a) time_size at (bound_size a) s (omega arith)) ∙ sym e in
    rw ((step (bound_size a) left at s h l).cut, d, f) (go c)
  where
    go : (b : Bool) → length (cond b (part at (bound_size a) s ∷ stay a clock (left - 1) (drop (at + bound_size a) s)) (stay a clock (left - 1) (drop (at + bound_size a) s))) ≡ cond b 1 0 + length (stay a clock (left - 1) (drop (at + bound_size a) s))
    go true = omega arith
    go false = omega arith

-- the same for the record behind the first i of n
pub stay_next : (a clock n i from u : ℕ) (s : List ℕ) (c : Bool) → i < n → from + bound_size a * n ≤ length s → u ≡ number (part (from + bound_size a * i + until_at a) time_size s) → ltb clock u ≡ c
    → length (stay a clock (n - i) (drop (from + bound_size a * i) s)) ≡ cond c 1 0 + length (stay a clock (n - (i + 1)) (drop (from + bound_size a * (i + 1)) s))
stay_next a clock n i from u s c h l e f =
    let m = mul-add (bound_size a) i (n - i) in
    let w : i + (n - i) ≡ n = omega arith in
    let r : bound_size a * i + bound_size a * (n - i) ≡ bound_size a * n = sym m ∙ ap (λ (j : ℕ). bound_size a * j) w in
    let o = mul-add (bound_size a) i 1 in
    let d : from + bound_size a * (i + 1) ≡ from + bound_size a * i + bound_size a = omega (arith, o) in
    let g : n - (i + 1) ≡ n - i - 1 = omega arith in
    rw (d, g) (stay_step a clock (n - i) (from + bound_size a * i) u s c (omega arith) (omega (arith, r)) e f)

pub in_use_long : (a : ℕ) (b : List ℕ) → length (bounds_in a b) ≡ in_use a b
unfolding bounds_in
in_use_long a b = length_chunks (bound_size a) (in_use a b) b

-- the index of the first of a pair
pub index_few : (a used index : ℕ) (k b : List ℕ) → used ≡ in_use a b → index ≡ first_of (is_of a k) (bounds_in a b) → index ≤ used
index_few a used index k b eu e = omega (arith, first_le (is_of a k) (bounds_in a b), in_use_long a b)

-- ---- what was found

module _ (a clock used : ℕ) (k b : List ℕ) (index before behind : ℕ) (eu : used ≡ in_use a b) (first-told : index ≡ first_of (is_of a k) (bounds_in a b)) (few : index ≤ used)
    (eb : before ≡ length (stay a clock index b)) (ef : behind ≡ length (stay a clock (used - index) (drop (bound_size a * index) b))) where
  force_told : before + behind ≡ length (keep (in_force a clock) (bounds_in a b))
  unfolding bounds_in
  force_told = rw (eb, ef, stay_split a clock used index b few, eu)

  first_used : index ≡ first_of (is_of a k) (chunks (bound_size a) used b)
  unfolding bounds_in
  first_used = rw eu first-told

  front : take index (bounds_in a b) ≡ chunks (bound_size a) index b
  unfolding bounds_in
  front = rw (← eu) (take_chunks (bound_size a) used index b few)

  -- put together
  told : (u p f : ℕ) → until_in a k (bounds_in a b) ≡ u → first_of (is_of a k) (keep (in_force a clock) (bounds_in a b)) ≡ p
      → length (keep (in_force a clock) (bounds_in a b)) ≡ f → ◌≡◌ {A = Standing} (record { until = u; place = p; force = f }) (standing_in a clock k (bounds_in a b))
  unfolding standing_in
  told u p f e ep g = sym (rw (e, ep, g))

  -- the pair has no bound
  pub none_told : index ≡ used → ◌≡◌ {A = Standing} (record { until = 0; place = before + behind; force = before + behind }) (standing_in a clock k (bounds_in a b))
  none_told h =
      let n : among a k (bounds_in a b) ≡ false = first_none a k (bounds_in a b) (sym first-told ∙ h ∙ eu ∙ sym (in_use_long a b)) in
      told 0 (before + behind) (before + behind) (none_until a k (bounds_in a b) n) (none_first a k (in_force a clock) (bounds_in a b) n ∙ sym force_told) (sym force_told)

  -- it has one
  module _ (h : index ≡ used → ⊥) (u : ℕ) (e : u ≡ number (part (bound_size a * index + until_at a) time_size b)) where
    less : index < used
    less = ⊎_elim (λ d. absurd (h d)) (λ d. d) (eq-or-lt_of_le few)

    until_told : until_in a k (bounds_in a b) ≡ u
    unfolding bounds_in
    until_told =
        let l = less in
        let m : first_of (is_of a k) (chunks (bound_size a) used b) < used = omega (arith, first_used) in
        rw (← eu)
        (found_until a k used b m ∙ rw (← first_used) (ap number (part_part (until_at a) time_size (bound_size a * index) (bound_size a) b (omega arith)) ∙ sym e))

    placed : clock < u → first_of (is_of a k) (keep (in_force a clock) (bounds_in a b)) ≡ before
    placed l =
        found_force a k clock (bounds_in a b) (rw until_told l)
        ∙ ap (λ (i : ℕ). length (keep (in_force a clock) (take i (bounds_in a b)))) (sym first-told) ∙ ap (λ (rs : List (List ℕ)). length (keep (in_force a clock) rs)) front ∙ sym eb

    pub force_standing : clock < u → ◌≡◌ {A = Standing} (record { until = u; place = before; force = before + behind }) (standing_in a clock k (bounds_in a b))
    force_standing l = told u before (before + behind) until_told (placed l) (sym force_told)

    pub past_standing : each_once a (bounds_in a b) ≡ true → u ≤ clock → ◌≡◌ {A = Standing} (record { until = u; place = before + behind; force = before + behind }) (standing_in a clock k (bounds_in a b))
    past_standing o l =
        told u (before + behind) (before + behind) until_told (found_past a k clock (bounds_in a b) o (rw until_told l) ∙ sym force_told) (sym force_told)
