-- What entering does to the untils of pairs, and the step of "asking again never shortens a wait": an earlier ticket stays owed whatever is entered since.
use mathlib.Core.Path.{◌≡◌, refl, ap, ◌∙◌}
use mathlib.Core.Bool.{Bool, true, false, cond}
use mathlib.Core.List.{List, [], ◌∷◌}
use Prim.Native.Nat.{ℕ, ◌+◌, ◌-◌, ◌^◌, ◌≤◌, ◌<◌, max, min}
use native.Mathlib.Omega.{arith}
use borrow.Author.Tests.{lt-ltb, ltb-true, ltb-false}
use lib.Dec.{ltb}
use lib.ListN.{length}
use Rattle.octets.proofs.Runs.{same_true, same_refl, same_differ}
use Rattle.settings.specs.Settings.{lifetime, last_clock}
use Rattle.record.specs.Layout.{pair_size, pair, until}
use Rattle.cache.specs.Chunks.{keep}
use Rattle.bounds.specs.Bounds.{last_until, bound_of, is_of, bounds_in, well_bounded}
use Rattle.entering.specs.Entering.{until_in, in_force, in_force_in, written, entered, crowded, Owed}
use Rattle.entering.proofs.Form.{bound_pair, bound_until, Left, entered_well}

-- ---- of lists of records

module _ (a : ℕ) (k : List ℕ) (u : ℕ) (long : length k ≡ pair_size a) where
  own_until : u < 2 ^ 64 → (rs : List (List ℕ)) → until_in a k (written a k u rs) ≡ u
  unfolding until_in written
  own_until h [] = rw (bound_pair a u k long, same_refl k) (bound_until a u k long h)
  own_until h (r ∷ rs) = go (is_of a k r) refl (own_until h rs)
    where
      go : (b : Bool) → is_of a k r ≡ b → until_in a k (written a k u rs) ≡ u → until_in a k (cond b (bound_of k u ∷ rs) (r ∷ written a k u rs)) ≡ u
      go true e i = rw (bound_pair a u k long, same_refl k) (bound_until a u k long h)
      go false e i = rw e i

  other_until : (x : List ℕ) → (k ≡ x → ⊥) → (rs : List (List ℕ)) → until_in a x (written a k u rs) ≡ until_in a x rs
  unfolding until_in written
  other_until x d [] = rw (bound_pair a u k long, same_differ k x d)
  other_until x d (r ∷ rs) = go (is_of a k r) refl (other_until x d rs)
    where
      go : (b : Bool) → is_of a k r ≡ b → until_in a x (written a k u rs) ≡ until_in a x rs
          → until_in a x (cond b (bound_of k u ∷ rs) (r ∷ written a k u rs)) ≡ cond (is_of a x r) (until a r) (until_in a x rs)
      go true e i = rw (bound_pair a u k long, same_differ k x d, same_true (pair a r) k e, same_differ k x d)
      go false e i = ap (cond (is_of a x r) (until a r)) i

-- of a pair in force, dropping those past their time changes nothing
force_until : (a clock : ℕ) (k : List ℕ) (rs : List (List ℕ)) → clock < until_in a k rs → until_in a k (keep (in_force a clock) rs) ≡ until_in a k rs
unfolding until_in keep
force_until a clock k [] h = refl
force_until a clock k (r ∷ rs) h = go (is_of a k r) refl (ltb clock (until a r)) refl h (force_until a clock k rs)
  where
    go : (b : Bool) → is_of a k r ≡ b → (c : Bool) → ltb clock (until a r) ≡ c → clock < cond b (until a r) (until_in a k rs)
        → (clock < until_in a k rs → until_in a k (keep (in_force a clock) rs) ≡ until_in a k rs)
        → until_in a k (cond c (r ∷ keep (in_force a clock) rs) (keep (in_force a clock) rs)) ≡ cond b (until a r) (until_in a k rs)
    go true e true f h i = rw e
    go true e false f h i = let t = lt-ltb clock (until a r) h in let z : ◌≡◌ {A = ℕ} 0 1 = cc in absurd (omega arith)
    go false e true f h i = rw (e, i h)
    go false e false f h i = i h

-- ---- of the bounds

-- what a ticket enters
module _ (a clock : ℕ) (k : List ℕ) (u : ℕ) (b : List ℕ) (h : well_bounded a b ≡ true) (f : crowded a clock k b ≡ false) (long : length k ≡ pair_size a) (l : u ≤ last_until) where
  left : Left a clock k u b
  left = entered_well a clock k u b h f long l

  -- the pair's until is the one entered
  pub entered_own : until_in a k (bounds_in a (entered a clock k u b)) ≡ u
  entered_own = rw left.records (own_until a k u long (omega arith) (in_force_in a clock b))

  -- another's in force stays as it is
  pub entered_other : (x : List ℕ) → (k ≡ x → ⊥) → clock < until_in a x (bounds_in a b) → until_in a x (bounds_in a (entered a clock k u b)) ≡ until_in a x (bounds_in a b)
  entered_other x d m = rw left.records (other_until a k u long x d (in_force_in a clock b) ∙ force_until a clock x (bounds_in a b) m)

-- ---- asking again never shortens a wait: its step (specs/Entering.antt, `Owed`)

-- a call that leaves the bounds as they were, and the clock not before
pub owed_later : (a : ℕ) (k : List ℕ) (t u clock later : ℕ) (b : List ℕ) → Owed a k t u clock b → clock ≤ later → Owed a k t u later b
owed_later a k t u clock later b o h = record { before = omega (arith, o.before); cut = o.cut; owed = omega (arith, o.owed) }

-- a ticket is issued
module _ (a clock : ℕ) (k : List ℕ) (u : ℕ) (b : List ℕ) (h : well_bounded a b ≡ true) (f : crowded a clock k b ≡ false) (long : length k ≡ pair_size a) (early : clock ≤ last_clock) where
  -- it is owed from then on
  pub owed_start : u ≤ lifetime → Owed a k clock u clock (entered a clock k (clock + u) b)
  owed_start l =
      let e = entered_own a clock k (clock + u) b h f long (omega arith) in
      record { before = omega arith; cut = l; owed = omega arith }

  -- to another pair
  pub owed_another : (x : List ℕ) (t v past : ℕ) → (k ≡ x → ⊥) → clock + u ≤ last_until → Owed a x t v past b → past ≤ clock → Owed a x t v clock (entered a clock k (clock + u) b)
  owed_another x t v past d l o m = record { before = omega (arith, o.before); cut = o.cut; owed = go (ltb clock (until_in a x (bounds_in a b))) refl }
    where
      go : (c : Bool) → ltb clock (until_in a x (bounds_in a b)) ≡ c → t + v ≤ max (until_in a x (bounds_in a (entered a clock k (clock + u) b))) clock
      go true e =
          let q = entered_other a clock k (clock + u) b h f long l x d (ltb-true clock (until_in a x (bounds_in a b)) e) in
          omega (arith, o.owed)
      go false e = let q = ltb-false clock (until_in a x (bounds_in a b)) e in omega (arith, o.owed)

-- to the same pair, for what its wait used is cut to the lifetime
abbrev pub used_for : ℕ → ℕ → List ℕ → ℕ → List ℕ → ℕ
used_for a clock k recipe b = max recipe (until_in a k (bounds_in a b) - clock)

-- "Whoever asks afresh, when the registrar looks emptier, is told a shorter wait." It is not: the second wait, cut to the lifetime, is at least the first, cut
-- so, less the time between them
pub owed_again : (a clock : ℕ) (k : List ℕ) (recipe t u past : ℕ) (b : List ℕ) → well_bounded a b ≡ true → crowded a clock k b ≡ false → length k ≡ pair_size a → clock ≤ last_clock
    → Owed a k t u past b → past ≤ clock
    → (u - (clock - t) ≤ min lifetime (used_for a clock k recipe b)) × Owed a k t u clock (entered a clock k (clock + min lifetime (used_for a clock k recipe b)) b)
owed_again a clock k recipe t u past b h f long early o m =
    let e = entered_own a clock k (clock + min lifetime (used_for a clock k recipe b)) b h f long (omega arith) in
    (omega (arith, o.before, o.cut, o.owed), record { before = omega (arith, o.before); cut = o.cut; owed = omega (arith, o.before, o.cut, o.owed) })
