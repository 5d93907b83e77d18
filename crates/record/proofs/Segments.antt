-- Tables of refusals one behind the other: the first's number is that of both, or else the second's.
use mathlib.Core.Path.{◌≡◌, refl, sym, ◌∙◌}
use mathlib.Core.Bool.{Bool, true, false, not, cond}
use mathlib.Core.List.{List, [], ◌∷◌, ◌++◌}
use Prim.Native.Nat.{ℕ, zero, suc, ◌≤◌}
use native.Mathlib.Omega.{arith}
use lib.Dec.{eqb, ltb}
use borrow.Author.Tests.{ltb-true, eqb-false, not-true}
use Rattle.octets.specs.Runs.{both}
use Rattle.octets.proofs.Runs.{both_true}
use Rattle.record.specs.Refusals.{Row, row, refusal, or_else}

-- ---- two numbers

pub or_first : (m n : ℕ) → (m ≡ 0 → ⊥) → or_else m n ≡ m
or_first zero n h = absurd (h refl)
or_first (suc m) n h = refl

pub or_second : (m n : ℕ) → m ≡ 0 → or_else m n ≡ n
or_second m n h = rw h

-- ---- two tables

-- every row has a number: of rows that are written out it is `refl`
abbrev pub numbered : List Row → Bool
numbered [] = true
numbered (r ∷ rs) = both (ltb 0 r.number) (numbered rs)

-- so the first has one, and those behind it have
each : (r : Row) (rs : List Row) → numbered (r ∷ rs) ≡ true → (1 ≤ r.number) × (numbered rs ≡ true)
each r rs h = let t = both_true (ltb 0 r.number) (numbered rs) h in (ltb-true 0 r.number t.0, t.1)

pub rows_joined : (rs ss : List Row) → numbered rs ≡ true → refusal (rs ++ ss) ≡ or_else (refusal rs) (refusal ss)
unfolding refusal
rows_joined [] ss h = refl
rows_joined (r ∷ rs) ss h = go r.number r.holds (each r rs h).0 (rows_joined rs ss (each r rs h).1)
  where
    go : (n : ℕ) (t : Bool) → 1 ≤ n → refusal (rs ++ ss) ≡ or_else (refusal rs) (refusal ss) → cond t n (refusal (rs ++ ss)) ≡ or_else (cond t n (refusal rs)) (refusal ss)
    go zero true some k = absurd (omega arith)
    go (suc n) true some k = refl
    go n false some k = k

pub first_rows : (rs ss : List Row) → (refusal rs ≡ 0 → ⊥) → refusal (rs ++ ss) ≡ refusal rs
unfolding refusal
first_rows [] ss h = absurd (h refl)
first_rows (r ∷ rs) ss h = go r.holds refl (first_rows rs ss)
  where
    go : (t : Bool) → r.holds ≡ t → ((refusal rs ≡ 0 → ⊥) → refusal (rs ++ ss) ≡ refusal rs) → refusal ((r ∷ rs) ++ ss) ≡ refusal (r ∷ rs)
    go true e k = rw e
    go false e k = rw e (k (rw e at h))

pub rows_behind : (rs ss : List Row) → numbered rs ≡ true → refusal rs ≡ 0 → refusal (rs ++ ss) ≡ refusal ss
rows_behind rs ss n h = rows_joined rs ss n ∙ or_second _ _ h

-- what a function tells of two tables: the first's number at once; the second's, where the first gives none; or, with both in hand, either's
pub told_first : {r : ℕ} (rs ss : List Row) → r ≡ refusal rs → (r ≡ 0 → ⊥) → r ≡ refusal (rs ++ ss)
told_first rs ss e h = e ∙ sym (first_rows rs ss (λ z. h (e ∙ z)))

pub told_next : {r n : ℕ} (rs ss : List Row) → numbered rs ≡ true → r ≡ refusal rs → r ≡ 0 → n ≡ refusal ss → n ≡ refusal (rs ++ ss)
told_next rs ss h e z k = k ∙ sym (rows_behind rs ss h (sym e ∙ z))

pub told_either : {r n m : ℕ} (rs ss : List Row) → numbered rs ≡ true → m ≡ or_else r n → r ≡ refusal rs → n ≡ refusal ss → m ≡ refusal (rs ++ ss)
told_either rs ss h o e k = o ∙ rw (e, k) (sym (rows_joined rs ss h))

-- where all the rows give none, so do the first and those behind them
pub record NoneOf (rs ss : List Row) : Type 0 where
  pub here : refusal rs ≡ 0
  pub behind : refusal ss ≡ 0

pub none_of : (rs ss : List Row) → numbered rs ≡ true → refusal (rs ++ ss) ≡ 0 → NoneOf rs ss
none_of rs ss n h = go (refusal rs) refl (sym (rows_joined rs ss n) ∙ h)
  where
    go : (m : ℕ) → refusal rs ≡ m → or_else m (refusal ss) ≡ 0 → NoneOf rs ss
    go zero e k = record { here = e; behind = k }
    go (suc m) e k = absurd (omega arith)

-- ---- a row whose condition is true

-- the rows behind it are not asked
pub stops_there : (rs ss : List Row) (n : ℕ) → refusal (rs ++ (row n true ∷ ss)) ≡ refusal (rs ++ (row n true ∷ []))
unfolding refusal
stops_there [] ss n = refl
stops_there (r ∷ rs) ss n = go r.holds (stops_there rs ss n)
  where
    go : (t : Bool) → refusal (rs ++ (row n true ∷ ss)) ≡ refusal (rs ++ (row n true ∷ []))
        → cond t r.number (refusal (rs ++ (row n true ∷ ss))) ≡ cond t r.number (refusal (rs ++ (row n true ∷ [])))
    go true k = refl
    go false k = k

-- and a number is given
pub refused_there : (rs : List Row) (n : ℕ) → numbered rs ≡ true → 1 ≤ n → 1 ≤ refusal (rs ++ (row n true ∷ []))
unfolding refusal
refused_there [] n h some = some
refused_there (r ∷ rs) n h some = go r.holds (refused_there rs n (each r rs h).1 some)
  where
    go : (t : Bool) → 1 ≤ refusal (rs ++ (row n true ∷ [])) → 1 ≤ cond t r.number (refusal (rs ++ (row n true ∷ [])))
    go true k = (each r rs h).0
    go false k = k

-- ---- a row between others

-- a row that is not told might as well not be there
pub unless_told : (rs ss : List Row) (n : ℕ) (t : Bool) → (refusal (rs ++ (row n t ∷ ss)) ≡ n → ⊥) → refusal (rs ++ (row n t ∷ ss)) ≡ refusal (rs ++ ss)
unfolding refusal
unless_told [] ss n true h = absurd (h refl)
unless_told [] ss n false h = refl
unless_told (r ∷ rs) ss n t h = go r.holds refl (unless_told rs ss n t)
  where
    go : (b : Bool) → r.holds ≡ b → ((refusal (rs ++ (row n t ∷ ss)) ≡ n → ⊥) → refusal (rs ++ (row n t ∷ ss)) ≡ refusal (rs ++ ss))
        → refusal ((r ∷ rs) ++ (row n t ∷ ss)) ≡ refusal ((r ∷ rs) ++ ss)
    go true e k = rw e
    go false e k = rw e (k (rw e at h))

-- no row has the number n: of rows that are written out it is `refl`
abbrev pub without : ℕ → List Row → Bool
without n [] = true
without n (r ∷ rs) = both (not (eqb r.number n)) (without n rs)

-- so it is not told
pub never_told : (n : ℕ) (rs : List Row) → 1 ≤ n → without n rs ≡ true → refusal rs ≡ n → ⊥
unfolding refusal
never_told n [] some h e = omega arith
never_told n (r ∷ rs) some h e = go r.holds refl (never_told n rs some)
  where
    other : (not (eqb r.number n) ≡ true) × (without n rs ≡ true)
    other = both_true (not (eqb r.number n)) (without n rs) h

    go : (t : Bool) → r.holds ≡ t → (without n rs ≡ true → refusal rs ≡ n → ⊥) → ⊥
    go true k none = eqb-false r.number n (not-true _ other.0) (rw k at e)
    go false k none = none other.1 (rw k at e)

-- a row whose number no other has is told exactly where its condition is true and those above it give none
pub record ToldThere (rs : List Row) (t : Bool) : Type 0 where
  pub above : refusal rs ≡ 0
  pub holds : t ≡ true

pub told_there : (rs ss : List Row) (n : ℕ) (t : Bool) → numbered rs ≡ true → 1 ≤ n → without n rs ≡ true → without n ss ≡ true
    → refusal (rs ++ (row n t ∷ ss)) ≡ n → ToldThere rs t
unfolding refusal
told_there rs ss n t h some one other e = go (refusal rs) t refl refl (sym (rows_joined rs (row n t ∷ ss) h) ∙ e)
  where
    go : (m : ℕ) (b : Bool) → refusal rs ≡ m → t ≡ b → or_else m (cond t n (refusal ss)) ≡ n → ToldThere rs t
    go zero true k l p = record { above = k; holds = l }
    go zero false k l p = absurd (never_told n ss some other (rw l at p))
    go (suc m) b k l p = absurd (never_told n rs some one (k ∙ p))
