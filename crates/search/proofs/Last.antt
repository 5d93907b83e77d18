-- The last entry that passes a test (specs/Newest.antt): how it is met from the end, and that it is the newest where accepted times never fall.
use mathlib.Core.Path.{◌≡◌, refl, ap, ◌∙◌}
use mathlib.Core.Bool.{Bool, true, false, cond}
use mathlib.Core.List.{List, [], ◌∷◌, ◌++◌}
use Prim.Native.Nat.{ℕ, zero, suc, ◌+◌, ◌-◌, ◌*◌, ◌≤◌, ◌<◌}
use native.Mathlib.Omega.{arith}
use native.Mathlib.Nat.{mul-suc, mul-zero, add-zero, not-suc-le-zero, le_of_suc-le-suc, le_trans, le_refl}
use lib.Dec.{leb}
use lib.ListN.{length, take, drop, get_or}
use borrow.Author.Tests.{leb-true, le-leb}
use Rattle.octets.specs.Runs.{part}
use Rattle.octets.proofs.Runs.{part_drop, both_one}
use Rattle.record.specs.Layout.{accepted}
use Rattle.cache.specs.Chunks.{chunks}
use Rattle.cache.specs.Cache.{never_fall}
use Rattle.cache.proofs.Chunks.{length_chunks, both_left, both_right}
use Rattle.search.specs.Place.{Best, Nothing, Entry}
use Rattle.search.specs.Newest.{not_later, newest_from, last_step, last_of}

-- ---- met from the end

last_more : (p : List ℕ → Bool) (es : List (List ℕ)) (e : List ℕ) → last_of p (es ++ (e ∷ [])) ≡ cond (p e) (suc (length es)) (last_of p es)
unfolding last_of
last_more p [] e = refl
last_more p (f ∷ es) e = ap (last_step (p f)) (last_more p es e) ∙ go (p e)
  where
    go : (b : Bool) → last_step (p f) (cond b (suc (length es)) (last_of p es)) ≡ cond b (suc (suc (length es))) (last_step (p f) (last_of p es))
    go true = refl
    go false = refl

chunks_more : (w n : ℕ) (s : List ℕ) → chunks w (suc n) s ≡ chunks w n s ++ (part (w * n) w s ∷ [])
unfolding chunks part
chunks_more w zero s = rw mul-zero
chunks_more w (suc n) s =
    let e : w + w * n ≡ w * suc n = rw mul-suc (omega arith) in
    ap (λ (l : List (List ℕ)). take w s ∷ l) (chunks_more w n (drop w s)) ∙ rw (part_drop (w * n) w w s, e)

-- with n entries left before the end: the last of them is the one, or the last of those before it
pub last_met : (p : List ℕ → Bool) (w n : ℕ) (s : List ℕ) → last_of p (chunks w (suc n) s) ≡ cond (p (part (w * n) w s)) (suc n) (last_of p (chunks w n s))
last_met p w n s = ap (last_of p) (chunks_more w n s) ∙ last_more p (chunks w n s) (part (w * n) w s) ∙ rw length_chunks

-- so of the first `left` entries the last one is the one, or the last of the others is
module _ (p : List ℕ → Bool) (w left : ℕ) (s : List ℕ) (some : 0 < left) where
  met : last_of p (chunks w left s) ≡ cond (p (part (w * (left - 1)) w s)) (suc (left - 1)) (last_of p (chunks w (left - 1) s))
  met = let e : left ≡ suc (left - 1) = omega arith in ap (λ (j : ℕ). last_of p (chunks w j s)) e ∙ last_met p w (left - 1) s

  pub last_hit : p (part (w * (left - 1)) w s) ≡ true → last_of p (chunks w left s) ≡ suc (left - 1)
  last_hit h = met ∙ rw h

  pub last_missed : p (part (w * (left - 1)) w s) ≡ false → last_of p (chunks w left s) ≡ last_of p (chunks w (left - 1) s)
  last_missed h = met ∙ rw h

pub last_none : (p : List ℕ → Bool) (w : ℕ) (s : List ℕ) → last_of p (chunks w 0 s) ≡ 0
unfolding last_of chunks
last_none p w s = refl

-- ---- which one it is

pub record Last (p : List ℕ → Bool) (es : List (List ℕ)) (k : ℕ) : Type 0 where
  pub inside : k < length es
  pub passes : p (get_or es k []) ≡ true

pub last_is : (p : List ℕ → Bool) (es : List (List ℕ)) (k : ℕ) → last_of p es ≡ suc k → Last p es k
unfolding last_of
last_is p [] k h = absurd (omega (arith, h))
last_is p (e ∷ es) k h = go (p e) refl (last_of p es) (λ j q. last_is p es j q) k h
  where
    go : (b : Bool) → p e ≡ b → (m : ℕ) → ((j : ℕ) → m ≡ suc j → Last p es j) → (j : ℕ) → last_step b m ≡ suc j → Last p (e ∷ es) j
    go true t zero l zero q = record { inside = omega arith; passes = t }
    go true t zero l (suc j) q = absurd (omega (arith, q))
    go false t zero l j q = absurd (omega (arith, q))
    go b t (suc m) l zero q = absurd (omega (arith, q))
    go b t (suc m) l (suc j) q = let i = l j (omega (arith, q)) in record { inside = omega (arith, i.inside); passes = i.passes }

-- one that passes is not behind it
pub not_behind : (p : List ℕ → Bool) (es : List (List ℕ)) (j : ℕ) → j < length es → p (get_or es j []) ≡ true → j < last_of p es
unfolding last_of
not_behind p [] j h t = absurd (not-suc-le-zero h)
not_behind p (e ∷ es) zero h t = go (last_of p es)
  where
    go : (m : ℕ) → 0 < last_step (p e) m
    go zero = rw t (omega arith)
    go (suc m) = omega arith
not_behind p (e ∷ es) (suc j) h t = go (last_of p es) (not_behind p es j (le_of_suc-le-suc h) t)
  where
    go : (m : ℕ) → j < m → suc j < last_step (p e) m
    go zero k = absurd (not-suc-le-zero k)
    go (suc m) k = omega arith

-- ---- it is the newest

-- the newest so far was not accepted after t
abbrev pub NotAfter : Best → ℕ → Type 0
NotAfter Nothing t = Unit {0}
NotAfter (Entry i u) t = u ≤ t

not_after_next : (b : Best) (t u : ℕ) → NotAfter b t → t ≤ u → NotAfter b u
not_after_next Nothing t u h k = tt
not_after_next (Entry i v) t u h k = le_trans h k

-- the entry up to which n stand, or the newest so far where there is none
abbrev pub best_of : ℕ → ℕ → List (List ℕ) → Best → Best
best_of i zero es b = b
best_of i (suc k) es b = Entry (i + k) (accepted (get_or es k []))

-- "The first match met from the end may be an old one." It is the newest: accepted times never fall, and at equal times the later place is the one
newest_from_lem : (p : List ℕ → Bool) (i t : ℕ) (b : Best) (es : List (List ℕ)) → NotAfter b t → never_fall t es ≡ true → newest_from p i b es ≡ best_of i (last_of p es) es b
unfolding newest_from never_fall last_of
newest_from_lem p i t b [] h k = refl
newest_from_lem p i t b (e ∷ es) h k =
    let l : t ≤ accepted e = leb-true t (accepted e) (both_left (leb t (accepted e)) (never_fall (accepted e) es) k) in
    let r = both_right (leb t (accepted e)) (never_fall (accepted e) es) k in
    rw (takes b (accepted e) (not_after_next b t (accepted e) h l), both_one (p e))
    (go (p e) (newest_from_lem p (suc i) (accepted e) (Entry i (accepted e)) es (le_refl (accepted e)) r)
    (newest_from_lem p (suc i) (accepted e) b es (not_after_next b t (accepted e) h l) r))
  where
    -- at equal times too
    takes : (a : Best) (u : ℕ) → NotAfter a u → not_later a u ≡ true
    takes Nothing u q = refl
    takes (Entry j v) u q = le-leb v u q

    next : (c : Bool) (m : ℕ) → best_of (suc i) m es (cond c (Entry i (accepted e)) b) ≡ best_of i (last_step c m) (e ∷ es) b
    next true zero = rw add-zero
    next false zero = refl
    next c (suc m) = let q : suc i + m ≡ i + suc m = omega arith in rw q

    go : (c : Bool) → newest_from p (suc i) (Entry i (accepted e)) es ≡ best_of (suc i) (last_of p es) es (Entry i (accepted e))
        → newest_from p (suc i) b es ≡ best_of (suc i) (last_of p es) es b
        → newest_from p (suc i) (cond c (Entry i (accepted e)) b) es ≡ best_of i (last_step c (last_of p es)) (e ∷ es) b
    go true x y = x ∙ next true (last_of p es)
    go false x y = y ∙ next false (last_of p es)

pub newest_last : (p : List ℕ → Bool) (es : List (List ℕ)) → never_fall 0 es ≡ true → newest_from p 0 Nothing es ≡ best_of 0 (last_of p es) es Nothing
newest_last p es k = newest_from_lem p 0 0 Nothing es tt k
