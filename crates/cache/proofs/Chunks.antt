-- Laws of chunks and of lists of records (specs/Chunks.antt): read back, cut, kept, counted.
use Rattle.std.proofs.Common.{◌≡◌, ℕ, zero, suc, ◌+◌, ◌-◌, ◌*◌, ◌≤◌, Bool, true, false, cond, List, [], ◌∷◌, ◌++◌, length, take, drop, sym, refl, ap, ◌∙◌, ap₂, ⊎_elim, append_assoc, zero-le, not-suc-le-zero, mul-zero, mul-suc, arith, length-append, length-drop, take-append-drop, length-take, length-take-le, drop-drop, take_at, take-add, drop_at}
use mathlib.Core.List.Memᴰ
use mathlib.Core.List.{Memᴰ}
use native.Mathlib.Nat.{suc-sub-suc, sub-zero, zero-sub}
use lib.Seq.{take-append-le, drop-append-le}
use Rattle.octets.specs.Runs.{both}
use Rattle.octets.proofs.Runs.{both_true}
use Rattle.octets.proofs.Counting.{one_most}
use Rattle.cache.specs.Chunks.{chunks, joined, keep, first_of, count, all_of}

-- every record has a property
abbrev pub Each : (List ℕ → Type 0) → List (List ℕ) → Type 0
Each P [] = Unit {0}
Each P (r ∷ rs) = P r × Each P rs

abbrev pub Wide : ℕ → List ℕ → Type 0
Wide w r = length r ≡ w

-- ---- chunks

pub length_chunks : (w n : ℕ) (s : List ℕ) → length (chunks w n s) ≡ n
unfolding chunks
length_chunks w zero s = refl
length_chunks w (suc n) s = ap suc (length_chunks w n (drop w s))

pub joined_chunks : (w n : ℕ) (s : List ℕ) → joined (chunks w n s) ≡ take (w * n) s
unfolding chunks joined
joined_chunks w zero s = rw mul-zero
joined_chunks w (suc n) s =
    ap (λ (l : List ℕ). take w s ++ l) (joined_chunks w n (drop w s)) ∙ sym (take-add w (w * n) s)
    ∙ ap (λ (k : ℕ). take k s) (let e : w + w * n ≡ w * suc n = rw mul-suc (omega arith) in e)

pub chunks_wide : (w n : ℕ) (s : List ℕ) → w * n ≤ length s → Each (Wide w) (chunks w n s)
unfolding chunks
chunks_wide w zero s h = tt
chunks_wide w (suc n) s h =
    let k : w + w * n ≤ length s = omega (arith, mul-suc w n) in
    (length-take-le w s (omega arith), chunks_wide w n (drop w s) (rw length-drop (omega arith)))

pub length_joined : (w : ℕ) (rs : List (List ℕ)) → Each (Wide w) rs → length (joined rs) ≡ w * length rs
unfolding joined
length_joined w [] h = sym (mul-zero w)
length_joined w (r ∷ rs) (h, hs) = length-append r (joined rs) ∙ rw (h, length_joined w rs hs, mul-suc) (omega arith)

-- what was joined is read back
pub chunks_joined : (w : ℕ) (rs : List (List ℕ)) (z : List ℕ) → Each (Wide w) rs → chunks w (length rs) (joined rs ++ z) ≡ rs
unfolding chunks joined
chunks_joined w [] z h = refl
chunks_joined w (r ∷ rs) z (h, hs) =
    rw append_assoc
    (ap₂ (λ (x : List ℕ) (y : List (List ℕ)). x ∷ y) (take_at r (joined rs ++ z) w h)
    (ap (chunks w (length rs)) (drop_at r (joined rs ++ z) w h) ∙ chunks_joined w rs z hs))

pub drop_chunks : (w n g : ℕ) (s : List ℕ) → drop g (chunks w n s) ≡ chunks w (n - g) (drop (w * g) s)
unfolding chunks
drop_chunks w zero zero s = refl
drop_chunks w zero (suc g) s = rw zero-sub
drop_chunks w (suc n) zero s = rw (sub-zero, mul-zero)
drop_chunks w (suc n) (suc g) s =
    drop_chunks w n g (drop w s) ∙ rw (suc-sub-suc, drop-drop)
    (ap (λ (k : ℕ). chunks w (n - g) (drop k s)) (let e : w + w * g ≡ w * suc g = rw mul-suc (omega arith) in e))

pub take_chunks : (w n g : ℕ) (s : List ℕ) → g ≤ n → take g (chunks w n s) ≡ chunks w g s
unfolding chunks
take_chunks w n zero s h = refl
take_chunks w zero (suc g) s h = absurd (not-suc-le-zero h)
take_chunks w (suc n) (suc g) s h = let k : g ≤ n = omega arith in ap (λ (l : List (List ℕ)). take w s ∷ l) (take_chunks w n g (drop w s) k)

-- chunks that lie within a first part are that part's
chunks_front : (w n : ℕ) (p q : List ℕ) → w * n ≤ length p → chunks w n (p ++ q) ≡ chunks w n p
unfolding chunks
chunks_front w zero p q h = refl
chunks_front w (suc n) p q h =
    let k : w + w * n ≤ length p = omega (arith, mul-suc w n) in
    let here : w ≤ length p = omega arith in
    let there : w * n ≤ length (drop w p) = rw length-drop (omega arith) in
    ap₂ (λ (x : List ℕ) (y : List (List ℕ)). x ∷ y) (take-append-le w p q here)
    (ap (chunks w n) (drop-append-le w p q here) ∙ chunks_front w n (drop w p) q there)

pub chunks_take : (w n k : ℕ) (s : List ℕ) → w * n ≤ k → w * n ≤ length s → chunks w n (take k s) ≡ chunks w n s
chunks_take w n k s h l =
    let m : w * n ≤ length (take k s) = rw length-take (omega arith) in
    sym (chunks_front w n (take k s) (drop k s) m) ∙ ap (chunks w n) (take-append-drop k s)

-- ---- lists of records

pub joined_append : (xs ys : List (List ℕ)) → joined (xs ++ ys) ≡ joined xs ++ joined ys
unfolding joined
joined_append [] ys = refl
joined_append (x ∷ xs) ys = ap (λ (l : List ℕ). x ++ l) (joined_append xs ys) ∙ sym (append_assoc x (joined xs) (joined ys))

pub each_append : (P : List ℕ → Type 0) (xs ys : List (List ℕ)) → Each P xs → Each P ys → Each P (xs ++ ys)
each_append P [] ys h k = k
each_append P (x ∷ xs) ys (h, hs) k = (h, each_append P xs ys hs k)

pub each_drop : (P : List ℕ → Type 0) (g : ℕ) (xs : List (List ℕ)) → Each P xs → Each P (drop g xs)
each_drop P zero xs h = h
each_drop P (suc g) [] h = h
each_drop P (suc g) (x ∷ xs) (h, hs) = each_drop P g xs hs

-- no more than there are
pub count_le : (p : List ℕ → Bool) (rs : List (List ℕ)) → count p rs ≤ length rs
unfolding count
count_le p [] = zero-le
count_le p (r ∷ rs) = omega (arith, one_most (p r), count_le p rs)

-- one that passes is counted, and where none does nothing is
pub counted_mem : (p : List ℕ → Bool) {r : List ℕ} {rs : List (List ℕ)} → Memᴰ r rs → p r ≡ true → 1 ≤ count p rs
unfolding count
counted_mem p (Memᴰ.head {x} e) h = let k : p x ≡ true = sym (ap p e) ∙ h in rw k (omega arith)
counted_mem p (Memᴰ.tail {x} {xs} m) h = omega (arith, counted_mem p m h)

pub none_counted : (p : List ℕ → Bool) (rs : List (List ℕ)) → ((r : List ℕ) → Memᴰ r rs → p r ≡ true → ⊥) → count p rs ≡ 0
unfolding count
none_counted p [] none = refl
none_counted p (r ∷ rs) none = go (p r) refl (none_counted p rs (λ s m. none s (Memᴰ.tail m)))
  where
    go : (b : Bool) → p r ≡ b → count p rs ≡ 0 → cond b 1 0 + count p rs ≡ 0
    go true h i = absurd (none r (Memᴰ.head refl) h)
    go false h i = omega arith

pub keep_le : (p : List ℕ → Bool) (rs : List (List ℕ)) → length (keep p rs) ≤ length rs
unfolding keep
keep_le p [] = zero-le
keep_le p (r ∷ rs) = go (p r) (keep_le p rs)
  where
    go : (b : Bool) → length (keep p rs) ≤ length rs → length (cond b (r ∷ keep p rs) (keep p rs)) ≤ suc (length rs)
    go true h = omega arith
    go false h = omega arith

pub keep_append : (p : List ℕ → Bool) (rs ss : List (List ℕ)) → keep p (rs ++ ss) ≡ keep p rs ++ keep p ss
unfolding keep
keep_append p [] ss = refl
keep_append p (r ∷ rs) ss = go (p r) (keep_append p rs ss)
  where
    go : (b : Bool) → keep p (rs ++ ss) ≡ keep p rs ++ keep p ss → cond b (r ∷ keep p (rs ++ ss)) (keep p (rs ++ ss)) ≡ cond b (r ∷ keep p rs) (keep p rs) ++ keep p ss
    go true h = ap (λ (l : List (List ℕ)). r ∷ l) h
    go false h = h

-- a second test that the first lets pass whatever it does
pub keep_through : (p q : List ℕ → Bool) → ((r : List ℕ) → q r ≡ true → p r ≡ true) → (rs : List (List ℕ)) → keep q (keep p rs) ≡ keep q rs
unfolding keep
keep_through p q lets [] = refl
keep_through p q lets (r ∷ rs) = go (p r) refl (q r) refl (keep_through p q lets rs)
  where
    go : (b : Bool) → p r ≡ b → (c : Bool) → q r ≡ c → keep q (keep p rs) ≡ keep q rs → keep q (cond b (r ∷ keep p rs) (keep p rs)) ≡ cond c (r ∷ keep q rs) (keep q rs)
    go true h c k i = rw k (ap (λ (l : List (List ℕ)). cond c (r ∷ l) l) i)
    go false h true k i = let z : true ≡ false = sym (lets r k) ∙ h in let y : ◌≡◌ {A = ℕ} 0 1 = cc in absurd (omega arith)
    go false h false k i = i

-- those that are kept are those that pass
pub mem_keep : (p : List ℕ → Bool) (rs : List (List ℕ)) (r : List ℕ) → Memᴰ r (keep p rs) → Memᴰ r rs × (p r ≡ true)
unfolding keep
mem_keep p [] r m = absurd (Memᴰ.not-nil m)
mem_keep p (s ∷ rs) r m = go (p s) refl m (λ k. mem_keep p rs r k)
  where
    go : (b : Bool) → p s ≡ b → Memᴰ r (cond b (s ∷ keep p rs) (keep p rs)) → (Memᴰ r (keep p rs) → Memᴰ r rs × (p r ≡ true)) → Memᴰ r (s ∷ rs) × (p r ≡ true)
    go true h k i = ⊎_elim (λ d. (Memᴰ.head d, ap p d ∙ h)) (λ d. (Memᴰ.tail (i d).0, (i d).1)) (Memᴰ.cases_cons k)
    go false h k i = (Memᴰ.tail (i k).0, (i k).1)

pub keep_mem : (p : List ℕ → Bool) (rs : List (List ℕ)) (r : List ℕ) → Memᴰ r rs → p r ≡ true → Memᴰ r (keep p rs)
unfolding keep
keep_mem p [] r m h = m
keep_mem p (s ∷ rs) r m h = ⊎_elim (λ d. here d) (λ d. there (p s) (keep_mem p rs r d h)) (Memᴰ.cases_cons m)
  where
    here : r ≡ s → Memᴰ r (cond (p s) (s ∷ keep p rs) (keep p rs))
    here d = let t : p s ≡ true = sym (ap p d) ∙ h in rw t (Memᴰ.head d)

    there : (b : Bool) → Memᴰ r (keep p rs) → Memᴰ r (cond b (s ∷ keep p rs) (keep p rs))
    there true k = Memᴰ.tail k
    there false k = k

-- ---- tests

pub both_left : (a b : Bool) → both a b ≡ true → a ≡ true
both_left a b h = (both_true a b h).0

pub both_right : (a b : Bool) → both a b ≡ true → b ≡ true
both_right a b h = (both_true a b h).1

pub both_intro : (a b : Bool) → a ≡ true → b ≡ true → both a b ≡ true
both_intro a b h k = rw (h, k)

-- each condition of a list holds
abbrev pub Truths : List Bool → Type 0
Truths [] = Unit {0}
Truths (b ∷ bs) = (b ≡ true) × Truths bs

pub all_true : (bs : List Bool) → all_of bs ≡ true → Truths bs
all_true [] t = tt
all_true (b ∷ bs) t = (both_left b (all_of bs) t, all_true bs (both_right b (all_of bs) t))

pub first_le : (p : List ℕ → Bool) (rs : List (List ℕ)) → first_of p rs ≤ length rs
unfolding first_of
first_le p [] = zero-le
first_le p (r ∷ rs) = go (p r) (first_le p rs)
  where
    go : (b : Bool) → first_of p rs ≤ length rs → cond b 0 (suc (first_of p rs)) ≤ suc (length rs)
    go true h = zero-le
    go false h = omega arith
