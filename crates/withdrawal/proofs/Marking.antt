-- Laws of the first record that passes a test (specs/Marking.antt): where it is, one byte that is written there, and what another kind leaves as it was.
use mathlib.Core.Path.{◌≡◌, refl, sym, ap, ◌∙◌}
use mathlib.Core.Bool.{Bool, true, false, cond, or-true}
use mathlib.Core.List.{List, [], ◌∷◌, ◌++◌, append_assoc, Memᴰ}
use Prim.Native.Nat.{ℕ, zero, suc, ◌+◌, ◌-◌, ◌*◌, ◌≤◌, ◌<◌}
use native.Mathlib.Omega.{arith}
use native.Mathlib.Nat.{mul-zero, mul-suc}
use lib.Dec.{leb, eqb}
use lib.ListN.{length, set, replicate}
use borrow.Author.Tests.{eq-eqb}
use Rattle.octets.specs.Runs.{both}
use Rattle.record.specs.Layout.{accepted}
use Rattle.record.specs.Entries.{with_kind}
use Rattle.record.proofs.Entries.{with_length, with_accepted}
use Rattle.cache.specs.declared.Shape.{Shape}
use Rattle.cache.specs.declared.Head.{Head}
use Rattle.cache.specs.Chunks.{joined, count, every}
use Rattle.cache.specs.Cache.{width, size_of, head_of, cache_of, is_entry, never_fall, is_not_after}
use Rattle.cache.proofs.Chunks.{Each, Wide, both_left, both_right, both_intro}
use Rattle.cache.proofs.Cache.{Contents, length_head}
use Rattle.withdrawal.specs.Marking.{first_of, marked}

-- "Of several the newest is taken." It is not: where none passes before it, the first that does gets the kind, whatever stands behind it, and nothing else changes
pub oldest_marked : (p : List ℕ → Bool) (kind : ℕ) (rs ss : List (List ℕ)) (r : List ℕ) → count p rs ≡ 0 → p r ≡ true
    → marked p kind (rs ++ (r ∷ ss)) ≡ rs ++ (with_kind kind r ∷ ss)
unfolding marked count
oldest_marked p kind [] ss r none passes = rw passes
oldest_marked p kind (q ∷ rs) ss r none passes = go (p q) none (oldest_marked p kind rs ss r)
  where
    go : (b : Bool) → cond b 1 0 + count p rs ≡ 0 → (count p rs ≡ 0 → p r ≡ true → marked p kind (rs ++ (r ∷ ss)) ≡ rs ++ (with_kind kind r ∷ ss))
        → cond b (with_kind kind q ∷ (rs ++ (r ∷ ss))) (q ∷ marked p kind (rs ++ (r ∷ ss))) ≡ q ∷ (rs ++ (with_kind kind r ∷ ss))
    go true e i = absurd (omega arith)
    go false e i = ap (λ (l : List (List ℕ)). q ∷ l) (i (omega arith) passes)

-- and who does not pass keeps its kind
pub marked_keeps : (p : List ℕ → Bool) (kind : ℕ) {e : List ℕ} {rs : List (List ℕ)} → Memᴰ e rs → p e ≡ false → Memᴰ e (marked p kind rs)
unfolding marked
marked_keeps p kind (Memᴰ.head {x} {xs} d) h = let k : p x ≡ false = sym (ap p d) ∙ h in rw k (Memᴰ.head d)
marked_keeps p kind {e = e} (Memᴰ.tail {x} {xs} m) h = go (p x) (marked_keeps p kind m h)
  where
    go : (b : Bool) → Memᴰ e (marked p kind xs) → Memᴰ e (cond b (with_kind kind x ∷ xs) (x ∷ marked p kind xs))
    go true i = Memᴰ.tail m
    go false i = Memᴰ.tail i

-- ---- where it is

-- all stand before it: none passes
pub none_first : (p : List ℕ → Bool) (rs : List (List ℕ)) → first_of p rs ≡ length rs → count p rs ≡ 0
unfolding first_of count
none_first p [] h = refl
none_first p (r ∷ rs) h = go (p r) h (none_first p rs)
  where
    go : (b : Bool) → cond b 0 (suc (first_of p rs)) ≡ suc (length rs) → (first_of p rs ≡ length rs → count p rs ≡ 0) → cond b 1 0 + count p rs ≡ 0
    go true e i = absurd (omega arith)
    go false e i = omega (arith, i (omega arith))

-- not all: one passes
pub some_first : (p : List ℕ → Bool) (rs : List (List ℕ)) → first_of p rs < length rs → 1 ≤ count p rs
unfolding first_of count
some_first p [] h = absurd (omega arith)
some_first p (r ∷ rs) h = go (p r) h (some_first p rs)
  where
    go : (b : Bool) → cond b 0 (suc (first_of p rs)) < suc (length rs) → (first_of p rs < length rs → 1 ≤ count p rs) → 1 ≤ cond b 1 0 + count p rs
    go true e i = omega arith
    go false e i = omega (arith, i (omega arith))

-- ---- the byte of its kind

set_behind : (xs ys : List ℕ) (k i a : ℕ) → k ≡ length xs + i → set (xs ++ ys) k a ≡ xs ++ set ys i a
set_behind [] ys k i a e = let f : k ≡ i = omega arith in rw f
set_behind (x ∷ xs) ys zero i a e = absurd (omega arith)
set_behind (x ∷ xs) ys (suc k) i a e = ap (λ (l : List ℕ). x ∷ l) (set_behind xs ys k i a (omega arith))

set_first : (e rest : List ℕ) (kind : ℕ) → 1 ≤ length e → set (e ++ rest) 0 kind ≡ with_kind kind e ++ rest
unfolding with_kind
set_first [] rest kind h = absurd (omega arith)
set_first (x ∷ e) rest kind h = refl

set_marked : (w kind : ℕ) (p : List ℕ → Bool) (rs : List (List ℕ)) (z : List ℕ) → 1 ≤ w → Each (Wide w) rs → first_of p rs < length rs
    → set (joined rs ++ z) (w * first_of p rs) kind ≡ joined (marked p kind rs) ++ z
unfolding first_of marked joined
set_marked w kind p [] z some wide h = absurd (omega arith)
set_marked w kind p (e ∷ es) z some (we, wes) h = go (p e) h (set_marked w kind p es z some wes)
  where
    f : ℕ
    f = first_of p es

    go : (b : Bool) → cond b 0 (suc f) < suc (length es) → (f < length es → set (joined es ++ z) (w * f) kind ≡ joined (marked p kind es) ++ z)
        → set ((e ++ joined es) ++ z) (w * cond b 0 (suc f)) kind ≡ joined (cond b (with_kind kind e ∷ es) (e ∷ marked p kind es)) ++ z
    go true k i =
        rw (mul-zero, append_assoc e (joined es) z)
        (set_first e (joined es ++ z) kind (omega arith) ∙ sym (append_assoc (with_kind kind e) (joined es) z))
    go false k i =
        let at : w * suc f ≡ length e + w * f = rw (we, mul-suc) (omega arith) in
        rw (append_assoc e (joined es) z)
        (set_behind e (joined es ++ z) (w * suc f) (w * f) kind at
        ∙ ap (λ (l : List ℕ). e ++ l) (i (omega arith))
        ∙ sym (append_assoc e (joined (marked p kind es)) z))

pub length_marked : (p : List ℕ → Bool) (kind : ℕ) (rs : List (List ℕ)) → length (marked p kind rs) ≡ length rs
unfolding marked
length_marked p kind [] = refl
length_marked p kind (r ∷ rs) = go (p r) (length_marked p kind rs)
  where
    go : (b : Bool) → length (marked p kind rs) ≡ length rs → length (cond b (with_kind kind r ∷ rs) (r ∷ marked p kind rs)) ≡ suc (length rs)
    go true i = refl
    go false i = ap suc i

-- one byte of the cache, at the kind of the first record that passes
pub cache_marked : (sh : Shape) (h : Head) (p : List ℕ → Bool) (kind : ℕ) (rs : List (List ℕ)) → Each (Wide (width sh)) rs → first_of p rs < length rs
    → set (cache_of sh h rs) (size_of sh (first_of p rs)) kind ≡ cache_of sh h (marked p kind rs)
unfolding cache_of
cache_marked sh h p kind rs wide less =
    let front = head_of sh.kinds.head (length rs) h in
    let z : List ℕ = replicate (width sh * (h.capacity - length rs)) 0 in
    rw length_marked
    (set_behind front (joined rs ++ z) (size_of sh (first_of p rs)) (width sh * first_of p rs) kind (rw length_head)
    ∙ ap (λ (l : List ℕ). front ++ l) (set_marked (width sh) kind p rs z (omega arith) wide less))

-- ---- what another kind leaves as it was

each_marked : (w : ℕ) (p : List ℕ → Bool) (kind : ℕ) (rs : List (List ℕ)) → 1 ≤ w → Each (Wide w) rs → Each (Wide w) (marked p kind rs)
unfolding marked
each_marked w p kind [] some wide = tt
each_marked w p kind (r ∷ rs) some (h, hs) = go (p r) (each_marked w p kind rs some hs)
  where
    go : (b : Bool) → Each (Wide w) (marked p kind rs) → Each (Wide w) (cond b (with_kind kind r ∷ rs) (r ∷ marked p kind rs))
    go true i = (with_length kind r (omega arith) ∙ h, hs)
    go false i = (h, i)

pub withdrawn_held : (sh : Shape) (e : List ℕ) → is_entry sh (with_kind sh.kinds.withdrawn e) ≡ true
unfolding with_kind
withdrawn_held sh e = let k = sh.kinds.withdrawn in rw (eq-eqb k k refl) (or-true (eqb k sh.kinds.entry))

held_marked : (sh : Shape) (p : List ℕ → Bool) (rs : List (List ℕ)) → every (is_entry sh) rs ≡ true → every (is_entry sh) (marked p sh.kinds.withdrawn rs) ≡ true
unfolding marked every
held_marked sh p [] h = refl
held_marked sh p (r ∷ rs) h = go (p r) (held_marked sh p rs (both_right (is_entry sh r) (every (is_entry sh) rs) h))
  where
    go : (b : Bool) → every (is_entry sh) (marked p sh.kinds.withdrawn rs) ≡ true
        → every (is_entry sh) (cond b (with_kind sh.kinds.withdrawn r ∷ rs) (r ∷ marked p sh.kinds.withdrawn rs)) ≡ true
    go true i =
        both_intro (is_entry sh (with_kind sh.kinds.withdrawn r)) (every (is_entry sh) rs) (withdrawn_held sh r) (both_right (is_entry sh r) (every (is_entry sh) rs) h)
    go false i = both_intro (is_entry sh r) (every (is_entry sh) (marked p sh.kinds.withdrawn rs)) (both_left (is_entry sh r) (every (is_entry sh) rs) h) i

order_marked : (p : List ℕ → Bool) (kind t : ℕ) (rs : List (List ℕ)) → never_fall t (marked p kind rs) ≡ never_fall t rs
unfolding marked never_fall
order_marked p kind t [] = refl
order_marked p kind t (r ∷ rs) = go (p r) (order_marked p kind (accepted r) rs)
  where
    go : (b : Bool) → never_fall (accepted r) (marked p kind rs) ≡ never_fall (accepted r) rs
        → never_fall t (cond b (with_kind kind r ∷ rs) (r ∷ marked p kind rs)) ≡ both (leb t (accepted r)) (never_fall (accepted r) rs)
    go true i = rw (with_accepted kind r)
    go false i = rw i

past_marked : (p : List ℕ → Bool) (kind clock : ℕ) (rs : List (List ℕ)) → every (is_not_after clock) (marked p kind rs) ≡ every (is_not_after clock) rs
unfolding marked every
past_marked p kind clock [] = refl
past_marked p kind clock (r ∷ rs) = go (p r) (past_marked p kind clock rs)
  where
    go : (b : Bool) → every (is_not_after clock) (marked p kind rs) ≡ every (is_not_after clock) rs
        → every (is_not_after clock) (cond b (with_kind kind r ∷ rs) (r ∷ marked p kind rs)) ≡ both (is_not_after clock r) (every (is_not_after clock) rs)
    go true i = rw (with_accepted kind r)
    go false i = rw i

pub contents_marked : (sh : Shape) (h : Head) (p : List ℕ → Bool) (rs : List (List ℕ)) → Contents sh h rs → Contents sh h (marked p sh.kinds.withdrawn rs)
contents_marked sh h p rs c =
    let k = sh.kinds.withdrawn in
    record {
      some = c.some;
      most = c.most;
      enough = rw length_marked c.enough;
      wide = each_marked (width sh) p k rs (omega arith) c.wide;
      kinds = held_marked sh p rs c.kinds;
      order = order_marked p k 0 rs ∙ c.order;
      past = past_marked p k h.clock rs ∙ c.past;
      early = c.early;
      summed = rw length_marked c.summed;
    }
