-- How many entries change their place (specs/Moves.antt): the count over indices is the plain reading, the indices that stay are those of the live
-- entries, and what stood at one before stands at its new one after.
use mathlib.Core.Path.{◌≡◌, refl, sym, ap, ap₂, ◌∙◌}
use mathlib.Core.Bool.{Bool, true, false, not, cond}
use mathlib.Core.List.{List, [], ◌∷◌, ◌++◌}
use Prim.Native.Nat.{ℕ, zero, suc, ◌+◌, ◌-◌, ◌*◌, ◌≤◌, ◌<◌, zero-le}
use native.Mathlib.Omega.{arith}
use native.Mathlib.Nat.{mul-suc, mul-zero, sub-zero}
use lib.Dec.{eqb, leb}
use lib.ListN.{length, take, drop, get_or, length-drop, get_or-append}
use lib.Seq.{drop-drop, get_or-drop}
use borrow.Author.Tests.{leb-true, leb-false, le-leb, eq-eqb, ne_eqb}
use Rattle.octets.specs.Runs.{part, both}
use Rattle.octets.specs.Counting.{passing_below}
use Rattle.cache.specs.declared.Shape.{Shape}
use Rattle.cache.specs.Chunks.{first_of, chunks, keep, count, every}
use Rattle.cache.specs.Cache.{head_size, width, count_of, entries, never_fall, well_formed}
use Rattle.cache.specs.Expiry.{live, gone}
use Rattle.cache.proofs.Chunks.{both_left, both_right, both_intro}
use Rattle.cache.proofs.Expiry.{expired_first, gone_le}
use Rattle.cache.proofs.Cache.{well_formed_lem, length_entries}
use Rattle.upkeep.specs.Moves.{gone_between, changes, moved, staying, bytes_at}

-- ---- the count

-- none changes its index where none is gone
pub none_moved : (n : ℕ) → passing_below (changes 0) n ≡ 0
unfolding passing_below
none_moved zero = refl
none_moved (suc n) = rw (none_moved n, le-leb 0 n zero-le, eq-eqb (n - 0) n (sub-zero n))

-- and else all that stay
pub all_moved : (g n : ℕ) → (g ≡ 0 → ⊥) → passing_below (changes g) n ≡ n - g
unfolding passing_below
all_moved g zero some = omega arith
all_moved g (suc n) some = rw (all_moved g n some) (go (leb g n) refl)
  where
    go : (b : Bool) → leb g n ≡ b → n - g + cond (both b (not (eqb (n - g) n))) 1 0 ≡ suc n - g
    go true e =
        let h = leb-true g n e in
        let d : eqb (n - g) n ≡ false = ne_eqb (n - g) n (λ z. some (omega arith)) in
        rw d (omega arith)
    go false e = let h = leb-false g n e in omega arith

-- never all
pub moved_below : (g n : ℕ) → passing_below (changes g) n ≤ n - 1
moved_below zero n = rw none_moved zero-le
moved_below (suc g) n = omega (arith, all_moved (suc g) n (λ z. omega arith))

-- the caches' counts tell it
pub moved_by : (newcomers g stay : ℕ) (before after : List ℕ) → count_of before ≡ g + stay → count_of after ≡ stay + newcomers
    → moved newcomers before after ≡ passing_below (changes g) (g + stay)
unfolding moved
moved_by newcomers g stay before after b a =
    let e : gone_between newcomers before after ≡ g = omega arith in
    ap₂ (λ (x n : ℕ). passing_below (changes x) n) e b

-- ---- lists of entries

pub every_keep : (p : List ℕ → Bool) (rs : List (List ℕ)) → every p (keep p rs) ≡ true
unfolding keep every
every_keep p [] = refl
every_keep p (r ∷ rs) = go (p r) refl (every_keep p rs)
  where
    go : (b : Bool) → p r ≡ b → every p (keep p rs) ≡ true → every p (cond b (r ∷ keep p rs) (keep p rs)) ≡ true
    go true e h = both_intro (p r) (every p (keep p rs)) e h
    go false e h = h

count_keep : (p : List ℕ → Bool) (rs : List (List ℕ)) → count p rs ≡ length (keep p rs)
unfolding keep count
count_keep p [] = refl
count_keep p (r ∷ rs) = go (p r) (count_keep p rs)
  where
    go : (b : Bool) → count p rs ≡ length (keep p rs) → cond b 1 0 + count p rs ≡ length (cond b (r ∷ keep p rs) (keep p rs))
    go true h = omega arith
    go false h = omega arith

every_at : (p : List ℕ → Bool) (rs : List (List ℕ)) (i : ℕ) → every p rs ≡ true → i < length rs → p (get_or rs i []) ≡ true
unfolding every
every_at p [] i h k = absurd (omega arith)
every_at p (r ∷ rs) zero h k = both_left (p r) (every p rs) h
every_at p (r ∷ rs) (suc i) h k = every_at p rs i (both_right (p r) (every p rs) h) (omega arith)

-- what is gone is expired
gone_expired : (clock : ℕ) (es : List (List ℕ)) (i : ℕ) → i < gone clock es → live clock (get_or es i []) ≡ false
unfolding first_of
gone_expired clock [] i h = absurd (omega arith)
gone_expired clock (e ∷ es) i h = go (live clock e) refl (gone_expired clock es) i h
  where
    go : (b : Bool) → live clock e ≡ b → ((j : ℕ) → j < gone clock es → live clock (get_or es j []) ≡ false) → (j : ℕ) → j < cond b 0 (suc (gone clock es))
        → live clock (get_or (e ∷ es) j []) ≡ false
    go true l further j k = absurd (omega arith)
    go false l further zero k = l
    go false l further (suc j) k = further j (omega arith)

-- one is gone: not every entry is live
some_expired : (clock : ℕ) (es : List (List ℕ)) → (gone clock es ≡ 0 → ⊥) → every (live clock) es ≡ false
unfolding first_of every
some_expired clock [] h = absurd (h refl)
some_expired clock (e ∷ es) h = go (live clock e) h
  where
    go : (b : Bool) → (cond b 0 (suc (gone clock es)) ≡ 0 → ⊥) → both b (every (live clock) es) ≡ false
    go true k = absurd (k refl)
    go false k = refl

module _ (clock : ℕ) (es : List (List ℕ)) (order : never_fall 0 es ≡ true) where
  -- those that stay are those behind the ones that are gone
  pub stay_behind : gone clock es + length (keep (live clock) es) ≡ length es
  stay_behind =
      let l : length (keep (live clock) es) ≡ length es - gone clock es = rw (expired_first clock 0 es order) (length-drop (gone clock es) es) in
      omega (arith, gone_le clock es)

  -- the indices that stay are those of the live entries
  pub stays_live : (i : ℕ) → i < length es → live clock (get_or es i []) ≡ leb (gone clock es) i
  stays_live i h = go (leb (gone clock es) i) refl
    where
      go : (b : Bool) → leb (gone clock es) i ≡ b → live clock (get_or es i []) ≡ leb (gone clock es) i
      go true e =
          let g = gone clock es in
          let k = leb-true g i e in
          let s = stay_behind in
          let x : live clock (get_or (keep (live clock) es) (i - g) []) ≡ true = every_at (live clock) (keep (live clock) es) (i - g) (every_keep (live clock) es) (omega arith) in
          let j : g + (i - g) ≡ i = omega arith in
          let at : get_or (keep (live clock) es) (i - g) [] ≡ get_or es i [] =
          rw (expired_first clock 0 es order) (get_or-drop g es (i - g) [] ∙ ap (λ (n : ℕ). get_or es n []) j) in
          rw e (rw at at x)
      go false e = rw e (gone_expired clock es i (leb-false (gone clock es) i e))

  -- the count over the indices is the plain reading
  pub moved_plain : passing_below (changes (gone clock es)) (length es) ≡ staying clock es
  unfolding staying
  moved_plain = go (gone clock es) refl
    where
      go : (g : ℕ) → gone clock es ≡ g → passing_below (changes (gone clock es)) (length es) ≡ cond (every (live clock) es) 0 (count (live clock) es)
      go zero e =
          let k : keep (live clock) es ≡ es = expired_first clock 0 es order ∙ rw e in
          let a : every (live clock) es ≡ true = rw k at (every_keep (live clock) es) in
          rw (e, a) (none_moved (length es))
      go (suc g) e =
          let some : gone clock es ≡ 0 → ⊥ = λ z. omega arith in
          let s = stay_behind in
          rw (some_expired clock es some, count_keep) (all_moved (gone clock es) (length es) some ∙ omega arith)

-- ---- the entries as bytes

chunk_at : (w n i : ℕ) (s : List ℕ) → i < n → get_or (chunks w n s) i [] ≡ take w (drop (w * i) s)
unfolding chunks
chunk_at w zero i s h = absurd (omega arith)
chunk_at w (suc n) zero s h = rw mul-zero
chunk_at w (suc n) (suc i) s h =
    let e : w + w * i ≡ w * suc i = rw mul-suc (omega arith) in
    chunk_at w n i (drop w s) (omega arith) ∙ rw drop-drop (ap (λ (k : ℕ). take w (drop k s)) e)

pub bytes_at_lem : (sh : Shape) (i : ℕ) (cache : List ℕ) → i < count_of cache → get_or (entries sh cache) i [] ≡ bytes_at sh i cache
unfolding entries part
bytes_at_lem sh i cache h = chunk_at (width sh) (count_of cache) i (drop head_size cache) h ∙ rw drop-drop

-- of a cache whose clock has come: what its entries before make of the count, and what stands where after
module _ (sh : Shape) (clock : ℕ) (cache : List ℕ) (well : well_formed sh cache ≡ true) where
  order : never_fall 0 (entries sh cache) ≡ true
  order = (well_formed_lem sh cache well).contents.order

  pub count_splits : count_of cache ≡ gone clock (entries sh cache) + length (keep (live clock) (entries sh cache))
  count_splits = sym (length_entries sh cache) ∙ sym (stay_behind clock (entries sh cache) order)

  -- an index stays exactly where the entry at it is live
  pub index_stays_live : (i : ℕ) → i < count_of cache → live clock (bytes_at sh i cache) ≡ leb (gone clock (entries sh cache)) i
  index_stays_live i h = rw (← bytes_at_lem sh i cache h) (stays_live clock (entries sh cache) order i (rw length_entries h))

  -- the count over indices, from what was counted before and after
  pub moved_staying : (newcomers : ℕ) (after : List ℕ) → count_of after ≡ length (keep (live clock) (entries sh cache)) + newcomers
      → moved newcomers cache after ≡ staying clock (entries sh cache)
  moved_staying newcomers after a =
      moved_by newcomers (gone clock (entries sh cache)) (length (keep (live clock) (entries sh cache))) cache after count_splits a
      ∙ rw (stay_behind clock (entries sh cache) order) (moved_plain clock (entries sh cache) order)

  -- what stood at an index that stays stands at its new index, in a cache whose first entries are those that stay
  pub bytes_moved : (after : List ℕ) (newer : List (List ℕ)) → entries sh after ≡ keep (live clock) (entries sh cache) ++ newer
      → (i : ℕ) → gone clock (entries sh cache) ≤ i → i < count_of cache → i - gone clock (entries sh cache) < count_of after
      → bytes_at sh i cache ≡ bytes_at sh (i - gone clock (entries sh cache)) after
  bytes_moved after newer e i from h k =
      let es = entries sh cache in
      let g = gone clock es in
      let c = count_splits in
      let j : g + (i - g) ≡ i = omega arith in
      let here : get_or (keep (live clock) es) (i - g) [] ≡ get_or es i [] =
      rw (expired_first clock 0 es order) (get_or-drop g es (i - g) [] ∙ ap (λ (n : ℕ). get_or es n []) j) in
      let there : get_or (keep (live clock) es ++ newer) (i - g) [] ≡ get_or (keep (live clock) es) (i - g) [] =
      get_or-append (keep (live clock) es) newer [] (i - g) (omega arith) in
      sym (bytes_at_lem sh i cache h) ∙ sym here ∙ sym there ∙ rw (← e) (bytes_at_lem sh (i - g) after k)
