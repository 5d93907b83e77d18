-- The form is kept: what is built of records reads back and is well bounded, and what a ticket enters is such a buffer again.
use mathlib.Core.Path.{◌≡◌, refl, sym, ap, ◌∙◌}
use mathlib.Core.Bool.{Bool, true, false, not, cond, ◌||◌}
use mathlib.Core.List.{List, [], ◌∷◌, ◌++◌, append_assoc}
use Prim.Native.Nat.{ℕ, zero, suc, ◌+◌, ◌-◌, ◌*◌, ◌^◌, ◌≤◌, ◌<◌, zero-le}
use native.Mathlib.Omega.{arith}
use native.Mathlib.Nat.{mul-sub, mul-le-mul_left, mul-div_right, zero-add, suc-add, sub-zero}
use borrow.Author.Tests.{le-leb, eq-eqb, not-true}
use lib.ListN.{length, take, drop, get_or, replicate, length-append, length-replicate}
use lib.Seq.{take_at, drop_at, get_or-take}
use Rattle.octets.specs.Numbers.{number, bytes}
use Rattle.octets.specs.Runs.{same}
use Rattle.octets.proofs.Numbers.{length_bytes, number_bytes}
use Rattle.octets.proofs.Runs.{part_first, part_past, part_all, same_true, zeros_replicate}
use Rattle.record.specs.Layout.{bound_kind, bound_size, pair_at, pair_size, until_at, time_size, pair, until}
use Rattle.cache.specs.Chunks.{chunks, joined, keep, first_of, every}
use Rattle.cache.proofs.Chunks.{Wide, Each, both_left, both_right, both_intro, chunks_joined, length_joined, keep_le}
use Rattle.bounds.specs.Bounds.{most_bounds, last_until, bound_of, is_bound, not_bound, is_of, places, in_use, bounds_in, among, is_not_late, each_once, well_bounded}
use Rattle.entering.specs.Entering.{in_force, in_force_in, written, bounds_of, entered, crowded}
use Rattle.bounds.proofs.Records.{use_few}
use Rattle.bounds.proofs.Conditions.{same_comm}
use Rattle.entering.proofs.Packing.{each_keep}
use Rattle.entering.proofs.Told.{in_use_long}
use Rattle.entering.proofs.Written.{Well, well, in_use_wide, bound_long, place_in}

-- ---- a record gives its pair and its until back

pub bound_pair : (a u : ℕ) (k : List ℕ) → length k ≡ pair_size a → pair a (bound_of k u) ≡ k
unfolding bound_of
bound_pair a u k e = part_past pair_at 0 (pair_size a) (bound_kind ∷ []) (k ++ bytes time_size u) (omega arith) ∙ part_first (pair_size a) k (bytes time_size u) e

pub bound_until : (a u : ℕ) (k : List ℕ) → length k ≡ pair_size a → u < 2 ^ 64 → until a (bound_of k u) ≡ u
unfolding bound_of
bound_until a u k e h =
    ap number (part_past (until_at a) 0 time_size (bound_kind ∷ k) (bytes time_size u) (omega arith) ∙ part_all time_size (bytes time_size u) (length_bytes time_size u)) ∙ number_bytes time_size u h

bound_kind_lem : (u : ℕ) (k : List ℕ) → is_bound (bound_of k u) ≡ true
unfolding bound_of
bound_kind_lem u k = refl

-- ---- records in a buffer

-- of n places with these records
pub record Contents (a n : ℕ) (rs : List (List ℕ)) : Type 0 where
  pub some : 1 ≤ n
  pub most : n ≤ most_bounds
  pub enough : length rs ≤ n
  pub wide : Each (Wide (bound_size a)) rs
  pub kinds : every is_bound rs ≡ true
  pub timely : every (is_not_late a) rs ≡ true
  pub once : each_once a rs ≡ true

-- in zeros, none is in use
none_front : (w m n : ℕ) → 0 < w → first_of not_bound (chunks w m (replicate n 0)) ≡ 0
unfolding chunks first_of
none_front w zero n h = refl
none_front w (suc m) n h = let k = get_or-take w (replicate n 0) 0 0 h ∙ first n in rw k
  where
    first : (n : ℕ) → ◌≡◌ {A = ℕ} (get_or (replicate n 0) 0 0) 0
    first zero = refl
    first (suc n) = refl

-- records, then zeros: as many are in use as there are records
module _ (w m : ℕ) (h : 0 < w) where
  front : (rs : List (List ℕ)) → Each (Wide w) rs → every is_bound rs ≡ true → first_of not_bound (chunks w (length rs + m) (joined rs ++ replicate (w * m) 0)) ≡ length rs
  unfolding chunks first_of joined every
  front [] ws ks = rw zero-add (none_front w m (w * m) h)
  front (r ∷ rs) (x, ws) ks =
      let z : List ℕ = replicate (w * m) 0 in
      let k : is_bound r ≡ true = both_left (is_bound r) (every is_bound rs) ks in
      rw (suc-add, append_assoc r (joined rs) z, take_at r (joined rs ++ z) w x, drop_at r (joined rs ++ z) w x, k)
      (ap suc (front rs ws (both_right (is_bound r) (every is_bound rs) ks)))

module _ (a n : ℕ) (rs : List (List ℕ)) (c : Contents a n rs) where
  bounds_long : length (bounds_of a n rs) ≡ bound_size a * n
  unfolding bounds_of
  bounds_long =
      let j = length_joined (bound_size a) rs c.wide in
      let m = mul-le-mul_left (bound_size a) c.enough in
      let s = mul-sub (bound_size a) n (length rs) in
      rw (length-append, j, length-replicate) (omega arith)

  places_back : places a (bounds_of a n rs) ≡ n
  places_back = rw bounds_long (mul-div_right n (omega arith))

  front_back : first_of not_bound (chunks (bound_size a) n (bounds_of a n rs)) ≡ length rs
  unfolding bounds_of
  front_back =
      let m : ℕ = n - length rs in
      let e : length rs + m ≡ n = omega (arith, c.enough) in
      ap (λ (i : ℕ). first_of not_bound (chunks (bound_size a) i (joined rs ++ replicate (bound_size a * m) 0))) (sym e) ∙ front (bound_size a) m (omega arith) rs c.wide c.kinds

  in_use_back : in_use a (bounds_of a n rs) ≡ length rs
  unfolding in_use
  in_use_back = rw places_back front_back

  pub bounds_back : bounds_in a (bounds_of a n rs) ≡ rs
  unfolding bounds_in bounds_of
  bounds_back = rw in_use_back (chunks_joined (bound_size a) rs (replicate (bound_size a * (n - length rs)) 0) c.wide)

  rest_back : drop (bound_size a * in_use a (bounds_of a n rs)) (bounds_of a n rs) ≡ replicate (bound_size a * (n - length rs)) 0
  unfolding bounds_of
  rest_back = rw in_use_back (drop_at (joined rs) (replicate (bound_size a * (n - length rs)) 0) (bound_size a * length rs) (length_joined (bound_size a) rs c.wide))

  pub built_well : well_bounded a (bounds_of a n rs) ≡ true
  unfolding well_bounded
  built_well =
      let l = le-leb 1 n c.some in
      let m = le-leb n most_bounds c.most in
      let z = zeros_replicate (bound_size a * (n - length rs)) in
      rw (bounds_back, rest_back, places_back, bounds_long, l, m, eq-eqb (bound_size a * n) (bound_size a * n) refl, c.timely, c.once, z)

empty : (a n : ℕ) → bounds_of a n [] ≡ replicate (bound_size a * n) 0
unfolding bounds_of joined
empty a n = rw sub-zero

empty_contents : (a n : ℕ) → 1 ≤ n → n ≤ most_bounds → Contents a n []
unfolding every each_once
empty_contents a n h k = record { some = h; most = k; enough = zero-le; wide = tt; kinds = refl; timely = refl; once = refl }

-- "There must be a call that opens the bounds." Zeros are empty bounds
pub zeros_empty : (a n : ℕ) → bounds_in a (replicate n 0) ≡ []
unfolding bounds_in in_use chunks
zeros_empty a n = rw (none_front (bound_size a) (places a (replicate n 0)) n (omega arith))

pub zeros_well : (a n : ℕ) → 1 ≤ n → n ≤ most_bounds → well_bounded a (replicate (bound_size a * n) 0) ≡ true
zeros_well a n h k = rw (← empty a n) (built_well a n [] (empty_contents a n h k))

-- ---- the records of a buffer that is well bounded

front_kinds : (w n : ℕ) (s : List ℕ) → every is_bound (chunks w (first_of not_bound (chunks w n s)) s) ≡ true
unfolding chunks first_of every
front_kinds w zero s = refl
front_kinds w (suc n) s = go (is_bound (take w s)) refl (front_kinds w n (drop w s))
  where
    go : (b : Bool) → is_bound (take w s) ≡ b → every is_bound (chunks w (first_of not_bound (chunks w n (drop w s))) (drop w s)) ≡ true
        → every is_bound (chunks w (cond (not b) 0 (suc (first_of not_bound (chunks w n (drop w s))))) s) ≡ true
    go true e i = rw (e, i)
    go false e i = refl

in_kinds : (a : ℕ) (b : List ℕ) → every is_bound (bounds_in a b) ≡ true
unfolding bounds_in in_use
in_kinds a b = front_kinds (bound_size a) (places a b) b

pub contents_in : (a : ℕ) (b : List ℕ) → Well a b → Contents a (places a b) (bounds_in a b)
contents_in a b w =
    record {
      some = w.fit.some;
      most = w.fit.most;
      enough = rw in_use_long (use_few a b);
      wide = in_use_wide a b;
      kinds = in_kinds a b;
      timely = w.timely;
      once = w.once;
    }

-- ---- records dropped

every_keep : (p q : List ℕ → Bool) (rs : List (List ℕ)) → every p rs ≡ true → every p (keep q rs) ≡ true
unfolding every keep
every_keep p q [] h = refl
every_keep p q (r ∷ rs) h = go (q r) (every_keep p q rs (both_right (p r) (every p rs) h))
  where
    go : (b : Bool) → every p (keep q rs) ≡ true → every p (cond b (r ∷ keep q rs) (keep q rs)) ≡ true
    go true i = both_intro (p r) (every p (keep q rs)) (both_left (p r) (every p rs) h) i
    go false i = i

pub among_keep : (a : ℕ) (k : List ℕ) (q : List ℕ → Bool) (rs : List (List ℕ)) → among a k rs ≡ false → among a k (keep q rs) ≡ false
unfolding among keep
among_keep a k q [] h = refl
among_keep a k q (r ∷ rs) h = go (is_of a k r) refl (q r) h (among_keep a k q rs)
  where
    go : (b : Bool) → is_of a k r ≡ b → (c : Bool) → (b || among a k rs) ≡ false → (among a k rs ≡ false → among a k (keep q rs) ≡ false) → among a k (cond c (r ∷ keep q rs) (keep q rs)) ≡ false
    go true e c h i = let z : ◌≡◌ {A = ℕ} 0 1 = cc in absurd (omega arith)
    go false e true h i = rw (e, i h)
    go false e false h i = i h

once_keep : (a : ℕ) (q : List ℕ → Bool) (rs : List (List ℕ)) → each_once a rs ≡ true → each_once a (keep q rs) ≡ true
unfolding each_once keep
once_keep a q [] h = refl
once_keep a q (r ∷ rs) h = go (q r) (once_keep a q rs (both_right (not (among a (pair a r) rs)) (each_once a rs) h))
  where
    go : (b : Bool) → each_once a (keep q rs) ≡ true → each_once a (cond b (r ∷ keep q rs) (keep q rs)) ≡ true
    go true i = rw (among_keep a (pair a r) q rs (not-true (among a (pair a r) rs) (both_left (not (among a (pair a r) rs)) (each_once a rs) h)), i)
    go false i = i

contents_keep : (a n : ℕ) (q : List ℕ → Bool) (rs : List (List ℕ)) → Contents a n rs → Contents a n (keep q rs)
contents_keep a n q rs c =
    record {
      some = c.some;
      most = c.most;
      enough = let l = keep_le q rs in omega (arith, c.enough);
      wide = each_keep (Wide (bound_size a)) q rs c.wide;
      kinds = every_keep is_bound q rs c.kinds;
      timely = every_keep (is_not_late a) q rs c.timely;
      once = once_keep a q rs c.once;
    }

-- ---- a record written

module _ (a : ℕ) (k : List ℕ) (u : ℕ) (long : length k ≡ pair_size a) where
  each_written : (P : List ℕ → Type 0) (rs : List (List ℕ)) → P (bound_of k u) → Each P rs → Each P (written a k u rs)
  unfolding written
  each_written P [] p h = (p, tt)
  each_written P (r ∷ rs) p (h, hs) = go (is_of a k r) (each_written P rs p hs)
    where
      go : (b : Bool) → Each P (written a k u rs) → Each P (cond b (bound_of k u ∷ rs) (r ∷ written a k u rs))
      go true i = (p, hs)
      go false i = (h, i)

  every_written : (p : List ℕ → Bool) (rs : List (List ℕ)) → p (bound_of k u) ≡ true → every p rs ≡ true → every p (written a k u rs) ≡ true
  unfolding written every
  every_written p [] x h = rw x
  every_written p (r ∷ rs) x h = go (is_of a k r) (every_written p rs x (both_right (p r) (every p rs) h))
    where
      go : (b : Bool) → every p (written a k u rs) ≡ true → every p (cond b (bound_of k u ∷ rs) (r ∷ written a k u rs)) ≡ true
      go true i = both_intro (p (bound_of k u)) (every p rs) x (both_right (p r) (every p rs) h)
      go false i = both_intro (p r) (every p (written a k u rs)) (both_left (p r) (every p rs) h) i

  few_written : (n : ℕ) (rs : List (List ℕ)) → length rs ≤ n → first_of (is_of a k) rs < n → length (written a k u rs) ≤ n
  unfolding written first_of
  few_written n [] h l = l
  few_written n (r ∷ rs) h l = go n (is_of a k r) h l (λ m. few_written m rs)
    where
      go : (n : ℕ) (b : Bool) → suc (length rs) ≤ n → cond b 0 (suc (first_of (is_of a k) rs)) < n → ((m : ℕ) → length rs ≤ m → first_of (is_of a k) rs < m → length (written a k u rs) ≤ m) → length (cond b (bound_of k u ∷ rs) (r ∷ written a k u rs)) ≤ n
      go n true h l i = h
      go zero false h l i = absurd (omega arith)
      go (suc m) false h l i = let j = i m (omega arith) (omega arith) in omega arith

  -- the pairs are those there were, and this one
  among_written : (x : List ℕ) (rs : List (List ℕ)) → among a x (written a k u rs) ≡ (among a x rs || same k x)
  unfolding written among
  among_written x [] = rw (bound_pair a u k long) (go (same k x))
    where
      go : (b : Bool) → (b || false) ≡ b
      go true = refl
      go false = refl
  among_written x (r ∷ rs) = go (is_of a k r) refl (among_written x rs)
    where
      twice : (s m : Bool) → (s || m) ≡ ((s || m) || s)
      twice true m = refl
      twice false true = refl
      twice false false = refl

      assoc : (p m s : Bool) → (p || (m || s)) ≡ ((p || m) || s)
      assoc true m s = refl
      assoc false m s = refl

      go : (b : Bool) → is_of a k r ≡ b → among a x (written a k u rs) ≡ (among a x rs || same k x)
          → among a x (cond b (bound_of k u ∷ rs) (r ∷ written a k u rs)) ≡ ((is_of a x r || among a x rs) || same k x)
      go true e i = rw (bound_pair a u k long, same_true (pair a r) k e) (twice (same k x) (among a x rs))
      go false e i = rw i (assoc (is_of a x r) (among a x rs) (same k x))

  once_written : (rs : List (List ℕ)) → each_once a rs ≡ true → each_once a (written a k u rs) ≡ true
  unfolding written each_once among
  once_written [] h = refl
  once_written (r ∷ rs) h = go (is_of a k r) refl (once_written rs (both_right (not (among a (pair a r) rs)) (each_once a rs) h))
    where
      apart : among a (pair a r) rs ≡ false
      apart = not-true (among a (pair a r) rs) (both_left (not (among a (pair a r) rs)) (each_once a rs) h)

      go : (b : Bool) → is_of a k r ≡ b → each_once a (written a k u rs) ≡ true → each_once a (cond b (bound_of k u ∷ rs) (r ∷ written a k u rs)) ≡ true
      go true e i =
          let q : pair a (bound_of k u) ≡ pair a r = bound_pair a u k long ∙ sym (same_true (pair a r) k e) in
          rw (q, apart) (both_right (not (among a (pair a r) rs)) (each_once a rs) h)
      go false e i = rw (among_written (pair a r) rs, apart, same_comm k (pair a r), e) i

  contents_written : (n : ℕ) (rs : List (List ℕ)) → u ≤ last_until → first_of (is_of a k) rs < n → Contents a n rs → Contents a n (written a k u rs)
  contents_written n rs h l c =
      record {
        some = c.some;
        most = c.most;
        enough = few_written n rs c.enough l;
        wide = each_written (Wide (bound_size a)) rs (bound_long a u k long) c.wide;
        kinds = every_written is_bound rs (bound_kind_lem u k) c.kinds;
        timely = every_written (is_not_late a) rs (rw (bound_until a u k long (omega arith)) (le-leb u last_until h)) c.timely;
        once = once_written rs c.once;
      }

-- ---- a ticket's bound entered

-- "Issuing a ticket spoils the bounds for the next call." What is entered is well bounded, of as many places, and has these records
pub record Left (a clock : ℕ) (k : List ℕ) (u : ℕ) (b : List ℕ) : Type 0 where
  pub well_bounded_lem : well_bounded a (entered a clock k u b) ≡ true
  pub records : bounds_in a (entered a clock k u b) ≡ written a k u (in_force_in a clock b)
  pub places_stay : places a (entered a clock k u b) ≡ places a b
  pub length_stays : length (entered a clock k u b) ≡ length b

pub entered_well : (a clock : ℕ) (k : List ℕ) (u : ℕ) (b : List ℕ) → well_bounded a b ≡ true → crowded a clock k b ≡ false → length k ≡ pair_size a → u ≤ last_until → Left a clock k u b
unfolding entered
entered_well a clock k u b h f long l =
    let w = well a b h in
    let rs = in_force_in a clock b in
    let c = contents_written a k u long (places a b) rs l (place_in a clock k b f) (contents_keep a (places a b) (in_force a clock) (bounds_in a b) (contents_in a b w)) in
    let ws = written a k u rs in
    record {
      well_bounded_lem = built_well a (places a b) ws c;
      records = bounds_back a (places a b) ws c;
      places_stay = places_back a (places a b) ws c;
      length_stays = bounds_long a (places a b) ws c ∙ sym w.fit.size;
    }
