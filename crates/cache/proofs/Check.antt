-- Laws of the check (specs/Check.antt): its parts, taken together, are the conditions of a well-formed cache.
use Rattle.std.proofs.Common.{◌≡◌, ℕ, ◌+◌, ◌-◌, ◌*◌, ◌<◌, ◌≤◌, Bool, true, false, eqb, leb, List, [], ◌∷◌, length, take, drop, sym, refl, ap, ◌∙◌, zero-le, le_refl, mul-le-mul, mul-le-mul_left, mul-suc, arith, length-drop, drop-drop, eqb-true, leb-true}
use native.Mathlib.Nat.{mul-sub}
use Rattle.octets.specs.Runs.{part, both, zeros}
use Rattle.octets.proofs.Runs.{both_false, length_part, lent_rest}
use Rattle.record.specs.Layout.{address_size_v6, entry_size, kind_of, accepted}
use Rattle.settings.specs.Settings.{last_clock}
use Rattle.cache.specs.declared.Shape.{Shape}
use Rattle.cache.specs.Chunks.{chunks, every}
use Rattle.cache.specs.Cache.{Sound, head_size, fits, max_capacity, width, capacity_of, count_of, clock_of, size_of, entries, stored_from, is_entry, never_fall, is_not_after, adds_up, well_formed}
use Rattle.cache.specs.Check.{head_holds, is_in_order}
use Rattle.cache.proofs.Chunks.{Truths, all_true, both_left, chunks_take, take_chunks, drop_chunks}

shuffle : (a b c x y z : Bool) → both a (both b (both c (both x (both y z)))) ≡ both (both a x) (both (both b y) (both c z))
shuffle false b c x y z = refl
shuffle true false c false y z = refl
shuffle true false c true y z = refl
shuffle true true false false y z = refl
shuffle true true false true false z = refl
shuffle true true false true true z = refl
shuffle true true true x y z = refl

order_parts : (sh : Shape) (clock t : ℕ) (es : List (List ℕ)) → is_in_order sh.kinds clock t es ≡ both (every (is_entry sh) es) (both (never_fall t es) (every (is_not_after clock) es))
unfolding is_in_order every never_fall
order_parts sh clock t [] = refl
order_parts sh clock t (e ∷ es) =
    rw (order_parts sh clock (accepted e) es)
    (shuffle (is_entry sh e) (leb t (accepted e)) (is_not_after clock e) (every (is_entry sh) es) (never_fall (accepted e) es) (every (is_not_after clock) es))

regroup : (a b c d e f g h i : Bool)
    → both a (both b (both c (both d (both e (both f (both g (both h (both i true)))))))) ≡ both (both a (both b (both c (both i (both g true))))) (both (both d (both e f)) h)
regroup false b c d e f g h i = refl
regroup true false c d e f g h i = refl
regroup true true false d e f g h i = refl
regroup true true true d e f g h true = together d e f g h
  where
    together : (d e f g h : Bool) → both d (both e (both f (both g (both h true)))) ≡ both (both g true) (both (both d (both e f)) h)
    together d e f true true = rest d e f
      where
        rest : (d e f : Bool) → both d (both e (both f true)) ≡ both (both d (both e f)) true
        rest false e f = refl
        rest true false f = refl
        rest true true f = refl
    together d e f true false = simp both_false
    together d e f false h = simp both_false
regroup true true true d e f g h false = simp both_false

pub check_parts : (sh : Shape) (cache : List ℕ)
    → well_formed sh cache ≡ both (head_holds sh cache) (both (is_in_order sh.kinds (clock_of cache) 0 (entries sh cache)) (zeros (drop (size_of sh (count_of cache)) cache)))
unfolding well_formed
check_parts sh cache =
    rw order_parts
    (regroup (fits sh (length cache) (capacity_of cache)) (eqb (kind_of cache) sh.kinds.head) (leb (count_of cache) (capacity_of cache))
    (every (is_entry sh) (entries sh cache)) (never_fall 0 (entries sh cache)) (every (is_not_after (clock_of cache)) (entries sh cache))
    (leb (clock_of cache) last_clock) (zeros (drop (size_of sh (count_of cache)) cache)) (adds_up cache))

-- what the conditions on the head give
pub record HeadFacts (sh : Shape) (cache : List ℕ) : Type 0 where
  pub some : 1 ≤ capacity_of cache
  pub most : capacity_of cache ≤ max_capacity
  pub size : length cache ≡ size_of sh (capacity_of cache)
  pub few : count_of cache ≤ capacity_of cache
  pub inside : size_of sh (count_of cache) ≤ length cache
  pub small : length cache ≤ head_size + entry_size address_size_v6 * max_capacity

-- no entry is longer than one of IPv6
widest : (sh : Shape) → Sound sh → width sh ≤ entry_size address_size_v6
widest sh sound = omega (arith, sound.address_most)

-- nor do slots take more bytes than the most of that length do
pub slots_small : (sh : Shape) (n : ℕ) → Sound sh → n ≤ max_capacity → width sh * n ≤ entry_size address_size_v6 * max_capacity
slots_small sh n sound h = mul-le-mul (widest sh sound) h

pub head_facts : (sh : Shape) (cache : List ℕ) → Sound sh → head_holds sh cache ≡ true → HeadFacts sh cache
head_facts sh cache sound t =
    drawn
    (all_true
    (fits sh (length cache) (capacity_of cache) ∷ eqb (kind_of cache) sh.kinds.head ∷ leb (count_of cache) (capacity_of cache) ∷ adds_up cache ∷ leb (clock_of cache) last_clock ∷ [])
    t)
  where
    drawn : Truths (fits sh (length cache) (capacity_of cache) ∷ eqb (kind_of cache) sh.kinds.head ∷ leb (count_of cache) (capacity_of cache) ∷ adds_up cache ∷ leb (clock_of cache) last_clock ∷ []) → HeadFacts sh cache
    drawn (fit, (kind, (counted, (summed, (early, end))))) =
        let C = capacity_of cache in
        let sized = all_true (leb 1 C ∷ leb C sh.most ∷ eqb (length cache) (size_of sh C) ∷ []) fit in
        let most : C ≤ max_capacity = omega (arith, leb-true C sh.most sized.1.0, sound.capacity_most) in
        let size = eqb-true (length cache) (size_of sh C) sized.1.1.0 in
        let few = leb-true (count_of cache) C counted in
        let less = mul-le-mul_left (width sh) few in
        let small = mul-le-mul (widest sh sound) most in
        record {
          some = leb-true 1 C sized.0;
          most = most;
          size = size;
          few = few;
          inside = omega arith;
          small = omega arith;
        }

-- a slot up to the last entry's end begins within the cache
pub slot_inside : (sh : Shape) (i : ℕ) (cache : List ℕ) → i ≤ count_of cache → size_of sh i ≤ size_of sh (count_of cache)
slot_inside sh i cache h = let k = mul-le-mul_left (width sh) h in omega arith

-- the entries from an index on: what is lent, how long it is, and the records in it
module _ (sh : Shape) (i : ℕ) (cache : List ℕ) (f : HeadFacts sh cache) (h : i ≤ count_of cache) where
  long : size_of sh i + width sh * (count_of cache - i) ≡ size_of sh (count_of cache)
  long = let k = slot_inside sh i cache h in omega (arith, mul-sub (width sh) (count_of cache) i)

  pub stored_lent : (at end : ℕ) → at ≡ size_of sh i → end ≡ size_of sh (count_of cache) → take (end - at) (drop at cache) ≡ stored_from sh i cache
  unfolding stored_from part
  stored_lent at end e g =
      let l = long in
      let size : end - size_of sh i ≡ width sh * (count_of cache - i) = omega arith in
      rw (e, size)

  -- with the width and the number of entries as the code has them
  module _ (w n : ℕ) (s : List ℕ) (ew : w ≡ width sh) (en : n ≡ count_of cache - i) (es : s ≡ stored_from sh i cache) where
    pub stored_room : w * n ≤ length s
    unfolding stored_from
    stored_room =
        let l = long in
        rw (ew, en, es, length_part (size_of sh i) (width sh * (count_of cache - i)) cache (omega (arith, f.inside))) (le_refl (width sh * (count_of cache - i)))

    pub stored_entries : chunks w n s ≡ drop i (entries sh cache)
    unfolding stored_from part entries
    stored_entries =
        let l = long in
        let m = width sh * (count_of cache - i) in
        let room = length-drop (size_of sh i) cache in
        rw (ew, en, es)
        (chunks_take (width sh) (count_of cache - i) m (drop (size_of sh i) cache) (le_refl m) (omega (arith, f.inside))
        ∙ ap (chunks (width sh) (count_of cache - i)) (sym (drop-drop (width sh * i) head_size cache))
        ∙ sym (drop_chunks (width sh) (count_of cache) i (drop head_size cache)))

-- the first n of all entries
module _ (sh : Shape) (n : ℕ) (cache : List ℕ) (f : HeadFacts sh cache) (h : n ≤ count_of cache) (w : ℕ) (s : List ℕ) (ew : w ≡ width sh) (es : s ≡ stored_from sh 0 cache) where
  pub first_room : w * n ≤ length s
  first_room =
      let all = stored_room sh 0 cache f zero-le w (count_of cache) s ew (omega arith) es in
      let k = mul-le-mul_left w h in
      omega arith

  pub first_entries : chunks w n s ≡ take n (entries sh cache)
  first_entries = sym (take_chunks w (count_of cache) n s h) ∙ ap (take n) (stored_entries sh 0 cache f zero-le w (count_of cache) s ew (omega arith) es)

-- what stands behind the last entry, as a part that is lent
pub in_rest : (sh : Shape) (cache : List ℕ) (end : ℕ) (b : Bool) → end ≡ size_of sh (count_of cache)
    → b ≡ zeros (take (length cache - end) (drop end cache)) → b ≡ zeros (drop (size_of sh (count_of cache)) cache)
in_rest sh cache end b e h = h ∙ rw e (ap zeros (lent_rest (size_of sh (count_of cache)) cache))

-- the head of a well-formed cache
pub well_head : (sh : Shape) (cache : List ℕ) → well_formed sh cache ≡ true → head_holds sh cache ≡ true
well_head sh cache t = both_left (head_holds sh cache) _ (sym (check_parts sh cache) ∙ t)

pub sound_head : (sh : Shape) (cache : List ℕ) → Sound sh → well_formed sh cache ≡ true → HeadFacts sh cache
sound_head sh cache sound t = head_facts sh cache sound (well_head sh cache t)

-- where there is a free slot, the next entry's part lies within the cache
pub next_inside : (sh : Shape) (cache : List ℕ) → HeadFacts sh cache → count_of cache < capacity_of cache → size_of sh (count_of cache) + width sh ≤ length cache
next_inside sh cache f h =
    let k = mul-le-mul_left (width sh) h in
    let e = mul-suc (width sh) (count_of cache) in
    omega (arith, f.size)
