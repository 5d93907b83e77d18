-- Laws of dropping records (specs/Packing.antt): runs of those in force are moved to the front, and what they leave is cleared.
use mathlib.Core.Path.{◌≡◌, refl, sym, ap, ◌∙◌}
use mathlib.Core.Bool.{Bool, true, false, cond}
use mathlib.Core.List.{List, [], ◌∷◌, ◌++◌, append_assoc, append-nil}
use Prim.Native.Nat.{ℕ, suc, ◌+◌, ◌-◌, ◌*◌, ◌≤◌, ◌<◌}
use native.Mathlib.Omega.{arith}
use native.Mathlib.Nat.{mul-suc, mul-zero, mul-sub, mul-le-mul_left, sub_self}
use native.Mathlib.Numerals.{add-one}
use borrow.Author.Tests.{lt-ltb, le-ltb}
use lib.Dec.{ltb}
use lib.ListN.{length, take, drop, replicate, length-append, take-append-drop}
use lib.Seq.{length-take-le, drop-drop}
use borrow.Rule.Slice.PartMut.{mid_of, put_mid, mid_len, Post-is}
use Rattle.octets.specs.Numbers.{number}
use Rattle.octets.specs.Runs.{part, put}
use Rattle.octets.proofs.Runs.{length_part, part_none, part_add, part_drop, put_head, put_back, length_put}
use Rattle.record.specs.Layout.{bound_size, until_at, time_size, until}
use Rattle.cache.specs.Chunks.{chunks, joined, keep}
use Rattle.cache.proofs.Chunks.{Wide, Each, keep_append, joined_append, joined_chunks, length_joined, length_chunks, chunks_wide, keep_le}
use Rattle.entering.specs.Entering.{in_force}
use Rattle.entering.specs.Packing.{stay, Packed, dropped}
use Rattle.bounds.proofs.Records.{chunks_next, until_at_lem, next_within}

-- ---- records that are kept

pub each_keep : (P : List ℕ → Type 0) (p : List ℕ → Bool) (rs : List (List ℕ)) → Each P rs → Each P (keep p rs)
unfolding keep
each_keep P p [] h = h
each_keep P p (r ∷ rs) (h, hs) = go (p r) (each_keep P p rs hs)
  where
    go : (b : Bool) → Each P (keep p rs) → Each P (cond b (r ∷ keep p rs) (keep p rs))
    go true i = (h, i)
    go false i = i

-- where none is dropped, all are kept
pub keep_all : (p : List ℕ → Bool) (rs : List (List ℕ)) → length (keep p rs) ≡ length rs → keep p rs ≡ rs
unfolding keep
keep_all p [] h = refl
keep_all p (r ∷ rs) h = go (p r) h (keep_le p rs) (keep_all p rs)
  where
    go : (b : Bool) → length (cond b (r ∷ keep p rs) (keep p rs)) ≡ suc (length rs) → length (keep p rs) ≤ length rs → (length (keep p rs) ≡ length rs → keep p rs ≡ rs) → cond b (r ∷ keep p rs) (keep p rs) ≡ r ∷ rs
    go true e l i = ap (λ (x : List (List ℕ)). r ∷ x) (i (omega arith))
    go false e l i = absurd (omega arith)

pub stay_wide : (a clock n : ℕ) (s : List ℕ) → bound_size a * n ≤ length s → Each (Wide (bound_size a)) (stay a clock n s)
stay_wide a clock n s h = each_keep (Wide (bound_size a)) (in_force a clock) (chunks (bound_size a) n s) (chunks_wide (bound_size a) n s h)

-- ---- a run moved to the front

-- what stands in a list from a place on is another's from there on too
behind : (i j n : ℕ) (s t : List ℕ) → i ≤ j → drop i s ≡ drop i t → part j n s ≡ part j n t
behind i j n s t h e =
    let k : i + (j - i) ≡ j = omega arith in
    rw (← k) (sym (part_drop (j - i) n i s) ∙ ap (part (j - i) n) e ∙ part_drop (j - i) n i t)

drop_on : (i j : ℕ) (s t : List ℕ) → i ≤ j → drop i s ≡ drop i t → drop j s ≡ drop j t
drop_on i j s t h e =
    let k : i + (j - i) ≡ j = omega arith in
    rw (← k) (sym (drop-drop (j - i) i s) ∙ ap (drop (j - i)) e ∙ drop-drop (j - i) i t)

-- s is as t behind `run`, and its bytes up to `at` are moved to `to`
module _ (to run at : ℕ) (s t : List ℕ) (h : to ≤ run) (k : run ≤ at) (l : at ≤ length s) (e : drop run s ≡ drop run t) where
  run_long : length (part run (at - run) s) ≡ at - run
  run_long = length_part run (at - run) s (omega arith)

  pub moved_front : take (to + (at - run)) (put to (part run (at - run) s) s) ≡ take to s ++ part run (at - run) t
  moved_front =
      let q = put_head to s (omega arith) (part run (at - run) s) in
      (rw run_long at q) ∙ ap (λ (x : List ℕ). take to s ++ x) (behind run run (at - run) s t (omega arith) e)

  pub moved_rest : (j : ℕ) → at ≤ j → drop j (put to (part run (at - run) s) s) ≡ drop j t
  moved_rest j m =
      let q = put_back to s (omega arith) (part run (at - run) s) in
      drop_on (to + (at - run)) j (put to (part run (at - run) s) s) s (omega arith) (rw run_long at q) ∙ drop_on run j s t (omega arith) e

  pub moved_length : length (put to (part run (at - run) s) s) ≡ length s
  moved_length = length_put to (part run (at - run) s) s (let r = run_long in omega arith)

-- ---- the walk: those in force of the first i are at the front, up to a run that is not moved yet

pub record Packing (a clock n : ℕ) (s : List ℕ) (i to run : ℕ) (t : List ℕ) : Type 0 where
  pub few : i ≤ n
  pub front_first : to ≤ run
  pub run_first : run ≤ bound_size a * i
  pub long : length t ≡ length s
  pub rest : drop run t ≡ drop run s
  pub kept : joined (stay a clock i s) ≡ take to t ++ part run (bound_size a * i - run) s

module _ (a clock n : ℕ) (s : List ℕ) (room : bound_size a * n ≤ length s) where
  pub packing_start : Packing a clock n s 0 0 0 s
  unfolding chunks keep joined part
  packing_start =
      let z : bound_size a * 0 - 0 ≡ 0 = omega arith in
      record { few = omega arith; front_first = omega arith; run_first = omega arith; long = refl; rest = refl; kept = rw z refl }

  -- one record more
  module _ (i to run : ℕ) (t : List ℕ) (p : Packing a clock n s i to run t) (more : i < n) where
    abbrev at : ℕ
    at = bound_size a * i

    next_at : bound_size a * (i + 1) ≡ at + bound_size a
    next_at = rw (add-one, mul-suc) (omega arith)

    pub at_room : at + bound_size a ≤ length s
    at_room = next_within (bound_size a) i n (length s) more room

    until_there : (u : ℕ) → u ≡ number (part (at + until_at a) time_size t) → u ≡ until a (part (bound_size a * i) (bound_size a) s)
    until_there u e =
        e ∙ ap number (behind run (at + until_at a) time_size t s (omega (arith, p.run_first)) p.rest)
        ∙ ap (λ (j : ℕ). number (part j time_size s)) (let d : at + until_at a ≡ bound_size a * i + 1 + (32 + a) = omega arith in d) ∙ sym (until_at_lem a (bound_size a * i) s)

    stay_next : (b : Bool) → ltb clock (until a (part (bound_size a * i) (bound_size a) s)) ≡ b → stay a clock (i + 1) s ≡ stay a clock i s ++ cond b (part (bound_size a * i) (bound_size a) s ∷ []) []
    unfolding keep
    stay_next b e = rw (chunks_next, keep_append, e)

    -- it is in force, and the run goes on
    pub packing_goes_on : (u : ℕ) → u ≡ number (part (at + until_at a) time_size t) → clock < u → Packing a clock n s (i + 1) to run t
    unfolding joined
    packing_goes_on u e h =
        let f : ltb clock (until a (part (bound_size a * i) (bound_size a) s)) ≡ true = rw (← until_there u e) (lt-ltb clock u h) in
        let d : bound_size a * (i + 1) - run ≡ at - run + bound_size a = omega (arith, p.run_first, next_at) in
        let r : run + (at - run) ≡ at = omega (arith, p.run_first) in
        record {
          few = omega arith;
          front_first = p.front_first;
          run_first = omega (arith, p.run_first, next_at);
          long = p.long;
          rest = p.rest;
          kept =
              rw (stay_next true f, joined_append, p.kept, append-nil, append_assoc, d, part_add run (at - run) (bound_size a) s, r);
        }

    -- it is past its time: the run before it is moved, and the next begins behind it
    pub packing_moves : (u : ℕ) → u ≡ number (part (at + until_at a) time_size t) → u ≤ clock
        → Packing a clock n s (i + 1) (to + (at - run)) (at + bound_size a) (put to (part run (at - run) t) t)
    packing_moves u e h =
        let f : ltb clock (until a (part (bound_size a * i) (bound_size a) s)) ≡ false = rw (← until_there u e) (le-ltb clock u h) in
        let l : at ≤ length t = omega (arith, at_room, p.long) in
        let z : bound_size a * (i + 1) - (at + bound_size a) ≡ 0 = omega (arith, next_at) in
        record {
          few = omega arith;
          front_first = omega (arith, p.front_first, p.run_first);
          run_first = omega (arith, next_at);
          long = moved_length to run at t s p.front_first p.run_first l p.rest ∙ p.long;
          rest = moved_rest to run at t s p.front_first p.run_first l p.rest (at + bound_size a) (omega arith);
          kept =
              rw (stay_next false f, append-nil, p.kept, z, part_none, append-nil)
              (sym (moved_front to run at t s p.front_first p.run_first l p.rest));
        }

  -- the last run is moved
  pub packing_ends : (i to run : ℕ) (t : List ℕ) → Packing a clock n s i to run t → n ≤ i → Packed a clock n s (to + (bound_size a * n - run)) (put to (part run (bound_size a * n - run) t) t)
  packing_ends i to run t p h =
      let e : i ≡ n = omega (arith, p.few) in
      let at = bound_size a * n in
      let first : run ≤ at = rw e at p.run_first in
      let l : at ≤ length t = omega (arith, p.long, room) in
      let k : joined (stay a clock n s) ≡ take to t ++ part run (at - run) s = rw (← e) p.kept in
      let m = length_joined (bound_size a) (stay a clock n s) (stay_wide a clock n s room) in
      let x = length_part run (at - run) s (omega (arith, first, p.long)) in
      let y = length-take-le to t (omega (arith, p.front_first, first, p.long, room)) in
      let z = ap length k ∙ length-append (take to t) (part run (at - run) s) in
      record {
        length_is = omega arith;
        front = moved_front to run at t s p.front_first first l p.rest ∙ sym k;
        rest = moved_rest to run at t s p.front_first first l p.rest (bound_size a * n) (omega arith);
      }

  -- what is left behind those in force is cleared
  pub cleared : (size : ℕ) (t : List ℕ) → Packed a clock n s size t → length t ≡ length s
      → put_mid size (bound_size a * n - size) t (replicate (length (mid_of size (bound_size a * n - size) t)) 0) ≡ dropped a clock n s
  unfolding dropped
  cleared size t p l =
      let g = length (stay a clock n s) in
      let few : g ≤ n = rw length_chunks at (keep_le (in_force a clock) (chunks (bound_size a) n s)) in
      let inside = mul-le-mul_left (bound_size a) few in
      let freed : bound_size a * n - size ≡ bound_size a * (n - g) = omega (arith, mul-sub (bound_size a) n g, p.length_is) in
      rw (mid_len size (bound_size a * n) t (omega (arith, room)), Post-is size (bound_size a * n) t (omega (arith, p.length_is)), p.front, p.rest, freed)

  -- nothing to drop
  pub dropped_none : length (stay a clock n s) ≡ n → s ≡ dropped a clock n s
  unfolding dropped
  dropped_none h =
      let e : stay a clock n s ≡ chunks (bound_size a) n s = keep_all (in_force a clock) (chunks (bound_size a) n s) (h ∙ sym (length_chunks (bound_size a) n s)) in
      let z : n - n ≡ 0 = sub_self n in
      sym (rw (h, z, mul-zero, e, joined_chunks) (take-append-drop (bound_size a * n) s))
