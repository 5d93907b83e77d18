-- The records that the check has passed: their untils are not too large, no pair of theirs stands twice, and they are in the table. Its start, one record more,
-- and what each way out of it decides.
use Rattle.std.proofs.Common.{◌≡◌, ℕ, ◌+◌, ◌-◌, ◌*◌, ◌<◌, ◌≤◌, Bool, true, false, not, List, get_or, take, drop, set, replicate, sym, refl, ap, ◌∙◌, arith, le-leb}
use borrow.Author.Tests.{lt-leb}
use Rattle.octets.specs.Numbers.{number}
use Rattle.octets.specs.Runs.{part}
use Rattle.octets.proofs.Runs.{both_false, lent_part}
use Rattle.record.specs.Layout.{bound_size, pair_at, pair_size, time_size, pair, until}
use Rattle.cache.specs.Chunks.{chunks, every}
use Rattle.bounds.specs.declared.once.Keys.{Keys}
use Rattle.bounds.specs.Bounds.{most_bounds, last_until, among, is_not_late, each_once}
use Rattle.bounds.specs.Hashing.{slots, slot_of}
use Rattle.bounds.specs.Chains.{pair_of, Chained, Met}
use Rattle.bounds.specs.Told.{sound}
use Rattle.bounds.proofs.Records.{chunks_next, until_at_lem}
use Rattle.bounds.proofs.Conditions.{every_next, once_next, pair_of_lem, met_among, fails}
use Rattle.bounds.proofs.Table.{Table, table_start, table_next}

pub record Passed (a : ℕ) (s : List ℕ) (keys : Keys) (n i : ℕ) (heads nexts : List ℕ) : Type 0 where
  pub few : i ≤ n
  pub table : Table (λ p. slot_of keys (pair_of a s p)) i heads nexts
  pub timely : every (is_not_late a) (chunks (bound_size a) i s) ≡ true
  pub once : each_once a (chunks (bound_size a) i s) ≡ true

slot_below : (keys : Keys) (k : List ℕ) → slot_of keys k < slots
unfolding slot_of
slot_below keys k = omega arith

module _ (a : ℕ) (s : List ℕ) (keys : Keys) (n : ℕ) where
  pub passed_start : Passed a s keys n 0 (replicate slots 0) (replicate (most_bounds + 1) 0)
  unfolding chunks every each_once
  passed_start =
      record { few = omega arith; table = table_start (λ p. slot_of keys (pair_of a s p)); timely = refl; once = refl }

  -- all are passed
  pub passed_all : (i : ℕ) (heads nexts : List ℕ) → Passed a s keys n i heads nexts → n ≤ i → true ≡ sound a (chunks (bound_size a) n s)
  passed_all i heads nexts p h = let e : i ≡ n = omega (arith, p.few) in rw (← e, p.timely, p.once)

  -- the next record
  module _ (i : ℕ) (heads nexts : List ℕ) (p : Passed a s keys n i heads nexts) (more : i < n) where
    pub until_next : (u : ℕ) → u ≡ number (part (bound_size a * i + pair_at + pair_size a) time_size s) → u ≡ until a (part (bound_size a * i) (bound_size a) s)
    until_next u e = e ∙ sym (until_at_lem a (bound_size a * i) s)

    -- its until is too large
    pub late_refused : (u : ℕ) → u ≡ number (part (bound_size a * i + pair_at + pair_size a) time_size s) → last_until < u → sound a (chunks (bound_size a) n s) ≡ false
    late_refused u e h =
        let l : every (is_not_late a) (chunks (bound_size a) (i + 1) s) ≡ false =
        rw (chunks_next, every_next, ← until_next u e, lt-leb u last_until h) (both_false (every (is_not_late a) (chunks (bound_size a) i s))) in
        rw (fails a s (every (is_not_late a)) (λ rs r. is_not_late a r) (every_next (is_not_late a)) (i + 1) n (omega arith) l)

    -- its slot
    pub slot_is : (h : ℕ) → h ≡ slot_of keys (take (bound_size a * i + pair_at + pair_size a - (bound_size a * i + pair_at)) (drop (bound_size a * i + pair_at) s)) → slot_of keys (pair_of a s (i + 1)) ≡ h
    unfolding pair_of
    slot_is h e = sym (e ∙ rw lent_part (ap (λ (j : ℕ). slot_of keys (part (bound_size a * j + 1) (32 + a) s)) (let d : i ≡ i + 1 - 1 = omega arith in d)))

    module _ (h : ℕ) (here : slot_of keys (pair_of a s (i + 1)) ≡ h) where
      pub slot_in : h < slots
      slot_in = rw (← here) (slot_below keys (pair_of a s (i + 1)))

      pub chained : Chained (pair_of a s) i (pair_of a s (i + 1)) (get_or heads h 0) nexts
      chained = record { slot = slot_of keys; last = rw here (p.table.lasts h slot_in); linked = p.table.linked }

      once_more : (b d : Bool) → Met (pair_of a s) i (pair_of a s (i + 1)) b → b ≡ d → each_once a (chunks (bound_size a) (i + 1) s) ≡ not d
      once_more b d m e = rw (chunks_next, once_next, p.once, pair_of_lem a s i, met_among a s i (pair_of a s (i + 1)) b m, e)

      -- its pair stands before it
      pub twice_refused : (b : Bool) → Met (pair_of a s) i (pair_of a s (i + 1)) b → b ≡ true → sound a (chunks (bound_size a) n s) ≡ false
      twice_refused b m e =
          rw (fails a s (each_once a) (λ rs r. not (among a (pair a r) rs)) (once_next a) (i + 1) n (omega arith) (once_more b true m e))
          (both_false (every (is_not_late a) (chunks (bound_size a) n s)))

      pub passed_next : (u : ℕ) → u ≡ number (part (bound_size a * i + pair_at + pair_size a) time_size s) → u ≤ last_until → (b : Bool) → Met (pair_of a s) i (pair_of a s (i + 1)) b → b ≡ false → n ≤ most_bounds
          → Passed a s keys n (i + 1) (set heads h (i + 1)) (set nexts (i + 1) (get_or heads h 0))
      passed_next u e l b m g o =
          record {
            few = omega arith;
            table = table_next (λ j. slot_of keys (pair_of a s j)) i heads nexts h p.table (omega arith) here slot_in;
            timely = rw (chunks_next, every_next, p.timely, ← until_next u e) (le-leb u last_until l);
            once = once_more b false m g;
          }
