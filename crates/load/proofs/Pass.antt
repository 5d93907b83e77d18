-- Laws of the pass over the entries: what one entry adds, and what the pass has found when some are left.
use mathlib.Core.Path.{◌≡◌, refl, sym, ◌∙◌, ap}
use mathlib.Core.Bool.{Bool, true, false, cond}
use mathlib.Core.List.{List, [], ◌∷◌}
use Prim.Native.Nat.{ℕ, zero, suc, ◌+◌, ◌-◌, ◌*◌, ◌≤◌, ◌<◌, zero-le}
use native.Mathlib.Omega.{arith}
use native.Mathlib.Nat.{add-zero}
use Rattle.std.specs.Prelude.{Option, Some, is_some}
use lib.Dec.{eqb, leb}
use lib.ListN.{length, take, drop, get_or, replicate, length-replicate, length-set}
use lib.Seq.{drop-drop, get_or-set_same, get_or-set_other, ext_get_or}
use borrow.Author.Tests.{eqb-true, eqb-false, le-leb, leb-true}
use Rattle.cache.specs.declared.Kinds.{Kinds}
use Rattle.cache.specs.Cache.{max_capacity, held_kind}
use Rattle.cache.specs.Check.{is_in_order, Looked}
use Rattle.cache.specs.declared.Shape.{Shape}
use Rattle.cache.proofs.Chunks.{count_le}
use Rattle.octets.specs.Numbers.{number}
use Rattle.octets.specs.Runs.{part, both}
use Rattle.octets.proofs.Runs.{length_part, lent_rest, part_drop, both_true, both_one}
use Rattle.octets.proofs.Counting.{one_most}
use Rattle.record.specs.Layout.{kind_of, accepted, entry_body, entry_body_at, entry_peer_at, entry_address_at, peer, peer_at, address_at}
use Rattle.cache.specs.Chunks.{count}
use Rattle.cache.specs.Expiry.{serves}
use Rattle.cache.proofs.Looking.{stopped, later_decides}
use Rattle.load.specs.declared.Counts.{Counts}
use Rattle.similarity.specs.Bits.{shared}
use Rattle.similarity.specs.Points.{sum, points_from}
use Rattle.load.specs.Counts.{address_of, exactly, similarity, counts, live_in, table, totals, totals_in, incremented, Tallied, Walked, Tabled, entry_of_pair}
use Rattle.similarity.proofs.Bits.{shared_le}
use Rattle.load.proofs.Totals.{length_table, get_d_table, totals_all, similarity_from}

-- the peer of an entry, as a part of its bytes
pub peer_part : (e : List ℕ) → take (entry_address_at - entry_peer_at) (drop entry_peer_at e) ≡ peer (entry_body e)
unfolding part
peer_part e = rw (drop-drop peer_at entry_body_at e)

-- what its address shares with a newcomer's, which is the first `bytes` of what is lent
pub bits_of : (bytes : ℕ) (e lent : List ℕ) → bytes ≤ length lent → let x = part 0 bytes lent in
    shared (8 * bytes) (number (part 0 bytes (take (length e - entry_address_at) (drop entry_address_at e)))) (number x) ≡ shared (8 * length x) (address_of (length x) e) (number x)
bits_of bytes e lent h =
    let long = length_part 0 bytes lent (omega arith) in
    rw (long, lent_rest entry_address_at e, part_drop 0 bytes entry_address_at e, part_drop address_at bytes entry_body_at e)

-- ---- tables of counters

zeros_at : (m j : ℕ) → get_or {A = ℕ} (replicate m 0) j 0 ≡ 0
zeros_at zero j = refl
zeros_at (suc m) zero = refl
zeros_at (suc m) (suc j) = zeros_at m j

incremented_at : (k j : ℕ) (ts : List ℕ) → k < length ts → get_or (incremented k ts) j 0 ≡ get_or ts j 0 + cond (eqb k j) 1 0
incremented_at k j ts h = go (eqb k j) refl
  where
    go : (b : Bool) → eqb k j ≡ b → get_or (incremented k ts) j 0 ≡ get_or ts j 0 + cond (eqb k j) 1 0
    go true e = let f = eqb-true k j e in rw (e, ← f) (get_or-set_same ts k (get_or ts k 0 + 1) 0 h)
    go false e =
        let f : j ≡ k → ⊥ = λ d. eqb-false k j e (sym d) in
        rw (e, add-zero) (get_or-set_other ts k j (get_or ts k 0 + 1) 0 f)

-- an entry adds at most one of each
pub tallied_most : (e s p x : List ℕ) (served paired : ℕ) (ts : List ℕ) (served' paired' : ℕ) (ts' : List ℕ) → Tallied e s p x served paired ts served' paired' ts'
    → (served' ≤ served + 1) × (paired' ≤ paired + 1)
tallied_most e s p x served paired ts served' paired' ts' a =
    let f = one_most (serves s e) in
    let g = one_most (entry_of_pair s p e) in
    (rw a.served_is (omega arith), rw a.paired_is (omega arith))

-- ---- the pass

-- of the entries es those of `left` are left, behind one that was accepted at t: whether all hold is whether these do, and what was found among those before them
pub record Passed (kinds : Kinds) (latest : ℕ) (s p x : List ℕ) (es left : List (List ℕ)) (t served paired : ℕ) (ts : List ℕ) : Type 0 where
  pub answer : is_in_order kinds latest 0 es ≡ both (leb t latest) (is_in_order kinds latest t left)
  pub few : served + length left ≤ length es
  pub fewer : paired + length left ≤ length es
  pub served_are : count (serves s) es ≡ served + count (serves s) left
  pub paired_are : count (entry_of_pair s p) es ≡ paired + count (entry_of_pair s p) left
  pub long : length ts ≡ 8 * length x + 1
  pub sharers : (j : ℕ) → count (exactly (length x) x j) es ≡ get_or ts j 0 + count (exactly (length x) x j) left

-- every counter is small
pub pass_small : (x : List ℕ) (es left : List (List ℕ)) (ts : List ℕ)
    → ((j : ℕ) → count (exactly (length x) x j) es ≡ get_or ts j 0 + count (exactly (length x) x j) left)
    → length es ≤ max_capacity → (j : ℕ) → get_or ts j 0 ≤ max_capacity
pass_small x es left ts sharers h j = omega (arith, sharers j, count_le (exactly (length x) x j) es)

module _ {kinds : Kinds} {latest : ℕ} {s p x : List ℕ} {es : List (List ℕ)} where
  pub pass_start : (ts : List ℕ) → ts ≡ replicate (8 * length x + 1) 0 → Passed kinds latest s p x es es 0 0 0 ts
  pass_start ts e =
      record {
        answer = rw (le-leb 0 latest zero-le);
        few = omega arith;
        fewer = omega arith;
        served_are = omega arith;
        paired_are = omega arith;
        long = rw e (length-replicate (8 * length x + 1) 0);
        sharers = λ j. let z = zeros_at (8 * length x + 1) j in rw (e, z) (omega arith);
      }

  module _ {left : List (List ℕ)} {t served paired : ℕ} {ts : List ℕ} (q : Passed kinds latest s p x es left t served paired ts) where
    -- where none is left, all were counted, and all hold unless the last is after the clock
    pub pass_done : left ≡ [] → Walked s p x es served paired ts × (is_in_order kinds latest 0 es ≡ leb t latest)
    unfolding count totals is_in_order
    pass_done none =
        let f = rw none at q.served_are in
        let g = rw none at q.paired_are in
        let r = rw none at q.sharers in (
          record {
            served_are = sym (f ∙ add-zero served);
            paired_are = sym (g ∙ add-zero paired);
            leaves =
                ext_get_or 0 ts (table (λ j. count (exactly (length x) x j) es) (8 * length x + 1))
                (q.long ∙ sym (length_table (λ j. count (exactly (length x) x j) es) (8 * length x + 1)))
                (λ i h. let l = q.long in sym (get_d_table (λ j. count (exactly (length x) x j) es) (8 * length x + 1) i (omega arith) ∙ r i ∙ add-zero (get_or ts i 0)));
          },
          q.answer ∙ rw none (both_one (leb t latest)),
        )

    module _ {e : List ℕ} {more : List (List ℕ)} {r : Option ℕ} (next : left ≡ e ∷ more) (seen : Looked kinds t 0 e r) where
      -- the next entry does not hold, and so nor do all
      pub pass_stops : is_some r ≡ false → is_in_order kinds latest 0 es ≡ false
      unfolding is_in_order
      pass_stops h = q.answer ∙ rw next (stopped (leb t latest) (held_kind kinds (kind_of e)) (leb t (accepted e)) _ (sym seen.holds ∙ h))

      -- it does, and is counted
      pub pass_on : {u served' paired' : ℕ} {ts' : List ℕ} → r ≡ Some u → Tallied e s p x served paired ts served' paired' ts'
          → Passed kinds latest s p x es more u served' paired' ts'
      unfolding count is_in_order
      pass_on {u} {served'} {paired'} {ts'} h a =
          let bits = shared (8 * length x) (address_of (length x) e) (number x) in
          let below : bits < length ts = omega (arith, q.long, shared_le (8 * length x) (address_of (length x) e) (number x)) in
          let most = tallied_most e s p x served paired ts served' paired' ts' a in
          let b = both_true (held_kind kinds (kind_of e)) (leb t (accepted e)) (sym seen.holds ∙ ap is_some h) in
          record {
            answer = q.answer ∙ rw (next, b.0, b.1, seen.accepted u h) (later_decides t (accepted e) latest _ (leb-true t (accepted e) b.1));
            few = omega (arith, rw next at q.few, most.0);
            fewer = omega (arith, rw next at q.fewer, most.1);
            served_are = q.served_are ∙ rw (next, a.served_is) (omega arith);
            paired_are = q.paired_are ∙ rw (next, a.paired_is) (omega arith);
            long = rw a.leaves (length-set ts bits (get_or ts bits 0 + 1) ∙ q.long);
            sharers = λ j. let b = incremented_at bits j ts below in q.sharers j ∙ rw (next, a.leaves, b) (omega arith);
          }

-- ---- what the pass found

module _ (s p x : List ℕ) (es : List (List ℕ)) (served paired : ℕ) (ts : List ℕ) (h : Walked s p x es served paired ts) where
  pub walked_long : length ts ≡ 8 * length x + 1
  unfolding totals
  walked_long = rw h.leaves (length_table (λ j. count (exactly (length x) x j) es) (8 * length x + 1))

  pub walked_sum : sum ts ≡ length es
  walked_sum = rw h.leaves (totals_all (length x) x es)

  pub walked_counts : (a c m : ℕ) → length x ≡ a → c ≡ length es → m ≡ points_from ts c
      → ◌≡◌ {A = Counts} (record { live = c; service = served; held = paired; similarity = m }) (counts a s p x es)
  unfolding counts
  walked_counts a c m k l e =
      let last : length ts - 1 ≡ 8 * length x = omega (arith, walked_long) in
      let q : m ≡ similarity (length x) x es = e ∙ rw (last, l, h.leaves) (sym (similarity_from (length x) x es)) in
      rw (← k, q, l, h.served_are, h.paired_are)

  -- where these are the live entries of a cache
  pub walked_tabled : (sh : Shape) (cache : List ℕ) (clock c m : ℕ) → length x ≡ sh.address → es ≡ live_in sh cache clock → c ≡ length es
      → m ≡ points_from ts c
      → Tabled sh cache clock s p x (record { live = c; service = served; held = paired; similarity = m }) ts
  unfolding totals_in
  walked_tabled sh cache clock c m k e l f =
      record { counted = walked_counts sh.address c m k l f ∙ ap (counts sh.address s p x) e; leaves = h.leaves ∙ rw (k, e) }
