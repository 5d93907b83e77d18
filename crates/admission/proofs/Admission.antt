-- What admission leaves in the cache: the expired leave first, and then the ad is appended. How many entries that moves.
use mathlib.Core.Path.{◌≡◌, refl, sym, ◌∙◌}
use mathlib.Core.Bool.{true}
use mathlib.Core.List.{List, [], ◌∷◌, ◌++◌}
use Prim.Native.Nat.{ℕ, ◌+◌, ◌-◌, ◌^◌, ◌≤◌, ◌<◌}
use native.Mathlib.Omega.{arith}
use lib.ListN.{length, length-append}
use Rattle.settings.specs.Settings.{last_clock}
use Rattle.record.specs.Layout.{ad_size}
use Rattle.cache.specs.declared.Shape.{Shape}
use Rattle.cache.specs.Chunks.{keep}
use Rattle.cache.specs.Cache.{Sound, capacity_of, count_of, clock_of, expired_of, entries, well_formed}
use Rattle.cache.specs.Expiry.{live, gone, head_confirmed, head_live, cleared, appended}
use Rattle.cache.proofs.Contents.{Left, expired_left, appended_left}
use Rattle.octets.specs.Counting.{passing_below}
use Rattle.upkeep.specs.Newcomer.{newcomer}
use Rattle.upkeep.specs.Moves.{changes, moved, staying}
use Rattle.upkeep.proofs.Newcomer.{newcomer_stands}
use Rattle.upkeep.proofs.Moves.{moved_by, count_splits, moved_staying}
use Rattle.load.specs.Counts.{counts, counts_in}
use Rattle.admission.specs.Admission.{holding}

module _ (sh : Shape) (clock : ℕ) (ad cache : List ℕ) (sound : Sound sh) (well : well_formed sh cache ≡ true) (later : clock_of cache ≤ clock)
    (early : clock ≤ last_clock) where
  -- once the expired have left, the cache is well formed, and a slot is free
  pub slot_free : (left : List ℕ) → left ≡ cleared sh clock cache → (counts_in sh cache clock ad).live < capacity_of cache
      → (well_formed sh left ≡ true) × (count_of left < capacity_of left)
  unfolding counts_in counts
  slot_free left e free =
      let l = expired_left sh clock cache sound well later early in
      rw e (l.well, omega (arith, l.reads.counted, l.reads.capacity))

  pub held_after : (left : List ℕ) → left ≡ cleared sh clock cache → appended sh clock (newcomer sh clock ad) left ≡ holding sh clock ad cache
  unfolding appended holding
  held_after left e =
      let l = expired_left sh clock cache sound well later early in
      rw (e, l.reads.capacity, l.reads.confirmed, l.reads.expired, l.reads.listed)

  -- what admission leaves is well formed again, and holds the live entries and the ad behind them
  pub holding_left : length ad ≡ ad_size sh.address → (counts_in sh cache clock ad).live < capacity_of cache
      → Left sh (head_confirmed clock (head_live sh clock cache)) (keep (live clock) (entries sh cache) ++ (newcomer sh clock ad ∷ [])) (holding sh clock ad cache)
  unfolding counts_in counts
  holding_left size free =
      let e = newcomer sh clock ad in
      let n = newcomer_stands sh clock ad sound (omega arith) size in
      let l = expired_left sh clock cache sound well later early in
      let f : length (entries sh (cleared sh clock cache)) < capacity_of (cleared sh clock cache) = rw (l.reads.listed, l.reads.capacity) (omega arith) in
      let m : clock_of (cleared sh clock cache) ≤ clock = omega (arith, l.reads.clocked) in
      let small : expired_of (cleared sh clock cache) < 2 ^ 64 = omega (arith, l.reads.expired) in
      rw (held_after (cleared sh clock cache) refl, l.reads.capacity, l.reads.confirmed, l.reads.expired, l.reads.listed)
      at (appended_left sh clock e (cleared sh clock cache) sound l.well m early f small n.long n.held n.accepted_now)

  pub holding_count : length ad ≡ ad_size sh.address → (counts_in sh cache clock ad).live < capacity_of cache
      → count_of (holding sh clock ad cache) ≡ length (keep (live clock) (entries sh cache)) + 1
  holding_count size free = (holding_left size free).reads.counted ∙ length-append (keep (live clock) (entries sh cache)) (newcomer sh clock ad ∷ [])

  -- how many entries moved between the cache and what CONFIRMED leaves is the plain reading
  pub holding_moves : length ad ≡ ad_size sh.address → (counts_in sh cache clock ad).live < capacity_of cache
      → moved 1 cache (holding sh clock ad cache) ≡ staying clock (entries sh cache)
  holding_moves size free = moved_staying sh clock cache well 1 (holding sh clock ad cache) (holding_count size free)

module _ (sh : Shape) (clock : ℕ) (cache : List ℕ) (sound : Sound sh) (well : well_formed sh cache ≡ true) (later : clock_of cache ≤ clock)
    (early : clock ≤ last_clock) where
  pub expired_count : count_of (cleared sh clock cache) ≡ length (keep (live clock) (entries sh cache)) + 0
  expired_count = (expired_left sh clock cache sound well later early).reads.counted ∙ omega arith

  -- and what WAIT leaves
  pub expired_moves : moved 0 cache (cleared sh clock cache) ≡ staying clock (entries sh cache)
  expired_moves = moved_staying sh clock cache well 0 (cleared sh clock cache) expired_count

-- it is told by what was counted: g that are gone, and those that stay
pub moved_counted : (sh : Shape) (clock : ℕ) (cache : List ℕ) → well_formed sh cache ≡ true → (newcomers g stay : ℕ) (after : List ℕ)
    → count_of after ≡ length (keep (live clock) (entries sh cache)) + newcomers → g ≡ gone clock (entries sh cache) → stay ≡ count_of after - newcomers
    → passing_below (changes g) (g + stay) ≡ moved newcomers cache after
moved_counted sh clock cache well newcomers g stay after a h s =
    let c = count_splits sh clock cache well in
    sym (moved_by newcomers g stay cache after (omega arith) (omega arith))
