-- What the parts of the check answer (specs/Cache.antt's `conditions`, those of the head and those of the entries taken together).
use Rattle.std.specs.Prelude.{◌≡◌, ℕ, ◌+◌, Bool, true, List, [], ◌∷◌, length, take, drop, ◌==◌, nat_le, slice_index, Option, Some, is_some}
use Rattle.octets.specs.Numbers.{number}
use Rattle.octets.specs.Runs.{part, both, zeros}
use Rattle.settings.specs.Settings.{last_clock}
use Rattle.record.specs.Layout.{accepted_at, time_size, kind_of, accepted}
use Rattle.cache.specs.declared.Kinds.{Kinds}
use Rattle.cache.specs.declared.Shape.{Shape}
use Rattle.cache.specs.Chunks.{all_of}
use Rattle.cache.specs.Cache.{fits, size_of, capacity_of, count_of, clock_of, entries, held_kind, adds_up}

-- the conditions on the length and the head
abbrev pub head_holds : Shape → List ℕ → Bool
head_holds sh cache =
    all_of
    (fits sh (length cache) (capacity_of cache)
    ∷ (kind_of cache == sh.kinds.head)
    ∷ nat_le (count_of cache) (capacity_of cache)
    ∷ adds_up cache
    ∷ nat_le (clock_of cache) last_clock
    ∷ [])

-- the conditions on entries, in one walk
unfoldable pub is_in_order : Kinds → ℕ → ℕ → List (List ℕ) → Bool
is_in_order kinds clock t [] = true
is_in_order kinds clock t (e ∷ es) =
    both (held_kind kinds (kind_of e)) (both (nat_le t (accepted e)) (both (nat_le (accepted e) clock) (is_in_order kinds clock (accepted e) es)))

-- the conditions on the first n entries, and on what stands behind all of them
abbrev pub around : Shape → ℕ → List ℕ → Bool
around sh n cache = both (is_in_order sh.kinds (clock_of cache) 0 (take n (entries sh cache))) (zeros (drop (size_of sh (count_of cache)) cache))

-- what a look at the entry at a place tells: whether it may stand behind one that was accepted at t, and if so when it was accepted
pub record Looked (kinds : Kinds) (t at : ℕ) (s : List ℕ) (r : Option ℕ) : Type 0 where
  pub holds : is_some r ≡ both (held_kind kinds (slice_index s at)) (nat_le t (number (part (at + accepted_at) time_size s)))
  pub accepted : (n : ℕ) → r ≡ Some n → n ≡ number (part (at + accepted_at) time_size s)
