-- The table by which the code sees that each pair stands once: of every slot the last record that is in it, and of every record the one before it in its slot.
-- Records are counted from 1, and 0 is none. `k` tells a record's pair and `f` its slot.
use Rattle.std.specs.Prelude.{◌≡◌, ℕ, ◌+◌, ◌-◌, ◌*◌, ◌<◌, ◌≤◌, Bool, true, false, List, ◌≢◌, slice_index}
use Rattle.octets.specs.Runs.{part}
use Rattle.record.specs.Layout.{pair_at, pair_size, bound_size}

-- the pair of the record with this number
unfoldable pub pair_of : ℕ → List ℕ → ℕ → List ℕ
pair_of a s p = part (bound_size a * (p - 1) + pair_at) (pair_size a) s

-- p is the last of the first n records in slot h
pub record LastIn (f : ℕ → ℕ) (n h p : ℕ) : Type 0 where
  pub few : p ≤ n
  pub here : 1 ≤ p → f p ≡ h
  pub none : (q : ℕ) → p < q → q ≤ n → f q ≢ h

-- of the first n records, each has the one before it in its slot behind it
abbrev pub Linked : (ℕ → ℕ) → ℕ → List ℕ → Type 0
Linked f n nexts = (p : ℕ) → 1 ≤ p → p ≤ n → LastIn f (p - 1) (f p) (slice_index nexts p)

-- where a chain through the records that share a slot with a pair begins, whatever the slots are
pub record Chained (k : ℕ → List ℕ) (n : ℕ) (own : List ℕ) (first : ℕ) (nexts : List ℕ) : Type 0 where
  pub slot : List ℕ → ℕ
  pub last : LastIn (λ p. slot (k p)) n (slot own) first
  pub linked : Linked (λ p. slot (k p)) n nexts

-- whether one of the first n records has this pair
abbrev pub Met : (ℕ → List ℕ) → ℕ → List ℕ → Bool → Type 0
Met k n own true = (p : ℕ) × (1 ≤ p) × (p ≤ n) × (k p ≡ own)
Met k n own false = (p : ℕ) → 1 ≤ p → p ≤ n → k p ≢ own
