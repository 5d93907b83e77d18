-- Laws of a walk over entries that lie one behind the other: where the next one is, and how its fields are read in place.
use Rattle.std.proofs.Common.{◌≡◌, ℕ, zero, suc, ◌+◌, ◌-◌, ◌*◌, ◌<◌, ◌≤◌, List, ◌∷◌, length, get_or, take, drop, ap, ◌∙◌, not-suc-le-zero, add-zero, mul-suc, arith, get_or-drop, get_or-take, drop-drop}
use Rattle.octets.specs.Numbers.{number}
use Rattle.octets.specs.Runs.{part}
use Rattle.octets.proofs.Runs.{part_part, length_part, lent_part}
use Rattle.record.specs.Layout.{entry_body_at, accepted_at, time_size, kind_of, accepted}
use Rattle.cache.specs.Chunks.{chunks}

-- of the `left` entries from `at` on, the first is there, and the others follow it
pub record Step (w left at : ℕ) (s : List ℕ) : Type 0 where
  pub room : at + w ≤ length s
  pub next : at + w + w * (left - 1) ≤ length s
  pub cut : chunks w left (drop at s) ≡ part at w s ∷ chunks w (left - 1) (drop (at + w) s)

pub step : (w left at : ℕ) (s : List ℕ) → 0 < left → at + w * left ≤ length s → Step w left at s
unfolding chunks part
step w zero at s k h = absurd (not-suc-le-zero k)
step w (suc l) at s k h =
    let e = mul-suc w l in
    let f : suc l - 1 ≡ l = omega arith in
    record { room = omega arith; next = rw f (omega arith); cut = rw (f, drop-drop) }

-- the entry at `at`, as a part that is lent
pub entry_long : (at w : ℕ) (s : List ℕ) → at + w ≤ length s → length (take (at + w - at) (drop at s)) ≡ w
entry_long at w s h = rw lent_part (length_part at w s h)

-- its fields
pub kind_at : (w at : ℕ) (s : List ℕ) → 0 < w → kind_of (part at w s) ≡ get_or s at 0
unfolding part
kind_at w at s h = get_or-take w (drop at s) 0 0 h ∙ get_or-drop at s 0 0 ∙ rw add-zero

pub accepted_at_lem : (w at : ℕ) (s : List ℕ) → entry_body_at ≤ w → accepted (part at w s) ≡ number (part (at + accepted_at) time_size s)
accepted_at_lem w at s h = ap number (part_part accepted_at time_size at w s h)
