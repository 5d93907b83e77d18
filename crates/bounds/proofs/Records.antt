-- Laws of a walk over the records: how their fields are read in place, and that the next one goes behind those passed.
use Rattle.std.proofs.Common.{◌≡◌, ℕ, zero, suc, ◌+◌, ◌-◌, ◌*◌, ◌<◌, ◌≤◌, cond, not, eqb, List, [], ◌∷◌, ◌++◌, length, get_or, take, drop, ap, ◌∙◌, le_trans, mul_comm, mul-le-mul_left, mul-zero, div-add-mod', mul-suc, add-one, arith}
use Rattle.octets.specs.Numbers.{number}
use Rattle.octets.specs.Runs.{part}
use Rattle.octets.proofs.Runs.{part_part, part_drop}
use Rattle.record.specs.Layout.{bound_kind, bound_size, pair_at, pair_size, until_at, time_size, pair, until}
use Rattle.cache.specs.Chunks.{chunks, first_of}
use Rattle.cache.proofs.Chunks.{first_le, length_chunks}
use Rattle.cache.proofs.Walk.{step, kind_at}
use Rattle.bounds.specs.Bounds.{not_bound, places, in_use}

-- the fields of the record at a place
pub pair_at_lem : (a at : ℕ) (s : List ℕ) → pair a (part at (bound_size a) s) ≡ part (at + pair_at) (pair_size a) s
pair_at_lem a at s = part_part pair_at (pair_size a) at (bound_size a) s (omega arith)

pub until_at_lem : (a at : ℕ) (s : List ℕ) → until a (part at (bound_size a) s) ≡ number (part (at + pair_at + pair_size a) time_size s)
until_at_lem a at s =
    ap number (part_part (until_at a) time_size at (bound_size a) s (omega arith) ∙ ap (λ (i : ℕ). part i time_size s) (let e : at + until_at a ≡ at + pair_at + pair_size a = omega arith in e))

-- of the records that are left, the next one looked at
pub counted : (w left at : ℕ) (s : List ℕ) → 0 < w → 0 < left → at + w * left ≤ length s
    → first_of not_bound (chunks w left (drop at s)) ≡ cond (not (eqb (get_or s at 0) bound_kind)) 0 (suc (first_of not_bound (chunks w (left - 1) (drop (at + w) s))))
unfolding first_of
counted w left at s h k l = rw (step w left at s k l).cut (simp (kind_at w at s h))

-- one record more, behind those passed
pub chunks_suc : (w i : ℕ) (s : List ℕ) → chunks w (suc i) s ≡ chunks w i s ++ (part (w * i) w s ∷ [])
unfolding chunks part
chunks_suc w zero s = rw mul-zero
chunks_suc w (suc i) s =
    let e : w + w * i ≡ w * suc i = rw mul-suc (omega arith) in
    ap (λ (l : List (List ℕ)). take w s ∷ l) (chunks_suc w i (drop w s) ∙ ap (λ (l : List ℕ). chunks w i (drop w s) ++ (l ∷ [])) (part_drop (w * i) w w s ∙ ap (λ (j : ℕ). part j w s) e))

pub chunks_next : (w i : ℕ) (s : List ℕ) → chunks w (i + 1) s ≡ chunks w i s ++ (part (w * i) w s ∷ [])
chunks_next w i s = rw add-one (chunks_suc w i s)

-- the next record lies within what all take
pub next_within : (w i n m : ℕ) → i < n → w * n ≤ m → w * i + w ≤ m
next_within w i n m h k = let e = mul-suc w i in let l = mul-le-mul_left w h in omega arith

pub next_all : (w i n m : ℕ) → i < n → w * n ≤ m → w * (i + 1) ≤ m
next_all w i n m h k = let e = mul-suc w i in let l = mul-le-mul_left w h in rw add-one (omega arith)

-- places take no more than there is, and no more are in use
pub places_within : (a : ℕ) (b : List ℕ) → bound_size a * places a b ≤ length b
places_within a b = let e = div-add-mod' (length b) (bound_size a) in let c = mul_comm (bound_size a) (places a b) in omega arith

pub use_few : (a : ℕ) (b : List ℕ) → in_use a b ≤ places a b
unfolding in_use
use_few a b = rw length_chunks at (first_le not_bound (chunks (bound_size a) (places a b) b))

pub use_within : (a : ℕ) (b : List ℕ) → bound_size a * in_use a b ≤ length b
use_within a b = le_trans (mul-le-mul_left (bound_size a) (use_few a b)) (places_within a b)

-- with the number in use as the code has it
pub used_within_lem : (a used : ℕ) (b : List ℕ) → used ≡ in_use a b → bound_size a * used ≤ length b
used_within_lem a used b e = rw e (use_within a b)
