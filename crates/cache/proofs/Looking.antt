-- Laws of the walk that checks entries (specs/Check.antt): what is left of it, and what one look more leaves.
use Rattle.std.proofs.Common.{◌≡◌, ℕ, ◌+◌, ◌-◌, ◌*◌, ◌<◌, ◌≤◌, Bool, true, false, leb, List, length, get_or, drop, sym, refl, ap, ◌∙◌, zero-le, arith, le-leb, leb-true, Some, None}
use Rattle.octets.specs.Numbers.{number}
use Rattle.octets.specs.Runs.{part, both}
use Rattle.octets.proofs.Runs.{both_assoc, both_false, both_true}
use Rattle.record.specs.Layout.{entry_body_at, accepted_at, time_size}
use Rattle.cache.specs.declared.Kinds.{Kinds}
use Rattle.cache.specs.Chunks.{chunks}
use Rattle.cache.specs.Cache.{held_kind}
use Rattle.cache.specs.Check.{is_in_order, Looked}
use Rattle.cache.proofs.Walk.{step, kind_at, accepted_at_lem}

-- the answer for what is left of a walk, with the next entry looked at
abbrev Looks : ℕ → ℕ → ℕ → Kinds → ℕ → ℕ → List ℕ → Type 0
Looks w left at kinds clock t s =
    is_in_order kinds clock t (chunks w left (drop at s))
    ≡ both (held_kind kinds (get_or s at 0)) (both (leb t (number (part (at + accepted_at) time_size s))) (both (leb (number (part (at + accepted_at) time_size s)) clock) (is_in_order kinds clock (number (part (at + accepted_at) time_size s)) (chunks w (left - 1) (drop (at + w) s)))))

looks : (w left at : ℕ) (kinds : Kinds) (clock t : ℕ) (s : List ℕ) → entry_body_at ≤ w → 0 < left → at + w * left ≤ length s → Looks w left at kinds clock t s
unfolding is_in_order
looks w left at kinds clock t s h k l =
    let k₁ : 0 < w = omega arith in
    rw (step w left at s k l).cut (simp (kind_at w at s k₁, accepted_at_lem w at s h))

-- with a later time in hand, an earlier one need not be compared with the clock
pub later_decides : (t u clock : ℕ) (b : Bool) → t ≤ u → both (leb t clock) (both (leb u clock) b) ≡ both (leb u clock) b
later_decides t u clock b h = go (leb u clock) refl
  where
    go : (c : Bool) → leb u clock ≡ c → both (leb t clock) (both c b) ≡ both c b
    go true e = let k = leb-true u clock e in rw (le-leb t clock (omega arith))
    go false e = both_false (leb t clock)

pub stopped : (a b c d : Bool) → both b c ≡ false → both a (both b (both c d)) ≡ false
stopped a b c d e = ap (both a) (sym (both_assoc b c d) ∙ ap (λ (x : Bool). both x d) e) ∙ both_false a

-- of n entries the last `left` are left, from `at` on, behind one that was accepted at t: they are there, and the answer is that for them
pub record Left (kinds : Kinds) (clock w n : ℕ) (s : List ℕ) (t left at : ℕ) : Type 0 where
  pub room : at + w * left ≤ length s
  pub answer : is_in_order kinds clock 0 (chunks w n s) ≡ both (leb t clock) (is_in_order kinds clock t (chunks w left (drop at s)))

module _ {kinds : Kinds} {clock w n : ℕ} {s : List ℕ} where
  pub all_left : w * n ≤ length s → Left kinds clock w n s 0 n 0
  all_left h = record { room = omega arith; answer = rw (le-leb 0 clock zero-le) }

  -- the same, by other names
  pub left_at : {t u left m at i : ℕ} → t ≡ u → left ≡ m → at ≡ i → Left kinds clock w n s u m i → Left kinds clock w n s t left at
  left_at e f g h = rw (e, f, g) h

  module _ {t left at : ℕ} (wide : entry_body_at ≤ w) (some : 0 < left) (h : Left kinds clock w n s t left at) where
    -- the entry looked at does not hold, and so nor do all
    pub look_stops : Looked kinds t at s None → is_in_order kinds clock 0 (chunks w n s) ≡ false
    look_stops seen =
        h.answer ∙ ap (both (leb t clock)) (looks w left at kinds clock t s wide some h.room)
        ∙ stopped (leb t clock) (held_kind kinds (get_or s at 0)) (leb t (number (part (at + accepted_at) time_size s))) _ (sym seen.holds)

    -- it does, and the others are left behind it
    pub look_goes_on : {u : ℕ} → Looked kinds t at s (Some u) → Left kinds clock w n s u (left - 1) (at + w)
    look_goes_on {u = e} seen =
        let u = number (part (at + accepted_at) time_size s) in
        let b = both_true (held_kind kinds (get_or s at 0)) (leb t u) (sym seen.holds) in
        record {
          room = (step w left at s some h.room).next;
          answer = rw (seen.accepted e refl, h.answer, looks w left at kinds clock t s wide some h.room, b.0, b.1) (later_decides t u clock _ (leb-true t u b.1));
        }
