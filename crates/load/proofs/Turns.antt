-- Laws of walks over records of one width, by their index and by `chunks_exact`: which record comes next, and what is left of them.
use Rattle.std.proofs.Common.{◌≡◌, ℕ, suc, ◌+◌, ◌-◌, ◌*◌, ◌/◌, ◌<◌, ◌≤◌, List, [], ◌∷◌, ◌++◌, length, take, drop, sym, ap, ap₂, ◌∙◌, arith, add-one, length-append, length-take-le, take_at, drop_at}
use Rattle.std.proofs.Math.Nat.{add-div_left, div-eq_of_lt, mul-div_cancel_left}
use Rattle.std.proofs.lemmas.Iterator.{YieldsList}
use Rattle.std.proofs.lemmas.Iterator.Splits.{YieldsList-from_shown_while}
use Rattle.std.specs.Slice.Iter.{chunks_exact_rest, chunks_exact_size, chunks_exact_steps}
use Rattle.cache.specs.Chunks.{chunks}
use Rattle.cache.proofs.Chunks.{chunks_take, drop_chunks}
use Rattle.cache.proofs.Walk.{step}
use Rattle.octets.specs.Runs.{part}
use Rattle.octets.proofs.Runs.{lent_part, length_part}
use native.Mathlib.Nat.{mul-add, mul-suc}

-- ---- by their index

-- the record at an index of n is lent as a slice, and the others follow it
pub record Turn (w n k : ℕ) (s : List ℕ) : Type 0 where
  pub next : w * (k + 1) ≡ w * k + w
  pub ends : w * k + w ≤ length s
  pub long : length (take (w * (k + 1) - w * k) (drop (w * k) s)) ≡ w
  pub cut : drop k (chunks w n s) ≡ take (w * (k + 1) - w * k) (drop (w * k) s) ∷ drop (k + 1) (chunks w n s)

pub turn : (w n k : ℕ) (s : List ℕ) → k < n → w * n ≤ length s → Turn w n k s
turn w n k s h room =
    let next : w * (k + 1) ≡ w * k + w = rw (add-one, mul-suc) (omega arith) in
    let all : k + (n - k) ≡ n = omega arith in
    let split : w * k + w * (n - k) ≡ w * n = sym (mul-add w k (n - k)) ∙ ap (λ (m : ℕ). w * m) all in
    let t = step w (n - k) (w * k) s (omega arith) (omega arith) in
    let less : n - k - 1 ≡ n - (k + 1) = omega arith in
    let lent : take (w * (k + 1) - w * k) (drop (w * k) s) ≡ part (w * k) w s = rw next (lent_part (w * k) w s) in
    record {
      next = next;
      ends = t.room;
      long = rw lent (length_part (w * k) w s t.room);
      cut = drop_chunks w n k s ∙ t.cut ∙ rw (lent, drop_chunks w n (k + 1) s, next, less);
    }

-- ---- by an iterator

-- as many as there is room for
abbrev pub pieces : ℕ → List ℕ → List (List ℕ)
pieces w s = chunks w (length s / w) s

-- the first, and the others behind it
pub pieces_next : (w : ℕ) (s e rest : List ℕ) → 0 < w → s ≡ e ++ rest → length e ≡ w → pieces w s ≡ e ∷ pieces w rest
unfolding chunks
pieces_next w s e rest some k l =
    let n : length s / w ≡ suc (length rest / w) = rw (k, length-append, l) (add-div_left (length rest) some ∙ add-one (length rest / w)) in
    rw (n, k)
    (ap₂ (λ (x : List ℕ) (y : List (List ℕ)). x ∷ y) (take_at e rest w l) (ap (chunks w (length rest / w)) (drop_at e rest w l)))

-- there is room for none
pub pieces_none : (w : ℕ) (s : List ℕ) → length s < w → pieces w s ≡ []
unfolding chunks
pieces_none w s h = rw (div-eq_of_lt h)

-- of the first n, all
pub pieces_all : (w n : ℕ) (s : List ℕ) → 0 < w → w * n ≤ length s → pieces w (take (w * n) s) ≡ chunks w n s
pieces_all w n s some h =
    let k : length (take (w * n) s) / w ≡ n = rw (length-take-le (w * n) s h) (mul-div_cancel_left n some) in
    rw k (chunks_take w n (w * n) s (omega arith) h)

-- so the iterator gives the records, one after another
pub yields_pieces : (w : ℕ) (it : _) → 0 < w → chunks_exact_size it ≡ w → YieldsList chunks_exact_steps (λ x. x.now) it (pieces w (chunks_exact_rest it))
yields_pieces w it some e =
    YieldsList-from_shown_while chunks_exact_steps (λ x. x.now) (λ s. pieces w (chunks_exact_rest s)) (λ s. chunks_exact_size s ≡ w)
    (λ s t k h. ap length (pieces_none w (chunks_exact_rest s) (rw (← k) h.1.0)))
    (λ s x t k h. (h.0 ∙ k, pieces_next w (chunks_exact_rest s) x.now (chunks_exact_rest t) some h.1.0 (h.1.1 ∙ k)))
    it e
