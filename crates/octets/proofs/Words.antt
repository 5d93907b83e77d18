-- Laws of words, the numbers that bytes are lowest first (specs/Numbers.antt), and of tests that go by them.
use mathlib.Core.Path.{◌≡◌, refl, sym, ap, ap₂, ◌∙◌}
use mathlib.Core.Bool.{Bool, true, false}
use mathlib.Core.List.{List, [], ◌∷◌}
use Prim.Native.Nat.{ℕ, zero, suc, ◌+◌, ◌*◌, ◌≤◌}
use native.Mathlib.Omega.{arith}
use native.Mathlib.Nat.{pow-succ', mul-add}
use lib.ListN.{length, take, drop, replicate, length-drop, take-append-drop}
use lib.Seq.{length-take-le, drop-drop}
use lib.Dec.{eqb, eqb-suc-zero}
use lib.Bits.{bit_or, or_zero_l, or_add_and, and_le_r}
use borrow.Author.Tests.{eq-eqb, ne_eqb}
use Rattle.std.specs.Int.{w64, byte_worth, sum_through, from_le_bytes}
use Rattle.std.specs.Prelude.{slice_index, nat_eq}
use Rattle.std.specs.List.{list_all, zip}
use Rattle.std.specs.Simd.{first_chunks}
use Rattle.std.specs.Cmp.Lexicographic.{pointwise}
use Rattle.octets.specs.Numbers.{little, Octets}
use Rattle.octets.specs.Runs.{part, both, same, zeros}
use Rattle.octets.proofs.Runs.{length_part, both_assoc, same_append, same_true, same_refl, zeros_append}
use Rattle.octets.proofs.Numbers.{octets_rest, octets_take, octets_drop, byte_worth_is, sum_front, sum_same}

-- the number as std has it
sum_times : (f : ℕ → ℕ) (m k : ℕ) → sum_through (λ i. m * f i) k ≡ m * sum_through f k
sum_times f m zero = refl
sum_times f m (suc k) = let h = sum_times f m k in rw h (sym (mul-add m (sum_through f k) (f (suc k))))

low_first_number : (k : ℕ) (bs : List ℕ) → length bs ≡ suc k → sum_through (λ i. byte_worth i (slice_index bs i)) k ≡ little bs
unfolding little
low_first_number k [] l = absurd (omega arith)
low_first_number zero (x ∷ []) l = omega arith
low_first_number zero (x ∷ (y ∷ bs)) l = absurd (omega arith)
low_first_number (suc k) (x ∷ bs) l =
    let m : length bs ≡ suc k = omega arith in
    let f : ℕ → ℕ = λ i. byte_worth i (slice_index bs i) in
    let up = sum_same (λ i. byte_worth (suc i) (slice_index bs i)) (λ i. 256 * f i) k (λ i. rw (byte_worth_is i (slice_index bs i), pow-succ') (omega arith)) in
    sum_front (λ i. byte_worth i (slice_index (x ∷ bs) i)) k ∙ ap (λ (n : ℕ). x + n) (up ∙ sum_times f 256 k ∙ ap (λ (n : ℕ). 256 * n) (low_first_number k bs m))

-- the number of a part that was copied
pub number_low_first : (at k : ℕ) (s bs : List ℕ) → at + suc k ≤ length s → bs ≡ part at (suc k) s
    → sum_through (λ i. byte_worth i (slice_index bs i)) k ≡ little (part at (suc k) s)
number_low_first at k s bs h e = low_first_number k bs (ap length e ∙ length_part at (suc k) s h) ∙ ap little e

-- equal words have equal bytes
little_bytes : (a b : List ℕ) → length a ≡ length b → Octets a → Octets b → little a ≡ little b → a ≡ b
unfolding little
little_bytes [] [] l p q e = refl
little_bytes [] (y ∷ b) l p q e = absurd (omega arith)
little_bytes (x ∷ a) [] l p q e = absurd (omega arith)
little_bytes (x ∷ a) (y ∷ b) l p q e =
    let hx = p 0 in
    let hy = q 0 in
    let head : x ≡ y = omega arith in
    let tail : little a ≡ little b = omega arith in
    ap₂ ◌∷◌ head (little_bytes a b (omega arith) (octets_rest x a p) (octets_rest y b q) tail)

-- the bytes of two numbers together
pub or_zero : (a b : ℕ) → eqb (bit_or a b) 0 ≡ both (eqb a 0) (eqb b 0)
or_zero zero b = ap (λ (n : ℕ). eqb n 0) (or_zero_l b)
or_zero (suc a) b =
    let h = or_add_and (suc a) b in
    let l = and_le_r (suc a) b in
    rw (eqb-suc-zero a) (ne_eqb (bit_or (suc a) b) 0 (λ e. omega arith))

-- ---- the test by blocks of n bytes

-- a block is compared with as many zeros
pointwise_zeros : (s : List ℕ) → pointwise nat_eq s (replicate (length s) 0) ≡ zeros s
unfolding zeros
pointwise_zeros [] = refl
pointwise_zeros (x ∷ s) = ap (λ (b : Bool). both (eqb x 0) b) (pointwise_zeros s)

pub list_all_zeros : (s : List ℕ) → list_all (λ x. nat_eq x 0) s ≡ zeros s
unfolding zeros
list_all_zeros [] = refl
list_all_zeros (x ∷ s) = ap (λ (b : Bool). both (eqb x 0) b) (list_all_zeros s)

pub zero_blocks : (n k : ℕ) (s : List ℕ) → k * n ≤ length s → both (list_all (λ x. pointwise nat_eq x (replicate n 0)) (first_chunks n k s)) (zeros (drop (k * n) s)) ≡ zeros s
zero_blocks n zero s h = let e : 0 * n ≡ 0 = omega arith in ap (λ (m : ℕ). zeros (drop m s)) e
zero_blocks n (suc k) s h =
    let l = length-take-le n s (omega arith) in
    let front = ap (λ (m : ℕ). pointwise nat_eq (take n s) (replicate m 0)) (sym l) ∙ pointwise_zeros (take n s) in
    let e : suc k * n ≡ n + k * n = omega arith in
    let back = ap (λ (m : ℕ). zeros (drop m s)) e ∙ ap zeros (sym (drop-drop (k * n) n s)) in
    let more = list_all (λ x. pointwise nat_eq x (replicate n 0)) (first_chunks n k (drop n s)) in
    both_assoc (pointwise nat_eq (take n s) (replicate n 0)) more (zeros (drop (suc k * n) s))
    ∙ ap₂ both front (ap (both more) back ∙ zero_blocks n k (drop n s) (rw length-drop (omega arith)))
    ∙ sym (zeros_append (take n s) (drop n s)) ∙ ap zeros (take-append-drop n s)

-- ---- the test by words

pub pointwise_same : (a b : List ℕ) → pointwise nat_eq a b ≡ same a b
unfolding same
pointwise_same [] [] = refl
pointwise_same [] (y ∷ b) = refl
pointwise_same (x ∷ a) [] = refl
pointwise_same (x ∷ a) (y ∷ b) = ap (both (eqb x y)) (pointwise_same a b)

abbrev pub word_test : List ℕ × List ℕ → Bool
word_test p = nat_eq (from_le_bytes w64 p.0) (from_le_bytes w64 p.1)

-- words are equal exactly when their bytes are
word_same : (a b : List ℕ) → length a ≡ 8 → length b ≡ 8 → Octets a → Octets b → word_test (a, b) ≡ same a b
word_same a b la lb oa ob = go (same a b) refl
  where
    differ : same a b ≡ false → a ≡ b → ⊥
    differ e q = let t = ap (same a) (sym q) ∙ same_refl a in cc

    go : (t : Bool) → same a b ≡ t → word_test (a, b) ≡ same a b
    go true e = eq-eqb (from_le_bytes w64 a) (from_le_bytes w64 b) (ap (from_le_bytes w64) (same_true a b e)) ∙ sym e
    go false e =
        ne_eqb (from_le_bytes w64 a) (from_le_bytes w64 b) (λ w. differ e (little_bytes a b (la ∙ sym lb) oa ob (sym (low_first_number 7 a la) ∙ w ∙ low_first_number 7 b lb)))
        ∙ sym e

pub same_words : (k : ℕ) (a b : List ℕ) → Octets a → Octets b → k * 8 ≤ length a → k * 8 ≤ length b
    → both (list_all word_test (zip (first_chunks 8 k a) (first_chunks 8 k b))) (same (drop (k * 8) a) (drop (k * 8) b)) ≡ same a b
same_words zero a b oa ob ha hb = refl
same_words (suc k) a b oa ob ha hb =
    let la = length-take-le 8 a (omega arith) in
    let lb = length-take-le 8 b (omega arith) in
    let e : suc k * 8 ≡ 8 + k * 8 = omega arith in
    let front = word_same (take 8 a) (take 8 b) la lb (octets_take 8 a oa) (octets_take 8 b ob) in
    let back = ap₂ same (ap (λ (m : ℕ). drop m a) e ∙ sym (drop-drop (k * 8) 8 a)) (ap (λ (m : ℕ). drop m b) e ∙ sym (drop-drop (k * 8) 8 b)) in
    let more = list_all word_test (zip (first_chunks 8 k (drop 8 a)) (first_chunks 8 k (drop 8 b))) in
    let rest = same_words k (drop 8 a) (drop 8 b) (octets_drop 8 a oa) (octets_drop 8 b ob) (rw length-drop (omega arith)) (rw length-drop (omega arith)) in
    both_assoc (word_test (take 8 a, take 8 b)) more (same (drop (suc k * 8) a) (drop (suc k * 8) b))
    ∙ ap₂ both front (ap (both more) back ∙ rest)
    ∙ sym (same_append (take 8 a) (take 8 b) (drop 8 a) (drop 8 b) (la ∙ sym lb)) ∙ ap₂ same (take-append-drop 8 a) (take-append-drop 8 b)
