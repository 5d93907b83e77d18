-- Laws of addresses in words: what two words share where they are masked, and what is shared by the bytes of an address is told from its words.
use mathlib.Core.Path.{◌≡◌, refl, sym, ap, ap₂, ◌∙◌}
use mathlib.Core.Bool.{cond, true, false}
use mathlib.Core.Logic.{◌⊎◌, ⊎_elim}
use mathlib.Core.List.{List}
use Prim.Native.Nat.{ℕ, zero, suc, ◌+◌, ◌-◌, ◌*◌, ◌/◌, ◌%◌, ◌^◌, ◌≤◌, ◌<◌}
use native.Mathlib.Omega.{arith}
use native.Mathlib.Nat.{pow-succ', zero-div}
use lib.Dec.{eqb}
use lib.ListN.{length}
use lib.Pow.{pow-add, shl-shr, shr_mod}
use lib.Arith.{digits_div, digits_mod}
use lib.Bits.{bit_and, bit_xor, xor_shr, xor_lt, and_high}
use borrow.Author.Tests.{ne_eqb}
use Rattle.octets.specs.Numbers.{number, Octets}
use Rattle.octets.specs.Runs.{part}
use Rattle.octets.proofs.Numbers.{number_part, number_below, octets_part}
use Rattle.octets.proofs.Runs.{length_part}
use Rattle.octets.specs.Counting.{passing_below}
use Rattle.similarity.specs.Bits.{shared}
use Rattle.similarity.proofs.Bits.{halves, differ_zero, shared_xor, shared_all}

-- ---- where two words of w bits differ in the first j, with k behind them

module _ (w j k x y : ℕ) (whole : j + k ≡ w) (small : x < 2 ^ w) (small' : y < 2 ^ w) where
  abbrev masked : ℕ
  masked = bit_and (bit_xor x y) (2 ^ w - 2 ^ k)

  abbrev high : ℕ
  high = bit_xor (x / 2 ^ k) (y / 2 ^ k)

  masked_high : masked ≡ high * 2 ^ k
  masked_high =
      rw (← whole) (and_high (bit_xor x y) j k) ∙ ap (λ (z : ℕ). z * 2 ^ k) (shr_mod j k (rw whole (xor_lt w x y small small')) ∙ xor_shr x y k)

  high_masked : masked / 2 ^ k ≡ high
  high_masked = ap (λ (z : ℕ). z / 2 ^ k) masked_high ∙ shl-shr high k

  -- the words are the same in their first bits, or they are not
  pub masked_same : masked ≡ 0 → eqb (x / 2 ^ k) (y / 2 ^ k) ≡ true
  masked_same e =
      let none : high ≡ 0 = sym high_masked ∙ ap (λ (z : ℕ). z / 2 ^ k) e ∙ zero-div (2 ^ k) in
      differ_zero (x / 2 ^ k) (y / 2 ^ k) ∙ rw none

  pub masked_differ : (masked ≡ 0 → ⊥) → eqb (x / 2 ^ k) (y / 2 ^ k) ≡ false
  masked_differ n = differ_zero (x / 2 ^ k) (y / 2 ^ k) ∙ ne_eqb high 0 (λ e. n (masked_high ∙ rw e (omega arith)))

  pub masked_none : masked ≡ 0 → shared j (x / 2 ^ k) (y / 2 ^ k) ≡ j
  masked_none e =
      let none : high ≡ 0 = sym high_masked ∙ ap (λ (z : ℕ). z / 2 ^ k) e ∙ zero-div (2 ^ k) in
      shared_xor j (x / 2 ^ k) (y / 2 ^ k) ∙ rw none (shared_all j)

  pub masked_some : (masked ≡ 0 → ⊥) → shared j (x / 2 ^ k) (y / 2 ^ k) ≡ shared w masked 0
  masked_some n =
      let some = ne_eqb high 0 (λ e. n (masked_high ∙ rw e (omega arith))) in
      shared_xor j (x / 2 ^ k) (y / 2 ^ k) ∙ sym (ap (λ (m : ℕ). shared m masked 0) (sym whole) ∙ halves j k masked 0 ∙ rw (high_masked, zero-div, some))

-- ---- the words of an address

pow_bytes : (m : ℕ) → 256 ^ m ≡ 2 ^ (8 * m)
pow_bytes zero = refl
pow_bytes (suc m) =
    let e : 8 * suc m ≡ 8 + 8 * m = omega arith in
    rw (e, pow-add, ← pow_bytes m) (pow-succ' 256 m)

-- m bytes and the n behind them
module _ (at m n : ℕ) (s : List ℕ) (h : at + (m + n) ≤ length s) (o : Octets s) where
  behind_below : number (part (at + m) n s) < 2 ^ (8 * n)
  behind_below =
      let l : length (part (at + m) n s) ≡ n = length_part (at + m) n s (omega arith) in
      rw (l, pow_bytes n) at (number_below (part (at + m) n s) (octets_part (at + m) n s o))

  cut : number (part at (m + n) s) ≡ number (part at m s) * 2 ^ (8 * n) + number (part (at + m) n s)
  cut = number_part at m n s h ∙ rw (pow_bytes n)

  pub front_bytes : number (part at (m + n) s) / 2 ^ (8 * n) ≡ number (part at m s)
  front_bytes = rw cut (digits_div (number (part at m s)) behind_below)

  pub back_bytes : number (part at (m + n) s) % 2 ^ (8 * n) ≡ number (part (at + m) n s)
  back_bytes = rw cut (digits_mod (number (part at m s)) behind_below)

-- the first n bytes of a word
pub word_bytes : (at n word : ℕ) (s : List ℕ) → word ≡ number (part at 8 s) → n ≤ 8 → at + 8 ≤ length s → Octets s
    → word / 2 ^ (64 - 8 * n) ≡ number (part at n s)
word_bytes at n word s e l h o =
    let all : n + (8 - n) ≡ 8 = omega arith in
    let bits : 8 * (8 - n) ≡ 64 - 8 * n = omega arith in
    rw e (rw (all, bits) at (front_bytes at n (8 - n) s (rw all h) o))

-- the first m bytes decide, or the n behind them do
shared_bytes : (at m n : ℕ) (x y : List ℕ) → at + (m + n) ≤ length x → at + (m + n) ≤ length y → Octets x → Octets y
    → shared (8 * (m + n)) (number (part at (m + n) x)) (number (part at (m + n) y))
    ≡ cond (eqb (number (part at m x)) (number (part at m y))) (8 * m + shared (8 * n) (number (part (at + m) n x)) (number (part (at + m) n y)))
    (shared (8 * m) (number (part at m x)) (number (part at m y)))
shared_bytes at m n x y h k o p =
    let e : 8 * (m + n) ≡ 8 * m + 8 * n = omega arith in
    rw (e, halves, front_bytes at m n x h o, front_bytes at m n y k p, back_bytes at m n x h o, back_bytes at m n y k p)

-- the first m bytes stand in the first words u and v: where these differ there, they decide
module _ (m n u v : ℕ) (x y : List ℕ) (eu : u ≡ number (part 0 8 x)) (ev : v ≡ number (part 0 8 y)) (hm : m ≤ 8) (hn : n ≤ 8) (hx : 16 ≤ length x) (hy : 16 ≤ length y)
    (o : Octets x) (p : Octets y) (small : u < 2 ^ 64) (small' : v < 2 ^ 64) where
  abbrev first : ℕ
  first = bit_and (bit_xor u v) (2 ^ 64 - 2 ^ (64 - 8 * m))

  whole : shared (8 * (m + n)) (number (part 0 (m + n) x)) (number (part 0 (m + n) y))
      ≡ cond (eqb (u / 2 ^ (64 - 8 * m)) (v / 2 ^ (64 - 8 * m))) (8 * m + shared (8 * n) (number (part (0 + m) n x)) (number (part (0 + m) n y)))
      (shared (8 * m) (u / 2 ^ (64 - 8 * m)) (v / 2 ^ (64 - 8 * m)))
  whole =
      shared_bytes 0 m n x y (omega arith) (omega arith) o p
      ∙ rw (← word_bytes 0 m u x eu hm (omega arith) o, ← word_bytes 0 m v y ev hm (omega arith) p)

  pub first_decides : (first ≡ 0 → ⊥) → shared (8 * (m + n)) (number (part 0 (m + n) x)) (number (part 0 (m + n) y)) ≡ shared 64 first 0
  first_decides d =
      whole
      ∙ rw (masked_differ 64 (8 * m) (64 - 8 * m) u v (omega arith) small small' d) (masked_some 64 (8 * m) (64 - 8 * m) u v (omega arith) small small' d)

  -- else the n bytes behind them do, which stand in the second words; behind less than a word stands none
  module _ (u' v' : ℕ) (eu' : u' ≡ number (part 8 8 x)) (ev' : v' ≡ number (part 8 8 y)) (full : (m ≡ 8) ⊎ (n ≡ 0)) (same : first ≡ 0) (small'' : u' < 2 ^ 64) (small''' : v' < 2 ^ 64) where
    abbrev second : ℕ
    second = bit_and (bit_xor u' v') (2 ^ 64 - 2 ^ (64 - 8 * n))

    behind : shared (8 * n) (number (part (0 + m) n x)) (number (part (0 + m) n y)) ≡ shared (8 * n) (u' / 2 ^ (64 - 8 * n)) (v' / 2 ^ (64 - 8 * n))
    unfolding shared passing_below
    behind =
        ⊎_elim
        (λ e. rw e (sym (ap₂ (shared (8 * n)) (word_bytes 8 n u' x eu' hn (omega arith) o) (word_bytes 8 n v' y ev' hn (omega arith) p))))
        (λ e. rw e refl)
        full

    left : shared (8 * (m + n)) (number (part 0 (m + n) x)) (number (part 0 (m + n) y)) ≡ 8 * m + shared (8 * n) (u' / 2 ^ (64 - 8 * n)) (v' / 2 ^ (64 - 8 * n))
    left = whole ∙ rw (masked_same 64 (8 * m) (64 - 8 * m) u v (omega arith) small small' same) (ap (λ (k : ℕ). 8 * m + k) behind)

    pub second_decides : (second ≡ 0 → ⊥) → shared (8 * (m + n)) (number (part 0 (m + n) x)) (number (part 0 (m + n) y)) ≡ 8 * m + shared 64 second 0
    second_decides e = left ∙ ap (λ (k : ℕ). 8 * m + k) (masked_some 64 (8 * n) (64 - 8 * n) u' v' (omega arith) small'' small''' e)

    pub none_differs : second ≡ 0 → shared (8 * (m + n)) (number (part 0 (m + n) x)) (number (part 0 (m + n) y)) ≡ 8 * m + 8 * n
    none_differs e = left ∙ ap (λ (k : ℕ). 8 * m + k) (masked_none 64 (8 * n) (64 - 8 * n) u' v' (omega arith) small'' small''' e)
