-- Laws of big-endian numbers (specs/Numbers.antt): a number and its bytes give each other back, a number of m + n bytes is put together
-- of the two numbers that its parts are, and both are what std's methods give.
use mathlib.Core.Path.{◌≡◌, refl, sym, ap, ap₂, ◌∙◌}
use mathlib.Core.List.{List, [], ◌∷◌, ◌++◌}
use Prim.Native.Nat.{ℕ, zero, suc, ◌+◌, ◌*◌, ◌/◌, ◌%◌, ◌^◌, ◌-◌, ◌≤◌, ◌<◌}
use native.Mathlib.Omega.{arith}
use native.Mathlib.Nat.{one-le-pow, pow-succ', mod-eq_of_lt, mul-add-div_right, sub-zero, suc-sub-suc}
use lib.ListN.{length, take, drop, length-append}
use lib.Seq.{get_or-drop}
use lib.Pow.{pow-add}
use lib.Arith.{digits_lt, digits_div, mod-mul}
use Rattle.std.specs.Int.{byte_at, byte_worth, bytes_high_first, sum_through}
use Rattle.std.specs.Prelude.{slice_index}
use Rattle.octets.specs.Numbers.{number, bytes, Octets}
use Rattle.octets.specs.Runs.{part, put}
use borrow.Rule.Slice.PartMut.{put_mid}
use Rattle.octets.proofs.Runs.{length_part, part_add, lent_back}

pub length_bytes : (n x : ℕ) → length (bytes n x) ≡ n
unfolding bytes
length_bytes zero x = refl
length_bytes (suc n) x = ap suc (length_bytes n x)

number_append : (a b : List ℕ) → number (a ++ b) ≡ number a * 256 ^ length b + number b
unfolding number
number_append [] b = omega arith
number_append (x ∷ a) b =
    let e = ap (λ (n : ℕ). 256 ^ n) (length-append a b) ∙ pow-add 256 (length a) (length b) in
    let h = number_append a b in
    rw (e, h) (omega arith)

positive : (n : ℕ) → 0 < 256 ^ n
positive n = one-le-pow n 256 (omega arith)

pub octets_rest : (x : ℕ) (bs : List ℕ) → Octets (x ∷ bs) → Octets bs
octets_rest x bs h i = h (suc i)

pub number_below : (bs : List ℕ) → Octets bs → number bs < 256 ^ length bs
unfolding number
number_below [] h = omega arith
number_below (x ∷ bs) h = rw pow-succ' (digits_lt (h 0) (number_below bs (octets_rest x bs h)))

-- the bytes of a number are those of what is left of it by a multiple of what they can hold
bytes_over : (n a x : ℕ) → bytes n (a * 256 ^ n + x) ≡ bytes n x
unfolding bytes
bytes_over zero a x = refl
bytes_over (suc n) a x =
    let e : a * 256 ^ suc n + x ≡ a * 256 * 256 ^ n + x = rw pow-succ' (omega arith) in
    let top : (a * 256 * 256 ^ n + x) / 256 ^ n % 256 ≡ x / 256 ^ n % 256 = rw (mul-add-div_right (positive n) (a * 256) x) (omega arith) in
    let low = bytes_over n (a * 256) x in
    rw e (cc)

bytes_number : (bs : List ℕ) → Octets bs → bytes (length bs) (number bs) ≡ bs
unfolding bytes number
bytes_number [] h = refl
bytes_number (x ∷ bs) h =
    let top : (x * 256 ^ length bs + number bs) / 256 ^ length bs % 256 ≡ x = rw (digits_div x (number_below bs (octets_rest x bs h))) (mod-eq_of_lt (h 0)) in
    let low = bytes_over (length bs) x (number bs) ∙ bytes_number bs (octets_rest x bs h) in
    cc

number_bytes_mod : (n x : ℕ) → number (bytes n x) ≡ x % 256 ^ n
unfolding bytes number
number_bytes_mod zero x = omega arith
number_bytes_mod (suc n) x = rw (length_bytes n x, number_bytes_mod n x, pow-succ') (sym (mod-mul x (omega arith) (positive n)))

pub number_bytes : (n x : ℕ) → x < 256 ^ n → number (bytes n x) ≡ x
number_bytes n x h = number_bytes_mod n x ∙ mod-eq_of_lt h

-- ---- bytes in parts of bytes

pub octets_take : (n : ℕ) (s : List ℕ) → Octets s → Octets (take n s)
octets_take zero s h i = omega arith
octets_take (suc n) [] h i = omega arith
octets_take (suc n) (x ∷ s) h zero = h 0
octets_take (suc n) (x ∷ s) h (suc i) = octets_take n s (octets_rest x s h) i

pub octets_drop : (n : ℕ) (s : List ℕ) → Octets s → Octets (drop n s)
octets_drop n s h i = rw (get_or-drop n s i 0) (h (n + i))

pub octets_part : (at n : ℕ) (s : List ℕ) → Octets s → Octets (part at n s)
unfolding part
octets_part at n s h = octets_take n (drop at s) (octets_drop at s h)

-- ---- numbers in a run of bytes

-- reading: a part's number is that of its two parts, and the width bounds it
pub number_part : (at m n : ℕ) (s : List ℕ) → at + (m + n) ≤ length s
    → number (part at (m + n) s) ≡ number (part at m s) * 256 ^ n + number (part (at + m) n s)
number_part at m n s h =
    let l : length (part (at + m) n s) ≡ n = length_part (at + m) n s (omega arith) in
    ap number (part_add at m n s) ∙ number_append (part at m s) (part (at + m) n s) ∙ rw l

-- what a part holds is written back as it was
pub bytes_number_part : (at n : ℕ) (s : List ℕ) → at + n ≤ length s → Octets s → bytes n (number (part at n s)) ≡ part at n s
bytes_number_part at n s h o = let l = length_part at n s h in let b = bytes_number (part at n s) (octets_part at n s o) in rw l at b

-- ---- the bytes and the number as std has them

byte_at_is : (i x : ℕ) → byte_at i x ≡ x / 256 ^ i % 256
byte_at_is zero x = omega arith
byte_at_is (suc i) x = refl

bytes_high_first_is : (n x : ℕ) → bytes_high_first n x ≡ bytes n x
unfolding bytes
bytes_high_first_is zero x = refl
bytes_high_first_is (suc n) x = ap₂ ◌∷◌ (byte_at_is n x) (bytes_high_first_is n x)

pub byte_worth_is : (i b : ℕ) → byte_worth i b ≡ b * 256 ^ i
byte_worth_is zero b = omega arith
byte_worth_is (suc i) b = refl

-- a sum by its first number
pub sum_front : (f : ℕ → ℕ) (k : ℕ) → sum_through f (suc k) ≡ f 0 + sum_through (λ i. f (suc i)) k
sum_front f zero = refl
sum_front f (suc k) = let h = sum_front f k in omega arith

pub sum_same : (f g : ℕ → ℕ) (k : ℕ) → ((i : ℕ) → f i ≡ g i) → sum_through f k ≡ sum_through g k
sum_same f g zero e = e 0
sum_same f g (suc k) e = ap₂ ◌+◌ (sum_same f g k e) (e (suc k))

high_first_number : (k : ℕ) (bs : List ℕ) → length bs ≡ suc k → sum_through (λ i. byte_worth (k - i) (slice_index bs i)) k ≡ number bs
unfolding number
high_first_number k [] l = absurd (omega arith)
high_first_number zero (x ∷ []) l = omega arith
high_first_number zero (x ∷ (y ∷ bs)) l = absurd (omega arith)
high_first_number (suc k) (x ∷ bs) l =
    let m : length bs ≡ suc k = omega arith in
    let top : byte_worth (suc k - 0) x ≡ x * 256 ^ length bs = rw (sub-zero, m) (byte_worth_is (suc k) x) in
    let low = sum_same (λ i. byte_worth (suc k - suc i) (slice_index bs i)) (λ i. byte_worth (k - i) (slice_index bs i)) k (λ i. rw suc-sub-suc) in
    sum_front (λ i. byte_worth (suc k - i) (slice_index (x ∷ bs) i)) k ∙ ap₂ ◌+◌ top (low ∙ high_first_number k bs m)

-- the number of a part that was copied
pub number_high_first : (at k : ℕ) (s bs : List ℕ) → at + suc k ≤ length s → bs ≡ part at (suc k) s
    → sum_through (λ i. byte_worth (k - i) (slice_index bs i)) k ≡ number (part at (suc k) s)
number_high_first at k s bs h e = high_first_number k bs (ap length e ∙ length_part at (suc k) s h) ∙ ap number e

-- a part that was lent and has come back as a number's bytes
pub put_high_first : (at n x : ℕ) (s p : List ℕ) → p ≡ bytes_high_first n x → put_mid at (at + n - at) s p ≡ put at (bytes n x) s
put_high_first at n x s p e =
    let b : p ≡ bytes n x = e ∙ bytes_high_first_is n x in
    lent_back at n s p (ap length b ∙ length_bytes n x) ∙ ap (λ (q : List ℕ). put at q s) b
