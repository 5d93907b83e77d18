-- The wait in doubles (specs/Doubles.antt): on an empty registrar the factor is exactly 1.0, and for numbers that are in order the wait lies between those of the two ends, so
-- that it is finite, not 0 and without a sign, and its bits may be subtracted.
use mathlib.Core.Path.{◌≡◌, refl, ap, ◌∙◌}
use mathlib.Core.Bool.{true, false}
use Prim.Native.Nat.{ℕ, zero, suc, ◌^◌, ◌≤◌, ◌<◌}
use native.Mathlib.Omega.{arith}
use lib.Dec.{T, lit<, lt→ltb}
use lib.Ieee.{Float, fin, binary64, up, round, of_bits, of_int, to_bits, add, sub, mul, div, le, neg, fits}
use lib.Ieee.Bits.{to_bits-lt}
use lib.Ieee.Fits.{mul-fits, neg-fits}
use lib.Ieee.Positive.{num, den, den_pos, positive, own_value, value_pos, first_pos, cross→le}
use lib.Ieee.Scale.{round_same}
use Rattle.settings.specs.Settings.{lifetime as milliseconds}
use Rattle.double_wait.specs.declared.Settings.{Settings}
use Rattle.double_wait.specs.Doubles.{one, levels, lifetime, least, whole, settings_of, free_of, times, power_of, factor_of, EmptyExactlyOne, share_of, double_wait, InOrder, shortest, longest, Proper, InOrderProper}
use Rattle.double_wait.proofs.Bounds.{Clear, clear, by_test, AtMost, at_most, Below, Within, within_itself, above_zero, Part, quotient_within, below_of_le, mul_within, add_within, sub_within, div_within, quotient_is}

-- ---- the constants are the doubles that they are written for: whole numbers, and the nearest to 1/10^7

pub one_is : one ≡ whole 1
unfolding of_bits of_int
one_is = refl

pub levels_is : levels ≡ whole 32
unfolding of_bits of_int
levels_is = refl

pub lifetime_is : lifetime ≡ whole milliseconds
unfolding of_bits of_int
lifetime_is = refl

pub least_is : least ≡ round binary64 false 1 (10 ^ 7)
unfolding of_bits round
least_is = refl

-- ---- an empty registrar

part : {a b : ℕ} → 0 < b → a ≤ b → b ≤ 1000 → Part a b
part p h k = record { some = p; of = h; few = k }

-- nothing over any capacity is 0
nothing_taken : (C : ℕ) → 1 ≤ C → C ≤ 1000 → div binary64 (whole 0) (whole C) ≡ round binary64 false 0 1
nothing_taken C p h = quotient_is (part p (omega arith) h) ∙ round_same binary64 false 0 C 0 1 p (omega arith) (omega arith)

pub factor_one : (C : ℕ) → 1 ≤ C → C ≤ 1000 → factor_of (settings_of C) 0 ≡ one
unfolding factor_of free_of power_of times of_bits div mul sub
factor_one C p h = let e : div binary64 (whole 0) (whole C) ≡ round binary64 false 0 1 = nothing_taken C p h in ap (λ (q : Float). div binary64 one (times 10 (sub binary64 one q))) e ∙ computed
  where
    computed : div binary64 one (times 10 (sub binary64 one (round binary64 false 0 1))) ≡ one
    computed = refl

-- ---- between the ends: a capacity of 1 of which nothing is taken, and one of 1,000 of which one is free

clear_one : Clear one
unfolding of_bits
clear_one = by_test one tt

-- a part of the capacity, which is less than all of it
part_within : (a C : ℕ) → a < C → C ≤ 1000 → Within (div binary64 (whole 0) (whole 1)) (div binary64 (whole 999) (whole 1000)) (div binary64 (whole a) (whole C))
part_within a C p h =
    let r : Part a C = part (omega arith) (omega arith) h in
    let l : AtMost 0 1 a C = at_most (omega arith) in
    let m : AtMost a C 999 1000 = at_most (omega arith) in
    quotient_within (part (omega arith) (omega arith) (omega arith)) r (part (omega arith) (omega arith) (omega arith)) l m

similar_within : (p : ℕ) → p ≤ 32 → Within (div binary64 (whole 0) levels) (div binary64 (whole 32) levels) (div binary64 (whole p) levels)
similar_within p h =
    let of-levels : (a : ℕ) → a ≤ 32 → Part a 32 = λ a k. part (omega arith) k (omega arith) in
    let l : AtMost 0 32 p 32 = at_most (omega arith) in
    let m : AtMost p 32 32 32 = at_most (omega arith) in
    rw levels_is (quotient_within (of-levels 0 (omega arith)) (of-levels p h) (of-levels 32 (omega arith)) l m)

-- the ends compute

sum_clear : Clear (add binary64 (div binary64 (whole 999) (whole 1000)) (div binary64 (whole 32) levels))
unfolding add div of_int of_bits
sum_clear = by_test (add binary64 (div binary64 (whole 999) (whole 1000)) (div binary64 (whole 32) levels)) tt

share_clear : Clear (share_of (settings_of 1000) 999 32)
unfolding share_of add div of_int of_bits
share_clear = by_test (share_of (settings_of 1000) 999 32) tt

least_clear : Clear least
unfolding of_bits
least_clear = by_test least tt

lifetime_clear : Clear lifetime
unfolding of_bits
lifetime_clear = by_test lifetime tt

all_but_one : Below (div binary64 (whole 999) (whole 1000)) one
unfolding div of_int of_bits le
all_but_one = below_of_le (by_test (div binary64 (whole 999) (whole 1000)) tt) clear_one tt

-- all is free
free_one : free_of (settings_of 1) 0 ≡ one
unfolding free_of sub div of_int of_bits
free_one = refl

one_times : (k : ℕ) → times k one ≡ one
unfolding times mul of_bits
one_times zero = refl
one_times (suc k) = ap (λ (d : Float). mul binary64 d one) (one_times k) ∙ refl

last_above : 0 < num (times 10 (free_of (settings_of 1000) 999))
unfolding times mul free_of sub div of_int of_bits
last_above = lit< tt

factor_clear : Clear (factor_of (settings_of 1000) 999)
unfolding factor_of power_of times mul free_of sub div of_int of_bits
factor_clear = by_test (factor_of (settings_of 1000) 999) tt

grown_clear : Clear (mul binary64 lifetime (factor_of (settings_of 1000) 999))
unfolding factor_of power_of times mul free_of sub div of_int of_bits
grown_clear = by_test (mul binary64 lifetime (factor_of (settings_of 1000) 999)) tt

longest_clear : Clear longest
unfolding double_wait share_of add factor_of power_of times mul free_of sub div of_int of_bits
longest_clear = by_test longest tt

shortest_positive : T (positive shortest)
unfolding double_wait share_of add factor_of power_of times mul free_of sub div of_int of_bits
shortest_positive = tt

-- what lies between them

share_within : (C s p : ℕ) → s < C → C ≤ 1000 → p ≤ 32 → Within (share_of (settings_of 1) 0 0) (share_of (settings_of 1000) 999 32) (share_of (settings_of C) s p)
unfolding share_of
share_within C s p f h k = add_within (add_within (part_within s C f h) (similar_within p k) sum_clear) (within_itself least_clear) share_clear

free_within : (C c : ℕ) → c < C → C ≤ 1000 → Within (free_of (settings_of 1000) 999) (free_of (settings_of 1) 0) (free_of (settings_of C) c)
unfolding free_of
free_within C c f h = sub_within clear_one (part_within c C f h) all_but_one (rw free_one clear_one)

times_within : {lo o : Float} (k : ℕ) → Within lo one o → Within (times k lo) (times k one) (times k o)
unfolding times
times_within zero w = within_itself clear_one
times_within (suc k) w = mul_within (times_within k w) w (rw (one_times (suc k)) clear_one)

factor_within : (C c : ℕ) → c < C → C ≤ 1000 → Within (factor_of (settings_of 1) 0) (factor_of (settings_of 1000) 999) (factor_of (settings_of C) c)
unfolding factor_of power_of
factor_within C c f h =
    let w = free_within C c f h in
    let o = rw free_one at w in
    let d = times_within 10 o in
    rw free_one (div_within clear_one d last_above factor_clear)

pub wait_within : (C c s p : ℕ) → InOrder C c s p → Within shortest longest (double_wait (settings_of C) c s p)
unfolding double_wait
wait_within C c s p i =
    mul_within (mul_within (within_itself lifetime_clear) (factor_within C c i.free i.few_capacity) grown_clear)
    (share_within C s p (omega (arith, i.serving, i.free)) i.few_capacity i.similar) longest_clear

-- ---- the bits

positive_of : {x y : Float} → T (positive x) → Below x y → Clear y → T (positive y)
positive_of {x} p b (clear m e) = lt→ltb 0 m (first_pos m (up e) (above_zero b (value_pos x (num x) (den x) p (den_pos x) (own_value x p))))

bits_below : {x : Float} → Clear x → T (fits binary64 x) → to_bits binary64 x < 2 ^ 63
unfolding to_bits neg
bits_below (clear m e) f = let h = to_bits-lt binary64 (fin true m e) (neg-fits binary64 (fin false m e) f) in omega arith

wait_fits : (C c s p : ℕ) → T (fits binary64 (double_wait (settings_of C) c s p))
unfolding double_wait
wait_fits C c s p = mul-fits binary64 (mul binary64 lifetime (factor_of (settings_of C) c)) (share_of (settings_of C) s p)

pub wait_proper : (C c s p : ℕ) → InOrder C c s p → Proper (double_wait (settings_of C) c s p)
wait_proper C c s p i =
    let w = wait_within C c s p i in
    let q = positive_of shortest_positive w.not_below w.is_clear_lem in
    record {
      above_zero = q;
      unsigned = bits_below w.is_clear_lem (wait_fits C c s p);
      not_shorter = cross→le _ _ shortest_positive q w.not_below.by.cross;
      not_longer = cross→le _ _ q (positive_of q w.not_above longest_clear) w.not_above.by.cross;
    }

-- ---- of what is answered, for settings made for a capacity

pub factor_is : (g : Settings) (c : ℕ) (o d : Float) → o ≡ free_of g c → d ≡ power_of o → div binary64 one d ≡ factor_of g c
unfolding factor_of
factor_is g c o d h k = rw (k, h)

pub empty_exactly_one : {g : Settings} {c : ℕ} {f : Float} → f ≡ factor_of g c → EmptyExactlyOne g c f
empty_exactly_one e C p h k z = e ∙ rw (k, z) (factor_one C p h)

pub wait_is : (g : Settings) (c s p : ℕ) (f x : Float) → f ≡ factor_of g c → x ≡ share_of g s p → mul binary64 (mul binary64 g.lifetime f) x ≡ double_wait g c s p
unfolding double_wait
wait_is g c s p f x h k = rw (h, k)

pub in_order_proper : {g : Settings} {c s p : ℕ} {w : Float} → w ≡ double_wait g c s p → InOrderProper g c s p w
in_order_proper {g} {c} {s} {p} e C k i = rw (e, k) (wait_proper C c s p i)
