-- Doubles that are finite and have no sign, 0 among them, by the fractions that they are: each operation on such is one rounded fraction, and so its result lies
-- between the results of the ends.
use mathlib.Core.Path.{◌≡◌, refl, sym, ◌∙◌, subst}
use mathlib.Core.Bool.{Bool, true, false, ◌&&◌, ◌||◌, cond, true≢false}
use Prim.Native.Nat.{ℕ, zero, suc, ◌+◌, ◌-◌, ◌*◌, ◌^◌, ◌≤◌, ◌<◌}
use native.Mathlib.Nat.{le_refl, lt_of_lt_of_le, mul-le-mul, mul-le-mul_right, mul-mul-mul_comm, mul_comm, mul-sub, mul-pos}
use native.Mathlib.Omega.{arith}
use lib.IntN.{ℤ}
use lib.Dec.{T, ltb, eqb, eqb→eq, ltb→lt}
use borrow.Author.Tests.{ne_eqb}
use lib.Ieee.{Float, nan, inf, fin, binary64, prec, low, emax, up, down, odd, units, round, add, sub, mul, div, sum, le, of_int}
use lib.Ieee.Back.{round_whole}
use lib.Ieee.Exact.{HasValue}
use lib.Ieee.Fits.{round_is}
use lib.Ieee.Order.{round_mono, kept, drop}
use lib.Ieee.Positive.{num, den, den_pos, value→cross, first_pos, through}
use lib.Ieee.Scale.{round_same}
use Rattle.double_wait.specs.Doubles.{whole}

-- ---- finite and without a sign

pub data Clear : Float → Type 0 where
  clear : (m : ℕ) (e : ℤ) → Clear (fin false m e)

-- the same as a test, for numbers that compute
abbrev pub is_clear : Float → Bool
is_clear nan = false
is_clear (inf s) = false
is_clear (fin true m e) = false
is_clear (fin false m e) = true

pub by_test : (x : Float) → T (is_clear x) → Clear x
by_test nan t = absurd t
by_test (inf s) t = absurd t
by_test (fin true m e) t = absurd t
by_test (fin false m e) t = clear m e

-- a/b ≤ c/d
pub record AtMost (a b c d : ℕ) : Type 0 where
  pub cross : a * d ≤ c * b

abbrev pub at_most : {a b c d : ℕ} → a * d ≤ c * b → AtMost a b c d
at_most h = record { cross = h }

-- the order of two such, as fractions
pub record Below (x y : Float) : Type 0 where
  pub by : AtMost (num x) (den x) (num y) (den y)

pub record Within (lo hi z : Float) : Type 0 where
  pub low_clear : Clear lo
  pub high_clear : Clear hi
  pub is_clear_lem : Clear z
  pub not_below : Below lo z
  pub not_above : Below z hi

pub within_itself : {x : Float} → Clear x → Within x x x
within_itself c = record { low_clear = c; high_clear = c; is_clear_lem = c; not_below = alike; not_above = alike }
  where
    alike : {x : Float} → Below x x
    alike = record { by = record { cross = le_refl _ } }

pub below_through : {x y z : Float} → Below x y → Below y z → Below x z
below_through {x} {y} {z} h k = record { by = at_most (through (num x) (num y) (num z) (den x) (den y) (den z) (den_pos y) h.by.cross k.by.cross) }

-- what is not below a number above 0 is above 0
pub above_zero : {x y : Float} → Below x y → 0 < num x → 0 < num y
above_zero {x} {y} h p = first_pos (num y) (den x) (lt_of_lt_of_le (mul-pos p (den_pos y)) h.by.cross)

-- ---- rounding

-- a fraction rounds to such a number, or over the largest
data Rounded : Float → Type 0 where
  under : (m : ℕ) (e : ℤ) → Rounded (fin false m e)
  over : Rounded (inf false)

in_odd : (d q k l : ℕ) → Rounded (odd d false q k l)
unfolding odd
in_odd d zero k l = under _ _
in_odd d (suc q) k l = under _ _

in_units : (q k : ℕ) → Rounded (units binary64 false q k)
unfolding units
in_units q k = chosen (ltb (q * 2 ^ k) (2 ^ (low binary64 + suc (emax binary64)))) _ (in_odd (suc (prec binary64)) q k (low binary64))
  where
    chosen : (t : Bool) (x : Float) → Rounded x → Rounded (cond t x (inf false))
    chosen true x r = r
    chosen false x r = over

rounded : (a b : ℕ) → Rounded (round binary64 false a b)
rounded a b = subst Rounded (sym (round_is binary64 false a b)) (in_units (kept (prec binary64) (a * 2 ^ low binary64) b) (drop (prec binary64) (a * 2 ^ low binary64) b))

passed : (a b : ℕ) → T (ltb a b || (eqb a b && true)) → a ≤ b
passed a b = go (ltb a b) (eqb a b) (ltb→lt a b) (eqb→eq a b)
  where
    go : (t u : Bool) → (T t → a < b) → (T u → a ≡ b) → T (t || (u && true)) → a ≤ b
    go true u f g h = let l = f tt in omega arith
    go false true f g h = let e = g tt in omega arith
    go false false f g h = absurd h

pub below_of_le : {x y : Float} → Clear x → Clear y → T (le x y) → Below x y
unfolding le
below_of_le (clear m e) (clear n d) h = record { by = at_most (passed (m * up e * down d) (n * up d * down e) h) }

-- what rounds to no more than such a number is one
clear_under : {x y : Float} → Rounded x → Clear y → T (le x y) → Clear x
unfolding le
clear_under (under m e) c h = clear m e
clear_under over (clear n d) h = absurd h

pub rounds_within : {a b c d e g : ℕ} → 0 < b → 0 < d → 0 < g → AtMost a b c d → AtMost c d e g → Clear (round binary64 false e g)
    → Within (round binary64 false a b) (round binary64 false e g) (round binary64 false c d)
rounds_within {a} {b} {c} {d} {e} {g} B D G l h k =
    let u = round_mono binary64 c d e g D G h.cross in
    let z = clear_under (rounded c d) k u in
    let v = round_mono binary64 a b c d B D l.cross in
    let y = clear_under (rounded a b) z v in
    record { low_clear = y; high_clear = k; is_clear_lem = z; not_below = below_of_le y z v; not_above = below_of_le z k u }

-- ---- each operation is one rounded fraction

mul_is : {x y : Float} → Clear x → Clear y → mul binary64 x y ≡ round binary64 false (num x * num y) (den x * den y)
unfolding mul
mul_is (clear m e) (clear n d) = refl

add_is : {x y : Float} → Clear x → Clear y → add binary64 x y ≡ round binary64 false (num x * den y + num y * den x) (den x * den y)
unfolding add
add_is (clear m e) (clear n d) = refl

div_is : {x y : Float} → Clear x → Clear y → 0 < num y → div binary64 x y ≡ round binary64 false (num x * den y) (num y * den x)
unfolding div
div_is (clear m e) (clear n d) p = rw (ne_eqb n 0 (λ z. let h = first_pos n (up d) p in omega arith))

-- of the larger and the smaller
picked : (a b c : ℕ) → b ≤ a → sum binary64 false a true b c ≡ round binary64 false (a - b) c
unfolding sum
picked a b c h = go (ltb a b) (ltb→lt a b)
  where
    go : (t : Bool) → (T t → a < b) → cond t (round binary64 true (b - a) c) (round binary64 false (a - b) c) ≡ round binary64 false (a - b) c
    go true k = let l = k tt in absurd (omega arith)
    go false k = refl

summed : (m : ℕ) (e : ℤ) (n : ℕ) (d : ℤ) → sub binary64 (fin false m e) (fin false n d) ≡ sum binary64 false (m * up e * down d) true (n * up d * down e) (down e * down d)
unfolding sub
summed m e n d = refl

sub_is : {x y : Float} → Clear x → Clear y → Below y x → sub binary64 x y ≡ round binary64 false (num x * den y - num y * den x) (den x * den y)
sub_is (clear m e) (clear n d) b = summed m e n d ∙ picked (m * up e * down d) (n * up d * down e) (down e * down d) b.by.cross

-- ---- and keeps the order of its arguments, as fractions do, or turns it

module _ {a b c d A B C D : ℕ} (h : AtMost a b A B) (k : AtMost c d C D) where
  product_grows : AtMost (a * c) (b * d) (A * C) (B * D)
  product_grows = at_most (omega (arith, mul-mul-mul_comm a c B D, mul-mul-mul_comm A b C d, mul-le-mul h.cross k.cross))

  sum_grows : AtMost (a * d + c * b) (b * d) (A * D + C * B) (B * D)
  sum_grows = at_most (omega (arith, mul-le-mul_right (d * D) h.cross, mul-le-mul_right (b * B) k.cross))

-- a/b over each of the two
quotient_falls : {c d C D : ℕ} (a b : ℕ) → AtMost c d C D → AtMost (a * D) (C * b) (a * d) (c * b)
quotient_falls a b k = at_most (omega (arith, mul-le-mul_right (a * b) k.cross))

-- a/b less each of the two
difference_falls : {c d C D : ℕ} (a b : ℕ) → AtMost c d C D → AtMost (a * D - C * b) (b * D) (a * d - c * b) (b * d)
difference_falls {c} {d} {C} {D} a b k =
    let p : (a * D - C * b) * (b * d) ≡ b * d * (a * D) - b * d * (C * b) = mul_comm (a * D - C * b) (b * d) ∙ mul-sub (b * d) (a * D) (C * b) in
    let q : (a * d - c * b) * (b * D) ≡ b * D * (a * d) - b * D * (c * b) = mul_comm (a * d - c * b) (b * D) ∙ mul-sub (b * D) (a * d) (c * b) in
    at_most (rw (p, q) (less (omega arith) (omega (arith, mul-le-mul_right (b * b) k.cross))))
  where
    less : {w x y z : ℕ} → w ≡ y → z ≤ x → w - x ≤ y - z
    less e h = omega arith

module _ {lx hx x ly hy y : Float} (X : Within lx hx x) (Y : Within ly hy y) where
  pub mul_within : Clear (mul binary64 hx hy) → Within (mul binary64 lx ly) (mul binary64 hx hy) (mul binary64 x y)
  mul_within k =
      rw (mul_is X.low_clear Y.low_clear, mul_is X.high_clear Y.high_clear, mul_is X.is_clear_lem Y.is_clear_lem)
      (rounds_within (mul-pos (den_pos lx) (den_pos ly)) (mul-pos (den_pos x) (den_pos y)) (mul-pos (den_pos hx) (den_pos hy))
      (product_grows X.not_below.by Y.not_below.by) (product_grows X.not_above.by Y.not_above.by)
      (rw (mul_is X.high_clear Y.high_clear) at k))

  pub add_within : Clear (add binary64 hx hy) → Within (add binary64 lx ly) (add binary64 hx hy) (add binary64 x y)
  add_within k =
      rw (add_is X.low_clear Y.low_clear, add_is X.high_clear Y.high_clear, add_is X.is_clear_lem Y.is_clear_lem)
      (rounds_within (mul-pos (den_pos lx) (den_pos ly)) (mul-pos (den_pos x) (den_pos y)) (mul-pos (den_pos hx) (den_pos hy))
      (sum_grows X.not_below.by Y.not_below.by) (sum_grows X.not_above.by Y.not_above.by)
      (rw (add_is X.high_clear Y.high_clear) at k))

module _ {x ly hy y : Float} (X : Clear x) (Y : Within ly hy y) where
  pub sub_within : Below hy x → Clear (sub binary64 x ly) → Within (sub binary64 x hy) (sub binary64 x ly) (sub binary64 x y)
  sub_within b k =
      let m = below_through Y.not_above b in
      let l = below_through Y.not_below m in
      rw (sub_is X Y.high_clear b, sub_is X Y.low_clear l, sub_is X Y.is_clear_lem m)
      (rounds_within (mul-pos (den_pos x) (den_pos hy)) (mul-pos (den_pos x) (den_pos y)) (mul-pos (den_pos x) (den_pos ly))
      (difference_falls (num x) (den x) Y.not_above.by) (difference_falls (num x) (den x) Y.not_below.by)
      (rw (sub_is X Y.low_clear l) at k))

  pub div_within : 0 < num ly → Clear (div binary64 x ly) → Within (div binary64 x hy) (div binary64 x ly) (div binary64 x y)
  div_within p k =
      let q = above_zero Y.not_below p in
      let r = above_zero Y.not_above q in
      rw (div_is X Y.high_clear r, div_is X Y.low_clear p, div_is X Y.is_clear_lem q)
      (rounds_within (mul-pos r (den_pos x)) (mul-pos q (den_pos x)) (mul-pos p (den_pos x))
      (quotient_falls (num x) (den x) Y.not_above.by) (quotient_falls (num x) (den x) Y.not_below.by)
      (rw (div_is X Y.low_clear p) at k))

-- ---- whole numbers

pub clear_whole : (n : ℕ) → n ≤ 2 ^ 53 → Clear (whole n)
unfolding of_int
clear_whole n h = by_value (round binary64 false n 1) (round_whole binary64 false n h)
  where
    by_value : (x : Float) → HasValue x false n 1 → Clear x
    by_value nan v = absurd v
    by_value (inf s) v = absurd v
    by_value (fin true m e) v = absurd (true≢false v.0)
    by_value (fin false m e) v = clear m e

-- the fraction that it is
whole_is : (n : ℕ) → n ≤ 2 ^ 53 → num (whole n) ≡ n * den (whole n)
unfolding of_int
whole_is n h = let e = value→cross (round binary64 false n 1) n 1 (round_whole binary64 false n h) in omega arith

-- a part of a whole, both as numbers of entries or points
pub record Part (a b : ℕ) : Type 0 where
  pub some : 0 < b
  pub of : a ≤ b
  pub few : b ≤ 1000

-- a quotient of two is their fraction, rounded
pub quotient_is : {a b : ℕ} → Part a b → div binary64 (whole a) (whole b) ≡ round binary64 false a b
quotient_is {a} {b} r =
    let x = whole_is a (omega (arith, r.of, r.few)) in
    let y = whole_is b (omega (arith, r.few)) in
    let q : 0 < num (whole b) = rw y (mul-pos r.some (den_pos (whole b))) in
    div_is (clear_whole a (omega (arith, r.of, r.few))) (clear_whole b (omega (arith, r.few))) q
    ∙ round_same binary64 false (num (whole a) * den (whole b)) (num (whole b) * den (whole a)) a b (mul-pos q (den_pos (whole a))) r.some (rw (x, y) (omega arith))

-- it is at most 1
part_clear : {a b : ℕ} → Part a b → Clear (round binary64 false a b)
unfolding round
part_clear {a} {b} r = clear_under (rounded a b) (by_test (round binary64 false 1 1) tt) (round_mono binary64 a b 1 1 r.some (omega arith) (omega (arith, r.of)))

pub quotient_within : {a b c d e g : ℕ} → Part a b → Part c d → Part e g → AtMost a b c d → AtMost c d e g
    → Within (div binary64 (whole a) (whole b)) (div binary64 (whole e) (whole g)) (div binary64 (whole c) (whole d))
quotient_within r u v l h =
    rw (quotient_is r, quotient_is u, quotient_is v) (rounds_within r.some u.some v.some l h (part_clear v))
