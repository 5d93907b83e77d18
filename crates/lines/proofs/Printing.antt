-- Laws of lines (specs/Lines.antt): the digits that `io` writes are the fewest, and what is written piece behind piece is the line.
use mathlib.Core.Path.{◌≡◌, refl, sym, ap, ◌∙◌}
use mathlib.Core.Bool.{Bool, true, false, cond}
use mathlib.Core.List.{List, [], ◌∷◌, ◌++◌}
use Prim.Native.Nat.{ℕ, zero, suc, ◌+◌, ◌-◌, ◌*◌, ◌/◌, ◌%◌, ◌^◌, ◌≤◌, ◌<◌}
use native.Mathlib.Omega.{arith}
use native.Mathlib.Nat.{not-suc-le-zero, mod-eq_of_lt, pow-le-pow_right}
use lib.Dec.{ltb, leb}
use lib.ListN.{length, take, length-append}
use lib.Seq.{length-take-le}
use borrow.Author.Tests.{lt-ltb, le-ltb, leb-true, leb-false}
use Rattle.io.specs.Digits.{last_digits, hex_digit_ascii, IsDigitCount}
use Rattle.octets.specs.Runs.{put}
use Rattle.octets.proofs.Runs.{put_head, put_next, length_put}
use Rattle.lines.specs.Lines.{decimal_in, decimal, most_digits, LineWritten}

-- ---- digits

glyph_below : (d : ℕ) → d < 10 → hex_digit_ascii d ≡ 48 + d
glyph_below d h = rw (lt-ltb d 10 h)

-- a number of k digits, where at most m are written
decimal_in_lem : (m k n : ℕ) → IsDigitCount 10 1 n k → k ≤ m → decimal_in m n ≡ last_digits 10 k n
unfolding decimal_in
decimal_in_lem m zero n f h = absurd (not-suc-le-zero f.0)
decimal_in_lem zero (suc k) n f h = absurd (not-suc-le-zero h)
decimal_in_lem (suc m) (suc zero) n f h =
    let b : n < 10 = omega (arith, f.1) in
    let e : n % 10 ≡ n = mod-eq_of_lt b in
    rw (lt-ltb n 10 b, e, glyph_below n b)
decimal_in_lem (suc m) (suc (suc k)) n f h =
    let p : 10 ^ suc (suc k) ≡ 10 ^ suc k * 10 = omega arith in
    let w = f.2 (omega arith) in
    let v : 10 ^ (suc (suc k) - 1) ≡ 10 ^ suc k = ap (λ (j : ℕ). 10 ^ j) (omega arith) in
    let low : 10 ^ suc k ≤ n = omega arith in
    let q : 10 ^ suc k ≡ 10 ^ k * 10 = omega arith in
    let o : 0 < 10 ^ k = omega arith in
    let b : 10 ≤ n = omega arith in
    let u : 10 ^ (suc k - 1) ≡ 10 ^ k = ap (λ (j : ℕ). 10 ^ j) (omega arith) in
    let i = decimal_in_lem m (suc k) (n / 10) (omega arith, omega (arith, f.1), λ _. omega arith) (omega arith) in
    rw (le-ltb n 10 b, i, glyph_below (n % 10) (omega arith))

-- a u64 has at most twenty
fewest_by : (k n : ℕ) (b : Bool) → leb k most_digits ≡ b → IsDigitCount 10 1 n k → n < 2 ^ 64 → k ≤ most_digits
fewest_by k n true e f h = leb-true k most_digits e
fewest_by k n false e f h =
    let w : most_digits < k = leb-false k most_digits e in
    let t : 0 < 10 = omega arith in
    let v : 20 ≤ k - 1 = omega arith in
    let p : 10 ^ 20 ≤ 10 ^ (k - 1) = pow-le-pow_right t v in
    let q = f.2 (omega arith) in
    absurd (omega arith)

pub fewest_most : (k n : ℕ) → IsDigitCount 10 1 n k → n < 2 ^ 64 → k ≤ most_digits
fewest_most k n f h = fewest_by k n (leb k most_digits) refl f h

pub decimal_digits : (k n : ℕ) → IsDigitCount 10 1 n k → n < 2 ^ 64 → last_digits 10 k n ≡ decimal n
unfolding decimal
decimal_digits k n f h = sym (decimal_in_lem most_digits k n f (fewest_most k n f h))

digits_more : (m n : ℕ) (b : Bool) (ds : List ℕ) → length ds ≤ m → length (cond b ((48 + n) ∷ []) (ds ++ ((48 + n % 10) ∷ []))) ≤ suc m
digits_more m n true ds h = omega arith
digits_more m n false ds h = rw length-append (omega arith)

digits_most : (m n : ℕ) → length (decimal_in m n) ≤ m
unfolding decimal_in
digits_most zero n = omega arith
digits_most (suc m) n = digits_more m n (ltb n 10) (decimal_in m (n / 10)) (digits_most m (n / 10))

pub decimal_most : (n : ℕ) → length (decimal n) ≤ most_digits
unfolding decimal
decimal_most n = digits_most most_digits n

-- ---- one piece behind the other

pub wrote_more : {a b out out1 out2 : List ℕ} {to r1 r2 : ℕ} → to ≤ length out → LineWritten a out to r1 out1 → LineWritten b out1 r1 r2 out2 → LineWritten (a ++ b) out to r2 out2
wrote_more {a} {b} {out} {out1} {out2} {to} {r1} {r2} h v w =
    record {
      end = w.end ∙ rw (v.end, length-append) (omega arith);
      puts = w.puts ∙ rw (v.puts, v.end) (put_next to out h a b);
    }

-- room for k bytes more
pub wrote_room : (k : ℕ) {a out out1 : List ℕ} {to r1 : ℕ} → LineWritten a out to r1 out1 → to + (length a + k) ≤ length out → r1 + k ≤ length out1
wrote_room k {a} {out} {out1} {to} {r1} v h = let l = length_put to a out (omega arith) in rw (v.puts, l, v.end) (omega arith)

-- what was written lies within the output
pub wrote_within : {a out out1 : List ℕ} {to r1 : ℕ} → LineWritten a out to r1 out1 → to ≤ length out → r1 ≤ length out1
unfolding put
wrote_within {a} {out} {out1} {to} {r1} v h =
    let l = length-take-le to out h in
    rw (v.puts, v.end, length-append, length-append) (omega arith)

-- and stands at its front where it was written from there
pub wrote_front : {a out out1 : List ℕ} {r1 : ℕ} → LineWritten a out 0 r1 out1 → take r1 out1 ≡ a
wrote_front {a} {out} {out1} {r1} v = rw (v.end, v.puts) (put_head 0 out (omega arith) a)
