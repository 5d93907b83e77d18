-- The last block or two of a message, as `finish` fills them: the rest, 0x80, zeros and the length stand where the padding has them.
use mathlib.Core.Path.{◌≡◌, ap}
use mathlib.Core.List.{List, [], ◌∷◌, ◌++◌, append_assoc}
use Prim.Native.Nat.{ℕ, suc, ◌+◌, ◌-◌, ◌*◌, ◌/◌, ◌%◌, ◌^◌, ◌≤◌}
use native.Mathlib.Omega.{arith}
use lib.ListN.{length, take, set, replicate, length-append, length-replicate}
use lib.Seq.{take_at, take-append_seam, take-append-add, drop-append-add, set-append_seam}
use Rattle.octets.specs.Numbers.{bytes}
use Rattle.octets.specs.Runs.{put}
use Rattle.octets.proofs.Numbers.{length_bytes}
use Rattle.octets.proofs.Runs.{take_replicate, drop_replicate}
use Rattle.sha256.specs.Digest.{zero_fill, padding}

-- bytes put behind others, where zeros stand
pub put_zeros : (a p : List ℕ) (n : ℕ) → put (length a) p (a ++ replicate n 0) ≡ a ++ (p ++ replicate (n - length p) 0)
unfolding put
put_zeros a p n = rw (take-append_seam, drop-append-add, drop_replicate)

-- the message's length in bits, modulo 2^64
bits : (len : ℕ) → len * 8 % 2 ^ 64 ≡ 8 * len % 2 ^ 64
bits len = omega arith

module _ (rest : List ℕ) (len : ℕ) (size : length rest ≡ len % 64) where
  -- the buffer after the rest and 0x80
  marked : set (put 0 rest (replicate 128 0)) (length rest) 0x80 ≡ rest ++ 0x80 ∷ replicate (127 - length rest) 0
  marked =
      let more : 128 - length rest ≡ suc (127 - length rest) = omega arith in
      rw (put_zeros [] rest 128, more, set-append_seam)

  -- where the length goes
  place : (length rest + 72) / 64 * 64 - 8 ≡ length rest + suc (zero_fill len)
  unfolding zero_fill
  place = omega arith

  front : take (length rest + suc (zero_fill len)) (rest ++ 0x80 ∷ replicate (127 - length rest) 0) ≡ rest ++ 0x80 ∷ replicate (zero_fill len) 0
  unfolding zero_fill
  front =
      let room : zero_fill len ≤ 127 - length rest = omega arith in
      rw take-append-add (ap (λ (l : List ℕ). rest ++ 0x80 ∷ l) (take_replicate (zero_fill len) (127 - length rest) 0 room))

  pub filled : take ((length rest + 72) / 64 * 64)
      (put ((length rest + 72) / 64 * 64 - 8) (bytes 8 (len * 8 % 2 ^ 64)) (set (put 0 rest (replicate 128 0)) (length rest) 0x80))
      ≡ rest ++ padding len
  unfolding put padding
  filled =
      let b = bytes 8 (8 * len % 2 ^ 64) in
      let end = (length rest + 72) / 64 * 64 in
      let head = rest ++ 0x80 ∷ replicate (zero_fill len) 0 in
      let size-head : length (head ++ b) ≡ end =
      simp (length-append, length-replicate, length_bytes) (omega (arith, place)) in
      rw (bits len, marked, place, front, ← append_assoc, take_at (head ++ b) _ end size-head, append_assoc)
