-- The words of a hash value written one by one, as `written` does.
use mathlib.Core.Path.{◌≡◌, refl, ◌∙◌}
use mathlib.Core.List.{List, [], ◌∷◌, ◌++◌, append_assoc, append-nil}
use Prim.Native.Nat.{ℕ, ◌+◌, ◌-◌, ◌*◌, ◌≤◌, ◌<◌}
use native.Mathlib.Numerals.{add-one}
use native.Mathlib.Omega.{arith}
use lib.ListN.{length, get_or, take, replicate}
use lib.Seq.{take-suc, take_all, length-take-le}
use Rattle.octets.specs.Numbers.{bytes}
use Rattle.octets.specs.Runs.{put}
use Rattle.octets.proofs.Numbers.{length_bytes}
use Rattle.octets.proofs.Runs.{length_put}
use Rattle.sha256.specs.Digest.{octets_of}
use Rattle.sha256.proofs.Padding.{put_zeros}
use Rattle.sha256.proofs.Sizes.{length_octets}

octets_snoc : (a : List ℕ) (w : ℕ) → octets_of (a ++ (w ∷ [])) ≡ octets_of a ++ bytes 4 w
unfolding octets_of
octets_snoc [] w = append-nil (bytes 4 w)
octets_snoc (v ∷ a) w = rw (octets_snoc a w, append_assoc)

-- the first bytes of an array are those of the first i words of a hash value, and the others 0
pub record Written (h out : List ℕ) (i : ℕ) : Type 0 where
  pub whole : length out ≡ 32
  pub so_far : out ≡ octets_of (take i h) ++ replicate (32 - 4 * i) 0

pub written_start : (h : List ℕ) → Written h (replicate 32 0) 0
unfolding octets_of
written_start h = record { whole = refl; so_far = refl }

pub written_next : (h out : List ℕ) (i : ℕ) → length h ≡ 8 → Written h out i → i < 8 → Written h (put (4 * i) (bytes 4 (get_or h i 0)) out) (i + 1)
written_next h out i size s below =
    let word = bytes 4 (get_or h i 0) in
    let fits : i < length h = omega (arith, size) in
    let done : length (octets_of (take i h)) ≡ 4 * i = length_octets (take i h) ∙ omega (arith, length-take-le i h (omega arith)) in
    let left : (32 - 4 * i) - 4 ≡ 32 - 4 * (i + 1) = omega arith in
    let room : 4 * i + length word ≤ length out = rw length_bytes (omega (arith, s.whole)) in
    let stored : put (4 * i) word (octets_of (take i h) ++ replicate (32 - 4 * i) 0) ≡ octets_of (take i h) ++ (word ++ replicate (32 - 4 * (i + 1)) 0) =
    rw (← done, put_zeros, done, length_bytes, left) in
    record {
      whole = length_put (4 * i) word out room ∙ s.whole;
      so_far = rw (s.so_far, stored, add-one, take-suc h i 0 fits, octets_snoc, append_assoc);
    }

pub written_done : (h out : List ℕ) → length h ≡ 8 → Written h out 8 → out ≡ octets_of h
written_done h out size s =
    let all : take 8 h ≡ h = take_all 8 h (omega (arith, size)) in
    s.so_far ∙ rw (all, append-nil)
