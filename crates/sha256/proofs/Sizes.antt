-- A digest and a tag have 32 bytes.
use mathlib.Core.Path.{◌≡◌, refl, ap, ◌∙◌}
use mathlib.Core.List.{List, [], ◌∷◌}
use Prim.Native.Nat.{ℕ, zero, suc, ◌*◌}
use native.Mathlib.Omega.{arith}
use lib.ListN.{length, take, drop, length-append}
use Rattle.octets.proofs.Numbers.{length_bytes}
use Rattle.compression.specs.Compression.{added, compressed}
use Rattle.sha256.specs.Digest.{initial, absorbed, octets_of, digested, sha256_of}
use Rattle.sha256.specs.Hmac.{hmac_of}

pub length_octets : (ws : List ℕ) → length (octets_of ws) ≡ 4 * length ws
unfolding octets_of
length_octets [] = refl
length_octets (w ∷ ws) = simp (length-append, length_bytes) (omega (arith, length_octets ws))

length_absorbed : (n : ℕ) (h message : List ℕ) → length h ≡ 8 → length (absorbed n h message) ≡ 8
unfolding absorbed compressed added
length_absorbed zero h message e = e
length_absorbed (suc n) h message e = length_absorbed n (compressed h (take 64 message)) (drop 64 message) refl

pub length_digest : (message : List ℕ) → length (sha256_of message) ≡ 32
unfolding sha256_of digested
length_digest message = length_octets _ ∙ ap (λ (n : ℕ). 4 * n) (length_absorbed _ initial _ refl)

pub length_hmac : (key text : List ℕ) → length (hmac_of key text) ≡ 32
unfolding hmac_of
length_hmac key text = length_digest _
