-- The block of HMAC's key: masked byte by byte, what a digest of it and a message is, and that a tag goes on from the key's states.
use mathlib.Core.Path.{◌≡◌, refl, sym, subst, ◌∙◌}
use mathlib.Core.Bool.{Bool, true, false}
use mathlib.Core.List.{List, ◌++◌, append_assoc}
use Prim.Native.Nat.{ℕ, zero, suc, ◌+◌}
use native.Mathlib.Omega.{arith}
use borrow.Author.Tests.{ltb-false}
use lib.Bits.{bit_xor}
use lib.Dec.{ltb}
use denote.Param.Members.{Mut, Called}
use Rattle.std.specs.Array.{IsMapOf, MapsFrom}
use Rattle.std.proofs.lemmas.List.{drop_more}
use lib.ListN.{drop, drop_of_length-le, length, length-append, length-map, length-replicate}
use Rattle.compression.specs.Compression.{compressed}
use Rattle.sha256.specs.Digest.{initial, padding, sha256_of}
use Rattle.sha256.specs.Hmac.{shortened, key_block, masked, ipad, opad, hmac_of, states_of, digest_behind, tag_by}
use Rattle.sha256.specs.declared.KeyStates.{KeyStates}
use Rattle.sha256.proofs.Blocks.{digested_block}
use Rattle.sha256.proofs.Sizes.{length_digest}

pub length_masked : (pad : ℕ) (block : List ℕ) → length (masked pad block) ≡ length block
unfolding masked
length_masked pad block = length-map block (λ (b : ℕ). bit_xor b pad)

-- an array that a closure makes of a block, where it masks each byte
module _ {F : Type 0} (g : Mut F (ℕ × Unit {0}) ℕ) (f : F) (pad : ℕ) (computes : (x y : ℕ) (q : F) → Called g f (x, tt) y q → (q ≡ f) × (y ≡ bit_xor x pad)) where
  masked_from : (block ys : List ℕ) (n i : ℕ) → length block ≡ i + n → length ys ≡ i + n → MapsFrom g f block ys i n → drop i ys ≡ masked pad (drop i block)
  unfolding masked
  masked_from block ys zero i long size each =
      let all : length block ≡ i = omega arith in
      let made : length ys ≡ i = omega arith in
      rw (drop_of_length-le block {i = i} (omega arith), drop_of_length-le ys {i = i} (omega arith))
  masked_from block ys (suc n) i long size (q, x, y, read, stored, call, rest) =
      let own = computes x y q call in
      rw (
        drop_more block i x (omega arith),
        drop_more ys i y (omega arith),
        read.0,
        stored.0,
        own.1,
        masked_from block ys n (i + 1) (omega arith) (omega arith) (subst (λ (p : F). MapsFrom g p block ys (i + 1) n) own.0 rest),
      )

  pub masked_all : (block ys : List ℕ) (n : ℕ) → length block ≡ n → IsMapOf g f block ys n → ys ≡ masked pad block
  masked_all block ys n long e = masked_from block ys n 0 (omega (arith, long)) (omega (arith, e.long)) e.each

-- a digest of a block and a message goes on from the block's hash value
digest_behind_lem : (block message : List ℕ) → length block ≡ 64 → sha256_of (block ++ message) ≡ digest_behind (compressed initial block) message
unfolding sha256_of digest_behind
digest_behind_lem block message size =
    rw (length-append, size, append_assoc, digested_block initial block (message ++ padding (64 + length message)) size)

length_key_block : (key : List ℕ) → length (key_block key) ≡ 64
unfolding key_block shortened
length_key_block key = go (ltb 64 (length key)) refl
  where
    go : (t : Bool) → ltb 64 (length key) ≡ t → length (key_block key) ≡ 64
    go true e = rw (e, length-append, length-replicate, length_digest)
    go false e = let short = ltb-false 64 (length key) e in rw (e, length-append, length-replicate) (omega arith)

-- a tag by the states of a key is the tag under the key; one that was made by them is it too
pub tag_of_key : (key text : List ℕ) → hmac_of key text ≡ tag_by (states_of key) text
unfolding hmac_of tag_by states_of
tag_of_key key text =
    let size : (pad : ℕ) → length (masked pad (key_block key)) ≡ 64 = λ pad. length_masked pad (key_block key) ∙ length_key_block key in
    rw (digest_behind_lem (masked ipad (key_block key)) text (size ipad))
    (digest_behind_lem (masked opad (key_block key)) _ (size opad))

pub tag_by_lem : (key text made : List ℕ) (s : KeyStates) → s ≡ states_of key → made ≡ tag_by s text → made ≡ hmac_of key text
tag_by_lem key text made s e h = h ∙ rw e (sym (tag_of_key key text))
