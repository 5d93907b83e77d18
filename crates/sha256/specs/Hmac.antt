-- HMAC-SHA-256 as RFC 2104 section 2 has it, with blocks of 64 bytes.
use Rattle.std.specs.Prelude.{ℕ, ◌+◌, ◌-◌, cond, List, map, ◌++◌, ltb, length, replicate}
use Rattle.std.specs.Int.Bits.{bit_xor}
use Rattle.compression.specs.Compression.{compressed}
use Rattle.sha256.specs.Digest.{initial, padding, digested, sha256_of}
use Rattle.sha256.specs.declared.KeyStates.{KeyStates}

-- a key longer than a block is hashed first; a shorter one is filled with zeros to a block
unfoldable pub shortened : List ℕ → List ℕ
shortened key = cond (ltb 64 (length key)) (sha256_of key) key

unfoldable pub key_block : List ℕ → List ℕ
key_block key = shortened key ++ replicate (64 - length (shortened key)) 0

-- each byte of the key's block exclusive-or a byte: 0x36 for ipad, 0x5c for opad
unfoldable pub masked : ℕ → List ℕ → List ℕ
masked pad block = map (λ b. bit_xor b pad) block

abbrev pub ipad : ℕ
ipad = 0x36

abbrev pub opad : ℕ
opad = 0x5c

-- H(K XOR opad, H(K XOR ipad, text)), 32 bytes
unfoldable pub hmac_of : List ℕ → List ℕ → List ℕ
hmac_of key text = sha256_of (masked opad (key_block key) ++ sha256_of (masked ipad (key_block key) ++ text))

-- what is left of the key in a tag: the hash values behind its masked blocks, where both passes go on (RFC 2104 section 4). `tag_of_key`
-- (proofs/Masking.antt) says that a tag by the states of a key is the tag under the key
unfoldable pub states_of : List ℕ → KeyStates
states_of key =
    record { inner = compressed initial (masked ipad (key_block key)); outer = compressed initial (masked opad (key_block key)) }

-- the digest of a block that h stands for and a message behind it
unfoldable pub digest_behind : List ℕ → List ℕ → List ℕ
digest_behind h message = digested h (message ++ padding (64 + length message))

unfoldable pub tag_by : KeyStates → List ℕ → List ℕ
tag_by s text = digest_behind s.outer (digest_behind s.inner text)
