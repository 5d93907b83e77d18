-- SHA-256 of a message of bytes: the padding of FIPS 180-4 section 5.1.1, the initial value of 5.3.3 and the computation of 6.2.2, with lengths counted in bytes.
use Rattle.std.specs.Prelude.{ℕ, zero, suc, ◌+◌, ◌-◌, ◌*◌, ◌/◌, ◌%◌, ◌^◌, List, [], ◌∷◌, ◌++◌, length, take, drop, replicate}
use Rattle.octets.specs.Numbers.{bytes}
use Rattle.compression.specs.Compression.{compressed}

-- section 5.1.1: a byte 0x80, the fewest zeros that fill up to eight bytes short of a block, and the length in bits, eight bytes. FIPS 180-4
-- stops at lengths below 2^64; a length past that is written modulo 2^64 (document 01, "Records")
unfoldable pub zero_fill : ℕ → ℕ
zero_fill len = (64 + 55 - len % 64) % 64

unfoldable pub padding : ℕ → List ℕ
padding len = 0x80 ∷ (replicate (zero_fill len) 0 ++ bytes 8 (8 * len % 2 ^ 64))

abbrev pub padded : List ℕ → List ℕ
padded message = message ++ padding (length message)

-- section 5.3.3: the initial hash value
abbrev pub initial : List ℕ
initial = 0x6a09e667 ∷ 0xbb67ae85 ∷ 0x3c6ef372 ∷ 0xa54ff53a ∷ 0x510e527f ∷ 0x9b05688c ∷ 0x1f83d9ab ∷ 0x5be0cd19 ∷ []

-- section 6.2.2: the hash value after n blocks
unfoldable pub absorbed : ℕ → List ℕ → List ℕ → List ℕ
absorbed zero h message = h
absorbed (suc n) h message = absorbed n (compressed h (take 64 message)) (drop 64 message)

-- the words of the last hash value as bytes
unfoldable pub octets_of : List ℕ → List ℕ
octets_of [] = []
octets_of (w ∷ ws) = bytes 4 w ++ octets_of ws

-- the digest of what follows once a hash value h stands for the blocks before it: the blocks of the list in order
unfoldable pub digested : List ℕ → List ℕ → List ℕ
digested h blocks = octets_of (absorbed (length blocks / 64) h blocks)

-- section 6.2: the digest of a message, 32 bytes
unfoldable pub sha256_of : List ℕ → List ℕ
sha256_of message = digested initial (padded message)
