-- The wire format of Protocol Buffers, in the words of its documentation ("Encoding"). A message is its fields one behind the other; a field is its
-- tag and what its wire type says.
use Rattle.std.specs.Prelude.{ℕ, zero, suc, ◌+◌, ◌*◌, ◌/◌, ◌%◌, ◌≡◌, cond, List, [], ◌∷◌, ◌++◌, ltb, length}
use Rattle.octets.specs.Runs.{put}

-- a varint of at most n bytes, the shortest: seven bits of the number in each byte, lowest first; the continuation bit, 128, says that more follow
unfoldable pub varint_in : ℕ → ℕ → List ℕ
varint_in zero x = []
varint_in (suc n) x = cond (ltb x 128) (x ∷ []) ((x % 128 + 128) ∷ varint_in n (x / 128))

-- ten bytes are enough for every number of 64 bits
abbrev pub most_varint : ℕ
most_varint = 10

unfoldable pub varint : ℕ → List ℕ
varint x = varint_in most_varint x

-- the number in the payloads of these bytes, whatever their continuation bits are
unfoldable pub varint_value : List ℕ → ℕ
varint_value [] = 0
varint_value (b ∷ bs) = b % 128 + 128 * varint_value bs

-- the wire types that are used: VARINT, and LEN for a length-delimited field
abbrev pub wire_varint : ℕ
wire_varint = 0

abbrev pub wire_len : ℕ
wire_len = 2

-- a tag, which is a key in older pages: the field's number and its wire type, the latter in the lowest three bits
unfoldable pub tag : ℕ → ℕ → List ℕ
tag field wireType = varint (field * 8 + wireType)

-- a VARINT field: its tag and a varint
unfoldable pub varint_field : ℕ → ℕ → List ℕ
varint_field field x = tag field wire_varint ++ varint x

-- a LEN field: its tag, the length of its bytes as a varint, and the bytes
unfoldable pub len_field : ℕ → List ℕ → List ℕ
len_field field bs = tag field wire_len ++ (varint (length bs) ++ bs)

-- bytes written from a place on, and the place behind them
pub record Placed (at : ℕ) (bs before : List ℕ) (next : ℕ) (after : List ℕ) : Type 0 where
  pub behind : next ≡ at + length bs
  pub leaves : after ≡ put at bs before
