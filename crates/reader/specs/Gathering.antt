-- Gathering a chunk in the caller's buffer: `have` bytes of it are there, and more come from place `at` of a piece, to the end of the chunk or of
-- the piece.
use Rattle.std.specs.Prelude.{ℕ, ◌+◌, ◌-◌, min, ◌≡◌, cond, List, eqb, length, get_or}
use Rattle.octets.specs.Runs.{part, put}
use Rattle.reader.specs.declared.Gathered.{Gathered}

-- the first byte of the chunk, where a byte of it is there or comes
abbrev pub first_of : List ℕ → ℕ → List ℕ → ℕ → ℕ
first_of rest have piece at = cond (eqb have 0) (get_or piece at 0) (get_or rest 0 0)

-- how many bytes come, for a chunk of `size` bytes
abbrev pub comes : ℕ → ℕ → ℕ → List ℕ → ℕ
comes have size at piece = min (size - have) (length piece - at)

-- the bytes that come stand behind those that are there, and the answer tells whether the chunk is whole
pub record Gathering (rest : List ℕ) (have : ℕ) (piece : List ℕ) (at size : ℕ) (r : Gathered) (rest' : List ℕ) : Type 0 where
  pub answers : r ≡ record { whole = eqb (have + comes have size at piece) size; have = have + comes have size at piece; used = at + comes have size at piece }
  pub puts : rest' ≡ put have (part at (comes have size at piece) piece) rest
