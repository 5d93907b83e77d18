-- A service identifier (document 01, "Records"): the SHA-256 of a protocol ID of 1 to 255 bytes. Refusal 2 for the buffer, then 12.
use Rattle.std.specs.Prelude.{ℕ, not, List, [], ◌∷◌, eqb, leb, length}
use Rattle.octets.specs.Runs.{both}
use Rattle.sha256.specs.Digest.{sha256_of}
use Rattle.record.specs.Layout.{identifier_size}
use Rattle.record.specs.Refusals.{Row, row, refusal, Reply, replied}

abbrev pub longest_protocol : ℕ
longest_protocol = 255

unfoldable pub identifier_rows : List ℕ → List ℕ → List Row
identifier_rows protocol out =
    row 2 (not (eqb (length out) identifier_size))
    ∷ row 12 (not (both (leb 1 (length protocol)) (leb (length protocol) longest_protocol)))
    ∷ []

unfoldable pub identified : List ℕ → List ℕ → Reply
identified protocol out = replied (refusal (identifier_rows protocol out)) (sha256_of protocol) out
