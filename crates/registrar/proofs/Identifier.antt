-- What service_id answers, test by test (specs/Identifier.antt).
use mathlib.Core.Path.{◌≡◌, ap}
use mathlib.Core.List.{List}
use Prim.Native.Nat.{ℕ, ◌≤◌, ◌<◌}
use lib.ListN.{length}
use borrow.Author.Tests.{eq-eqb, ne_eqb, le-leb, lt-leb}
use Rattle.sha256.specs.Digest.{sha256_of}
use Rattle.record.specs.Layout.{identifier_size}
use Rattle.record.specs.Refusals.{refusal, reply, replied}
use Rattle.registrar.specs.Identifier.{longest_protocol, identifier_rows, identified}

module _ (protocol id : List ℕ) where
  pub wrong_buffer : (length id ≡ identifier_size → ⊥) → reply 2 id ≡ identified protocol id
  unfolding identified identifier_rows refusal replied
  wrong_buffer h = simp (ne_eqb _ _ h)

  module _ (fits : length id ≡ identifier_size) where
    pub too_short : length protocol < 1 → reply 12 id ≡ identified protocol id
    unfolding identified identifier_rows refusal replied
    too_short h = simp (eq-eqb _ _ fits, lt-leb _ _ h)

    pub too_long : 1 ≤ length protocol → longest_protocol < length protocol → reply 12 id ≡ identified protocol id
    unfolding identified identifier_rows refusal replied
    too_long h k = simp (eq-eqb _ _ fits, le-leb _ _ h, lt-leb _ _ k)

    pub identifies : 1 ≤ length protocol → length protocol ≤ longest_protocol → (left : List ℕ) → left ≡ sha256_of protocol → reply 0 left ≡ identified protocol id
    unfolding identified identifier_rows refusal replied
    identifies h k left e = simp (eq-eqb _ _ fits, le-leb _ _ h, le-leb _ _ k) (ap (λ (b : List ℕ). reply 0 b) e)
