-- `bounded::seed_of` meets its contract.
use mathlib.Core.Path.{◌≡◌, ◌∙◌}
use Prim.Native.Nat.{ℕ, ◌≤◌, ◌<◌}
use mathlib.Core.List.{List}
use lib.ListN.{length}
use borrow.Author.Tests.{le-leb, lt-leb, eq-eqb, ne_eqb}
use Rattle.octets.specs.Numbers.{number}
use Rattle.octets.specs.Runs.{part}
use Rattle.settings.specs.Settings.{key_size}
use Rattle.sha256.specs.Digest.{sha256_of}
use Rattle.bounded.specs.Looking.{seed_of}
use Rattle.bounded.proofs.seed_of.Goals as goal

few : (used : ℕ) (key : List ℕ) → used < 2 → ◌≡◌ {A = ℕ} 0 (seed_of used key)
unfolding seed_of
few used key h = rw (lt-leb 2 used h)

other_length : (used : ℕ) (key : List ℕ) → 2 ≤ used → (length key ≡ key_size → ⊥) → ◌≡◌ {A = ℕ} 0 (seed_of used key)
unfolding seed_of
other_length used key h d = rw (le-leb 2 used h, ne_eqb (length key) key_size d)

digested : (used : ℕ) (key : List ℕ) (r : ℕ) → 2 ≤ used → length key ≡ key_size → r ≡ number (part 0 8 (sha256_of key)) → r ≡ seed_of used key
unfolding seed_of
digested used key r h e k = k ∙ rw (le-leb 2 used h, eq-eqb (length key) key_size e)

pub returns-then-used-lt2 : goal.returns-then-used-lt2
returns-then-used-lt2 c = few _ _ c.if-used-lt2.true

pub returns-then-key-ne-KEY_SIZE : goal.returns-then-key-ne-KEY_SIZE
returns-then-key-ne-KEY_SIZE c = other_length _ _ c.if-used-lt2.false c.if-key-ne-KEY_SIZE.true

pub returns : goal.returns
returns c =
    digested _ _ c.read_u64.result c.if-used-lt2.false c.if-key-ne-KEY_SIZE.false (rw c.sha256-digest.ensures at c.read_u64.ensures)
