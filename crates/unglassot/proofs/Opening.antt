-- Opening under the small-registrar profile (document 02, order 14), as a host asks for it: by the number of a family, whatever number that is.
use mathlib.Core.Path.{◌≡◌, refl}
use mathlib.Core.Bool.{true}
use mathlib.Core.List.{List, []}
use Prim.Native.Nat.{ℕ, ◌≤◌, ◌<◌}
use lib.ListN.{length}
use Rattle.record.specs.Refusals.{reply}
use Rattle.cache.specs.declared.Family.{Family}
use Rattle.cache.specs.declared.Family.TheVariants.{V4, V6}
use Rattle.cache.specs.Cache.{shape_for}
use Rattle.cache.specs.Opening.{capacity_for, opens}
use Rattle.cache.proofs.Small.{small_open_same, large_open_refused, unopened, opens_64}
use Rattle.std.specs.Prelude.{Option, None, Some}
use Rattle.codes.specs.Codes.{family_told}
use Rattle.unglassot.specs.Host.{small_shape_for, opened_told, opened_by, small_opened_by}

-- of a family that was told: the C that fits the length, if one does, is at most 64
abbrev pub OpensSmall : Option Family → List ℕ → Type 0
OpensSmall (Some family) cache = opens (shape_for family) (length cache) ≡ true → capacity_for (shape_for family) (length cache) ≤ 64
OpensSmall None cache = Unit {0}

told_same : (told : Option Family) (cache : List ℕ) → OpensSmall told cache → opened_told small_shape_for told cache ≡ opened_told shape_for told cache
told_same (Some family) cache served = small_open_same family cache served
told_same None cache served = refl

-- "A small registrar opens otherwise." It does not: where the C that fits the length is at most 64 the answer and the cache are those of the full call, and so they are
-- where none fits, and for a number that is no family's: both refuse by 1
pub small_open_same_told : (family : ℕ) (cache : List ℕ) → OpensSmall (family_told family) cache → small_opened_by family cache ≡ opened_by family cache
small_open_same_told family cache served = told_same (family_told family) cache served

-- "It opens any length that the full call does." It does not: C above 64 is refusal 1, and leaves the bytes as they were
pub large_open_refused_told : (n : ℕ) (family : Family) (cache : List ℕ) → family_told n ≡ Some family → 64 < capacity_for (shape_for family) (length cache) → small_opened_by n cache ≡ reply 1 cache
large_open_refused_told n family cache is large = rw is (large_open_refused family cache large)

-- a cache of 64 slots of either family, and a number that is no family's
opens_as_the_full : (small_opened_by 4 (unopened V4 64) ≡ opened_by 4 (unopened V4 64)) × (small_opened_by 6 (unopened V6 64) ≡ opened_by 6 (unopened V6 64)) × (small_opened_by 5 [] ≡ opened_by 5 [])
unfolding family_told
opens_as_the_full =
    (small_open_same_told 4 (unopened V4 64) (λ h. (opens_64 V4).1), small_open_same_told 6 (unopened V6 64) (λ h. (opens_64 V6).1), small_open_same_told 5 [] tt)
