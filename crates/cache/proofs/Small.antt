-- The shape of the small-registrar profile (`small`, specs/Cache.antt): it is sound, and what is well formed by it is what is well formed with a capacity of at
-- most 64. The length of an address and the kinds are the full shape's, so that entries, counts and what a call leaves are the same terms by either.
use Rattle.std.proofs.Common.{◌≡◌, ℕ, ◌<◌, ◌≤◌, Bool, true, false, cond, eqb, leb, ◌⊎◌, List, length, replicate, refl, ap, ◌∙◌, inl, inr, arith, le-leb, leb-false, leb-true}
use lib.ListN.{length-replicate}
use borrow.Author.Tests.{lt-leb}
use Rattle.octets.specs.Runs.{both}
use Rattle.octets.proofs.Runs.{both_false}
use Rattle.settings.specs.Settings.{small_capacity}
use Rattle.record.specs.Layout.{kind_of, head_kind_v6}
use Rattle.record.specs.Refusals.{refusal, Reply, reply}
use Rattle.cache.specs.declared.Shape.{Shape}
use Rattle.cache.specs.declared.Family.{Family}
use Rattle.cache.specs.declared.Family.TheVariants.{V4, V6}
use Rattle.cache.specs.Cache.{max_capacity, Sound, ipv4, ipv6, limited, small, shape_for, shape_of, size_of, capacity_of, entries, cache_of, fits, well_formed, Served, TooLarge}
use Rattle.cache.specs.Opening.{capacity_for, opens, opened, opened_as, Opened}
use Rattle.cache.proofs.Contents.{opened_well}
use Rattle.cache.proofs.Shapes.{shape_sound, family_sound, family_told_lem}

pub limited_sound : (most : ℕ) (sh : Shape) → most ≤ max_capacity → Sound sh → Sound (limited most sh)
limited_sound most sh few sound =
    record { address_some = sound.address_some; address_most = sound.address_most; capacity_most = few; kinds_differ = sound.kinds_differ }

pub small_sound : (sh : Shape) → Sound sh → Sound (small sh)
small_sound sh sound = limited_sound _ sh (omega arith) sound

pub small_family_sound : (family : Family) → Sound (small (shape_for family))
small_family_sound family = small_sound (shape_for family) (family_sound family)

pub small_shape_sound : (cache : List ℕ) → Sound (small (shape_of cache))
small_shape_sound cache = small_sound (shape_of cache) (shape_sound cache)

-- at the largest capacity of all it is the shape that a call chooses
pub limited_full : (cache : List ℕ) → limited max_capacity (shape_of cache) ≡ shape_of cache
unfolding shape_of
limited_full cache = go (eqb (kind_of cache) head_kind_v6)
  where
    go : (b : Bool) → limited max_capacity (cond b ipv6 ipv4) ≡ cond b ipv6 ipv4
    go true = refl
    go false = refl

-- ---- every shape that a call chooses has room for as many

pub family_most : (family : Family) → small_capacity ≤ (shape_for family).most
unfolding shape_for
family_most V4 = omega arith
family_most V6 = omega arith

pub shape_most : (cache : List ℕ) → small_capacity ≤ (shape_of cache).most
unfolding shape_of
shape_most cache = go (eqb (kind_of cache) head_kind_v6)
  where
    go : (b : Bool) → small_capacity ≤ (cond b ipv6 ipv4).most
    go true = omega arith
    go false = omega arith

-- ---- what is well formed

both_both : (a b c : Bool) → both (both a b) c ≡ both a (both b c)
both_both true b c = refl
both_both false b c = refl

-- only the limit of a capacity is another
small_fits : (sh : Shape) (n C : ℕ) → small_capacity ≤ sh.most → fits (small sh) n C ≡ both (leb C small_capacity) (fits sh n C)
small_fits sh n C h = go (leb C small_capacity) refl
  where
    go : (b : Bool) → leb C small_capacity ≡ b → fits (small sh) n C ≡ both (leb C small_capacity) (fits sh n C)
    go true e = rw (e, le-leb C sh.most (omega (arith, leb-true C small_capacity e)))
    go false e = rw (e, both_false)

-- well formed under the profile: well formed, and a capacity of at most 64
pub small_well : (sh : Shape) (cache : List ℕ) → small_capacity ≤ sh.most
    → well_formed (small sh) cache ≡ both (leb (capacity_of cache) small_capacity) (well_formed sh cache)
unfolding well_formed entries
small_well sh cache h =
    rw (small_fits sh (length cache) (capacity_of cache) h)
    (both_both (leb (capacity_of cache) small_capacity) (fits sh (length cache) (capacity_of cache)) _)

-- so a cache that the profile serves is as well formed under it as without it
pub served_alike : (sh : Shape) (cache : List ℕ) → small_capacity ≤ sh.most → Served sh cache → well_formed (small sh) cache ≡ well_formed sh cache
served_alike sh cache most served = small_well sh cache most ∙ go (well_formed sh cache) refl
  where
    go : (b : Bool) → well_formed sh cache ≡ b → both (leb (capacity_of cache) small_capacity) b ≡ b
    go true e = rw (le-leb (capacity_of cache) small_capacity (served e))
    go false e = both_false (leb (capacity_of cache) small_capacity)

-- and one that is too large is not
pub large_unwell : (sh : Shape) (cache : List ℕ) → small_capacity ≤ sh.most → TooLarge sh cache → well_formed (small sh) cache ≡ false
large_unwell sh cache most h = small_well sh cache most ∙ rw (lt-leb (capacity_of cache) small_capacity h.large)

-- every other cache is served
pub served_or_large : (sh : Shape) (cache : List ℕ) → Served sh cache ⊎ TooLarge sh cache
served_or_large sh cache = go (well_formed sh cache) (leb (capacity_of cache) small_capacity) refl refl
  where
    go : (w c : Bool) → well_formed sh cache ≡ w → leb (capacity_of cache) small_capacity ≡ c → Served sh cache ⊎ TooLarge sh cache
    go w true e k = inl (λ h. leb-true (capacity_of cache) small_capacity k)
    go true false e k = inr (record { well = e; large = leb-false (capacity_of cache) small_capacity k })
    go false false e k = inl (λ h. let z : ◌≡◌ {A = ℕ} 0 1 = cc in absurd (omega arith))

-- ---- opening

-- "A small registrar opens otherwise." It does not: where the C that fits the length is at most 64, and where none fits, the answer and the cache are those of the
-- full call
pub small_open_same : (family : Family) (cache : List ℕ) → (opens (shape_for family) (length cache) ≡ true → capacity_for (shape_for family) (length cache) ≤ 64)
    → opened_as (small (shape_for family)) cache ≡ opened_as (shape_for family) cache
unfolding opened cache_of
small_open_same family cache served =
    rw (small_fits (shape_for family) (length cache) (capacity_for (shape_for family) (length cache)) (family_most family)
    ∙ go (opens (shape_for family) (length cache)) refl)
  where
    go : (b : Bool) → opens (shape_for family) (length cache) ≡ b → both (leb (capacity_for (shape_for family) (length cache)) small_capacity) b ≡ b
    go true e = rw (le-leb (capacity_for (shape_for family) (length cache)) small_capacity (served e))
    go false e = both_false (leb (capacity_for (shape_for family) (length cache)) small_capacity)

-- "It opens any length that the full call does." It does not: a C above 64 is refusal 1, and leaves the bytes as they were
pub large_open_refused : (family : Family) (cache : List ℕ) → 64 < capacity_for (shape_for family) (length cache) → opened_as (small (shape_for family)) cache ≡ reply 1 cache
unfolding refusal
large_open_refused family cache large =
    let C = capacity_for (shape_for family) (length cache) in
    rw (small_fits (shape_for family) (length cache) C (family_most family), lt-leb C small_capacity large)

-- so what is opened under the profile is what the full call opens, and whatever holds from its opening on holds from this one
pub small_opened : (family : Family) (bytes cache : List ℕ) → Opened (small (shape_for family)) bytes 0 cache → Opened (shape_for family) bytes 0 cache
small_opened family bytes cache o = go (leb C small_capacity) refl
  where
    C : ℕ
    C = capacity_for (shape_for family) (length bytes)

    go : (b : Bool) → leb C small_capacity ≡ b → Opened (shape_for family) bytes 0 cache
    go true e =
        let same = small_open_same family bytes (λ h. leb-true C small_capacity e) in
        record { answered = o.answered ∙ ap (λ (r : Reply). r.number) same; leaves = o.leaves ∙ ap (λ (r : Reply). r.buffer) same }
    go false e =
        let z : ◌≡◌ {A = ℕ} 0 1 = o.answered ∙ ap (λ (r : Reply). r.number) (large_open_refused family bytes (leb-false C small_capacity e)) in
        absurd (omega arith)

-- ---- such caches, of either family: with 64 slots, the most that the profile opens, and opened with 65

-- so many slots fit their length, and no other number does
record Fits (family : Family) (C : ℕ) : Type 0 where
  fit : opens (shape_for family) (size_of (shape_for family) C) ≡ true
  slots : capacity_for (shape_for family) (size_of (shape_for family) C) ≡ C

fits_both : (family : Family) → Fits family 64 × Fits family 65
unfolding shape_for
fits_both V4 = (record { fit = refl; slots = refl }, record { fit = refl; slots = refl })
fits_both V6 = (record { fit = refl; slots = refl }, record { fit = refl; slots = refl })

abbrev pub unopened : Family → ℕ → List ℕ
unopened family C = replicate (size_of (shape_for family) C) 0

-- 64 are opened, as `small_open_same` asks
pub opens_64 : (family : Family) → (opens (shape_for family) (length (unopened family 64)) ≡ true) × (capacity_for (shape_for family) (length (unopened family 64)) ≤ 64)
opens_64 family = let f = (fits_both family).0 in rw length-replicate (f.fit, omega (arith, f.slots))

pub open_as_the_full : (family : Family) → opened_as (small (shape_for family)) (unopened family 64) ≡ opened_as (shape_for family) (unopened family 64)
open_as_the_full family = small_open_same family (unopened family 64) (λ h. (opens_64 family).1)

-- 65 are not, and a cache that has them is too large for the profile, as the other calls' laws ask
abbrev pub opened_65 : Family → List ℕ
opened_65 family = opened (shape_for family) (unopened family 65)

pub too_large : (family : Family) → TooLarge (shape_of (opened_65 family)) (opened_65 family)
too_large family =
    let long : length (unopened family 65) ≡ size_of (shape_for family) 65 = rw length-replicate in
    let f = (fits_both family).1 in
    let left = opened_well (shape_for family) (unopened family 65) (family_sound family) (rw long f.fit) in
    let slots = rw long at left.reads.capacity in
    record { well = rw (family_told_lem family (opened_65 family) left.well) left.well; large = omega (arith, slots, f.slots) }
