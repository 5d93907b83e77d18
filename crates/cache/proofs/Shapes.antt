-- Every shape that a call chooses is sound; and what is well formed by a shape that the kind of a head tells has that kind, so that a call leaves a cache of the
-- family that it was given.
use Rattle.std.proofs.Common.{◌≡◌, ℕ, Bool, true, false, cond, eqb, List, [], ◌∷◌, length, refl, arith, ne_eqb}
use Rattle.record.specs.Layout.{kind_of, head_kind_v6}
use Rattle.cache.specs.declared.Family.{Family}
use Rattle.cache.specs.declared.Family.TheVariants.{V4, V6}
use Rattle.cache.specs.Cache.{Sound, ipv4, ipv6, shape_for, shape_of, well_formed}
use Rattle.cache.proofs.Cache.{well_formed_lem}

pub ipv4_sound : Sound ipv4
ipv4_sound = record { address_some = omega arith; address_most = omega arith; capacity_most = omega arith; kinds_differ = refl }

pub ipv6_sound : Sound ipv6
ipv6_sound = record { address_some = omega arith; address_most = omega arith; capacity_most = omega arith; kinds_differ = refl }

pub family_sound : (family : Family) → Sound (shape_for family)
unfolding shape_for
family_sound V4 = ipv4_sound
family_sound V6 = ipv6_sound

-- the one that a kind tells
told : (b : Bool) → Sound (cond b ipv6 ipv4)
told true = ipv6_sound
told false = ipv4_sound

pub shape_sound : (cache : List ℕ) → Sound (shape_of cache)
unfolding shape_of
shape_sound cache = told (eqb (kind_of cache) head_kind_v6)

-- by the kind of a head
pub of_six : (cache : List ℕ) → kind_of cache ≡ head_kind_v6 → ipv6 ≡ shape_of cache
unfolding shape_of
of_six cache h = rw h

pub of_four : (cache : List ℕ) → (kind_of cache ≡ head_kind_v6 → ⊥) → ipv4 ≡ shape_of cache
unfolding shape_of
of_four cache h = rw (ne_eqb _ _ h)

pub of_none : (cache : List ℕ) → length cache ≡ 0 → ipv4 ≡ shape_of cache
unfolding shape_of
of_none [] h = refl
of_none (b ∷ cache) h = absurd (omega arith)

-- what has the kind of a shape's head
told_again : (b : Bool) (left : List ℕ) → kind_of left ≡ (cond b ipv6 ipv4).kinds.head → shape_of left ≡ cond b ipv6 ipv4
unfolding shape_of
told_again true left h = rw h
told_again false left h = rw h

-- what a call leaves, well formed by the shape of what it was given, has that shape again
pub same_shape : (cache left : List ℕ) → well_formed (shape_of cache) left ≡ true → shape_of left ≡ shape_of cache
unfolding shape_of
same_shape cache left h =
    told_again (eqb (kind_of cache) head_kind_v6) left (well_formed_lem (cond (eqb (kind_of cache) head_kind_v6) ipv6 ipv4) left h).reads.kind

-- a cache that is well formed by a family's shape is of that family
pub family_told_lem : (family : Family) (cache : List ℕ) → well_formed (shape_for family) cache ≡ true → shape_of cache ≡ shape_for family
unfolding shape_for
family_told_lem V4 cache h = told_again false cache (well_formed_lem ipv4 cache h).reads.kind
family_told_lem V6 cache h = told_again true cache (well_formed_lem ipv6 cache h).reads.kind
