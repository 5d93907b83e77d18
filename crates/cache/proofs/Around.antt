-- Laws of the check in two parts: that of the expired entries and of what stands behind all, and that of the live ones (specs/Check.antt, `around`). The live ones
-- are later than all that are expired, so that the two need not be compared.
use Rattle.std.proofs.Common.{◌≡◌, ℕ, ◌-◌, ◌<◌, ◌≤◌, Bool, true, false, leb, List, [], ◌∷◌, take, drop, refl, ap, ◌∙◌, zero-le, arith, ltb-false, ltb-true, le-leb}
use Rattle.octets.specs.Runs.{both, zeros}
use Rattle.settings.specs.Settings.{lifetime}
use Rattle.record.specs.Layout.{kind_of, accepted}
use Rattle.cache.specs.declared.Kinds.{Kinds}
use Rattle.cache.specs.declared.Shape.{Shape}
use Rattle.cache.specs.Chunks.{first_of}
use Rattle.cache.specs.Cache.{clock_of, count_of, size_of, entries, held_kind, well_formed}
use Rattle.cache.specs.Check.{head_holds, is_in_order, around}
use Rattle.cache.specs.Expiry.{live, gone}
use Rattle.cache.proofs.Check.{check_parts}

-- nothing that is live was accepted before then
abbrev Before : ℕ → ℕ → Type 0
Before clock t = (e : List ℕ) → live clock e ≡ true → t ≤ accepted e

expired_before : (clock : ℕ) (e : List ℕ) → live clock e ≡ false → Before clock (accepted e)
unfolding live
expired_before clock e h f k =
    let g = ltb-false (clock - accepted e) lifetime h in
    let l : clock - accepted f < lifetime = ltb-true (clock - accepted f) lifetime k in
    omega arith

outward : (a b c x y : Bool) → both a (both b (both c (both x y))) ≡ both (both a (both b (both c x))) y
outward false b c x y = refl
outward true false c x y = refl
outward true true false x y = refl
outward true true true x y = refl

-- the first live entry need not be compared with the last that is expired
pub in_order_split : (kinds : Kinds) (last clock t : ℕ) (es : List (List ℕ)) → Before clock t
    → is_in_order kinds last t es ≡ both (is_in_order kinds last t (take (gone clock es) es)) (is_in_order kinds last 0 (drop (gone clock es) es))
unfolding is_in_order first_of
in_order_split kinds last clock t [] h = refl
in_order_split kinds last clock t (e ∷ es) h = go (live clock e) refl (in_order_split kinds last clock (accepted e) es)
  where
    go : (b : Bool) → live clock e ≡ b
        → (Before clock (accepted e) → is_in_order kinds last (accepted e) es ≡ both (is_in_order kinds last (accepted e) (take (gone clock es) es)) (is_in_order kinds last 0 (drop (gone clock es) es)))
        → is_in_order kinds last t (e ∷ es) ≡ both (is_in_order kinds last t (take (gone clock (e ∷ es)) (e ∷ es))) (is_in_order kinds last 0 (drop (gone clock (e ∷ es)) (e ∷ es)))
    go true l i = rw (l, le-leb t (accepted e) (h e l), le-leb 0 (accepted e) zero-le)
    go false l i =
        rw (l, i (expired_before clock e l))
        (outward (held_kind kinds (kind_of e)) (leb t (accepted e)) (leb (accepted e) last) (is_in_order kinds last (accepted e) (take (gone clock es) es)) (is_in_order kinds last 0 (drop (gone clock es) es)))

last_two : (a b c : Bool) → both (both a b) c ≡ both (both a c) b
last_two false b c = refl
last_two true false false = refl
last_two true false true = refl
last_two true true false = refl
last_two true true true = refl

-- a cache is well formed where its head holds, what stands around the live entries, and those
pub well_around : (sh : Shape) (cache : List ℕ) (clock : ℕ) → let g = gone clock (entries sh cache) in
    well_formed sh cache ≡ both (head_holds sh cache) (both (around sh g cache) (is_in_order sh.kinds (clock_of cache) 0 (drop g (entries sh cache))))
well_around sh cache clock =
    let g = gone clock (entries sh cache) in
    check_parts sh cache
    ∙ ap (both (head_holds sh cache))
    (ap (λ (b : Bool). both b (zeros (drop (size_of sh (count_of cache)) cache))) (in_order_split sh.kinds (clock_of cache) clock 0 (entries sh cache) (λ e h. zero-le))
    ∙ last_two (is_in_order sh.kinds (clock_of cache) 0 (take g (entries sh cache))) (is_in_order sh.kinds (clock_of cache) 0 (drop g (entries sh cache))) (zeros (drop (size_of sh (count_of cache)) cache)))
