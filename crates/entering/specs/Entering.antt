-- What a ticket leaves in the bounds (document 02, order 12: "floors with until ≤ now are dropped first, the pair's own is rewritten in place, a new one goes
-- last"), what a pair's bound is, and when there is no place for a new one (refusal 19).
use Rattle.std.specs.Prelude.{ℕ, ◌+◌, ◌-◌, ◌*◌, ◌≤◌, max, Bool, not, cond, List, [], ◌∷◌, ◌++◌, eqb, ltb, length, replicate}
use Rattle.octets.specs.Runs.{both}
use Rattle.settings.specs.Settings.{lifetime}
use Rattle.record.specs.Layout.{bound_size, until, ad_body, service, address}
use Rattle.cache.specs.Chunks.{joined, keep, first_of}
use Rattle.entering.specs.declared.Standing.{Standing}
use Rattle.bounds.specs.Bounds.{bound_of, is_of, places, bounds_in, among}

-- the pair of an advertisement
unfoldable pub pair_in : ℕ → List ℕ → List ℕ
pair_in a ad = service (ad_body ad) ++ address a (ad_body ad)

-- a pair's until, 0 where it has no bound
unfoldable pub until_in : ℕ → List ℕ → List (List ℕ) → ℕ
until_in a k [] = 0
until_in a k (r ∷ rs) = cond (is_of a k r) (until a r) (until_in a k rs)

-- a bound is in force while its until is after the clock
abbrev pub in_force : ℕ → ℕ → List ℕ → Bool
in_force a clock r = ltb clock (until a r)

abbrev pub in_force_in : ℕ → ℕ → List ℕ → List (List ℕ)
in_force_in a clock b = keep (in_force a clock) (bounds_in a b)

-- the pair's own rewritten in place, or a new one behind the others
unfoldable pub written : ℕ → List ℕ → ℕ → List (List ℕ) → List (List ℕ)
written a k u [] = bound_of k u ∷ []
written a k u (r ∷ rs) = cond (is_of a k r) (bound_of k u ∷ rs) (r ∷ written a k u rs)

-- a buffer of n places with these records
unfoldable pub bounds_of : ℕ → ℕ → List (List ℕ) → List ℕ
bounds_of a n rs = joined rs ++ replicate (bound_size a * (n - length rs)) 0

-- the bounds once a ticket is issued to the pair at the clock
unfoldable pub entered : ℕ → ℕ → List ℕ → ℕ → List ℕ → List ℕ
entered a clock k u b = bounds_of a (places a b) (written a k u (in_force_in a clock b))

-- the pair has a bound, in force or not
abbrev pub bounded : ℕ → List ℕ → List ℕ → Bool
bounded a k b = among a k (bounds_in a b)

-- 19: the pair has no bound, and every place has one in force
unfoldable pub crowded : ℕ → ℕ → List ℕ → List ℕ → Bool
crowded a clock k b = both (not (bounded a k b)) (eqb (length (in_force_in a clock b)) (places a b))

-- ---- what the records tell of a pair

-- its until, where among those in force its own stands (behind them where there is none), and how many are in force
unfoldable pub standing_in : ℕ → ℕ → List ℕ → List (List ℕ) → Standing
standing_in a clock k rs =
    record {
      until = until_in a k rs;
      place = first_of (is_of a k) (keep (in_force a clock) rs);
      force = length (keep (in_force a clock) rs);
    }

-- ---- an earlier ticket of a pair, and the bounds since

-- a ticket issued at t for u, the wait used cut to the lifetime, is owed: the later of the pair's until and the clock is not before t + u
pub record Owed (a : ℕ) (k : List ℕ) (t u clock : ℕ) (b : List ℕ) : Type 0 where
  pub before : t ≤ clock
  pub cut : u ≤ lifetime
  pub owed : t + u ≤ max (until_in a k (bounds_in a b)) clock
