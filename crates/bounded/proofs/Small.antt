-- REGISTER with lower bounds under the small-registrar profile (document 02, order 14): the full registrar's answer, cache, bounds and reply unless refused by 20,
-- and refusal 1 where C is above 64, which stands before 18.
use mathlib.Core.Path.{◌≡◌, ◌∙◌}
use mathlib.Core.List.{List}
use Prim.Native.Nat.{ℕ}
use native.Mathlib.Omega.{arith}
use Rattle.settings.specs.Settings.{usual_window}
use Rattle.cache.specs.declared.Shape.{Shape}
use Rattle.cache.specs.Cache.{small, shape_of, entries, Served, TooLarge}
use Rattle.cache.proofs.Small.{shape_most}
use Rattle.load.specs.Counts.{counts_in}
use Rattle.checks.specs.Request.{Request, terms, small_terms}
use Rattle.admission.specs.Registered.{Refused}
use Rattle.admission.specs.Admission.{wait_in}
use Rattle.admission.specs.Deciding.{refusal_of, used_for, outcome}
use Rattle.registrar.proofs.Small.{served_same, large_refused, unjudged_same}
use Rattle.bounded.specs.Bounded.{terms_for, registered_bounded, bounds_after, bounds_left}
use Rattle.bounded.proofs.Consequences.{refused_leaves_bounds}

module _ (b : List ℕ) (q : Request) where
  abbrev sh : Shape
  sh = shape_of q.cache

  -- "A small registrar has rules of its own." It has not: from a cache that it serves, unless refused by 20, the answer, the cache, the bounds and the reply are those
  -- of the full registrar under the usual window
  pub record SameBounded : Type 0 where
    pub answer : registered_bounded (small sh) small_terms b q ≡ registered_bounded sh (terms usual_window) b q
    pub bounds : bounds_left (small sh) small_terms b q ≡ bounds_left sh (terms usual_window) b q

  same_outcome : Served sh q.cache → (refusal_of (registered_bounded (small sh) small_terms b q).answer ≡ 20 → ⊥)
      → registered_bounded (small sh) small_terms b q ≡ registered_bounded sh (terms usual_window) b q
  unfolding terms_for
  same_outcome served fresh =
      let same = served_same sh (terms_for sh small_terms b q) q (shape_most q.cache) served in
      same ∙ unjudged_same sh (terms_for sh small_terms b q) q (λ z. fresh (rw same z))

  pub small_bounded_same : Served sh q.cache → (refusal_of (registered_bounded (small sh) small_terms b q).answer ≡ 20 → ⊥) → SameBounded
  unfolding bounds_after used_for terms_for wait_in counts_in entries
  small_bounded_same served fresh =
      let same = same_outcome served fresh in
      record { answer = same; bounds = rw same }

  -- "It serves a cache of any capacity, or tells what is wrong with the bounds first." It does not: C above 64 is refusal 1, and leaves cache, bounds and reply
  pub large_bounded_refused : TooLarge sh q.cache → (registered_bounded (small sh) small_terms b q ≡ outcome (Refused 1) q.cache q.reply) × (bounds_left (small sh) small_terms b q ≡ b)
  large_bounded_refused large =
      let e = large_refused sh (terms_for (small sh) small_terms b q) q (shape_most q.cache) large in
      (e, refused_leaves_bounds (small sh) small_terms b q (rw e (omega arith)))
