-- What holds of every run of calls (specs/Runs.antt).
use mathlib.Core.Path.{◌≡◌, refl, ap, ◌∙◌}
use mathlib.Core.Bool.{Bool, true, false}
use mathlib.Core.List.Memᴰ
use mathlib.Core.List.{List, [], ◌∷◌, ◌++◌, map-append, Memᴰ}
use mathlib.Core.Logic.{⊎_elim}
use Prim.Native.Nat.{ℕ, ◌≤◌}
use native.Mathlib.Omega.{arith}
use native.Mathlib.Nat.{le_refl, le_trans}
use lib.ListN.{length}
use Rattle.record.specs.Refusals.{refusal}
use Rattle.cache.specs.declared.Shape.{Shape}
use Rattle.cache.specs.declared.Family.{Family}
use Rattle.cache.specs.Cache.{shape_for, shape_of, clock_of, well_formed}
use Rattle.cache.specs.Opening.{capacity_for, opens, head_opened, Opened}
use Rattle.cache.proofs.Contents.{Left, opened_well}
use Rattle.cache.proofs.Shapes.{family_sound, same_shape, family_told_lem}
use Rattle.runs.specs.Runs.{State, state, Call, Deed, after, said, refusal_in, after_all, Step, step, trace, said_all}
use Rattle.runs.proofs.Effects.{Effect, nothing, expiry, call_effect}
use Rattle.runs.proofs.Bounds.{refused_bounds}

-- ---- a refused call leaves everything that is kept as it was

refused_effect : {sh : Shape} {before after : List ℕ} {takes : List ℕ → Bool} {d : Deed} {n came : ℕ} → Effect sh before takes d n came after → (n ≡ 0 → ⊥) → after ≡ before
refused_effect (nothing n i) h = refl
refused_effect (expiry newer x) h = absurd (h refl)

pub refused_leaves : (c : Call) (s : State) → (refusal_in (said c s) ≡ 0 → ⊥) → after c s ≡ s
refused_leaves c s h = ap (λ (x : List ℕ). state x (after c s).bounds) (refused_effect (call_effect c s) h) ∙ ap (state s.cache) (refused_bounds c s h)

-- ---- a run of some calls and then others

pub after_append : (cs ds : List Call) (s : State) → after_all (cs ++ ds) s ≡ after_all ds (after_all cs s)
unfolding after_all
after_append [] ds s = refl
after_append (c ∷ cs) ds s = after_append cs ds (after c s)

pub trace_append : (cs ds : List Call) (s : State) → trace (cs ++ ds) s ≡ trace cs s ++ trace ds (after_all cs s)
unfolding after_all trace
trace_append [] ds s = refl
trace_append (c ∷ cs) ds s = ap (λ (l : List Step). step c s ∷ l) (trace_append cs ds (after c s))

pub said_append : (cs ds : List Call) (s : State) → said_all (cs ++ ds) s ≡ said_all cs s ++ said_all ds (after_all cs s)
said_append cs ds s = rw (trace_append cs ds s) (map-append (λ (t : Step). t.answer) (trace cs s) (trace ds (after_all cs s)))

-- ---- the family

-- a call leaves a cache of the family that it was given, whatever the cache
pub effect_shape : {before after : List ℕ} {takes : List ℕ → Bool} {d : Deed} {n came : ℕ} → Effect (shape_of before) before takes d n came after → shape_of after ≡ shape_of before
effect_shape (nothing n i) = refl
effect_shape (expiry newer x) = same_shape _ _ x.left.well

-- "A cache has one family, told at opening": every call of a run is given a cache of that family
pub run_shape : (cs : List Call) (s : State) → shape_of (after_all cs s).cache ≡ shape_of s.cache
unfolding after_all
run_shape [] s = refl
run_shape (c ∷ cs) s = run_shape cs (after c s) ∙ effect_shape (call_effect c s)

-- ---- the clock

pub effect_clock : {sh : Shape} {before after : List ℕ} {takes : List ℕ → Bool} {d : Deed} {n came : ℕ} → Effect sh before takes d n came after → clock_of before ≤ clock_of after
effect_clock (nothing n i) = le_refl _
effect_clock (expiry newer x) = omega (arith, x.later, x.left.reads.clocked)

-- "The clock of a cache goes back." It does not
pub run_clock : (cs : List Call) (s : State) → clock_of s.cache ≤ clock_of (after_all cs s).cache
unfolding after_all
run_clock [] s = le_refl _
run_clock (c ∷ cs) s = le_trans (effect_clock (call_effect c s)) (run_clock cs (after c s))

-- ---- a well-formed cache

-- the cache that is kept is well formed
abbrev pub Well : State → Type 0
Well s = well_formed (shape_of s.cache) s.cache ≡ true

effect_well : {before after : List ℕ} {takes : List ℕ → Bool} {d : Deed} {n came : ℕ} → Effect (shape_of before) before takes d n came after
    → well_formed (shape_of before) before ≡ true → well_formed (shape_of after) after ≡ true
effect_well (nothing n i) h = h
effect_well (expiry newer x) h = rw (effect_shape (expiry newer x)) x.left.well

-- stays so over any run
pub run_well : (cs : List Call) (s : State) → Well s → Well (after_all cs s)
unfolding after_all
run_well [] s h = h
run_well (c ∷ cs) s h = run_well cs (after c s) (effect_well (call_effect c s) h)

-- and before and after every call of it
pub run_well_throughout : (cs : List Call) (s : State) → Well s → (t : Step) → Memᴰ t (trace cs s) → Well t.before × Well t.left
unfolding trace
run_well_throughout [] s h t m = absurd (Memᴰ.not-nil m)
run_well_throughout (c ∷ cs) s h t m =
    let w = effect_well (call_effect c s) h in
    ⊎_elim (λ e. rw e (h, w)) (run_well_throughout cs (after c s) w t) (Memᴰ.cases_cons m)

-- ---- from an opening that was not refused, with any lower bounds; one under the small-registrar profile is such a one (`small_opened`, crates/cache/proofs/Small.antt)

module _ (family : Family) (bytes cache : List ℕ) (o : Opened (shape_for family) bytes 0 cache) where
  pub opening_left : Left (shape_for family) (head_opened (capacity_for (shape_for family) (length bytes))) [] cache
  unfolding refusal
  opening_left = go (opens (shape_for family) (length bytes)) refl
    where
      go : (b : Bool) → opens (shape_for family) (length bytes) ≡ b → Left (shape_for family) (head_opened (capacity_for (shape_for family) (length bytes))) [] cache
      go true e = rw (o.leaves, e) (opened_well (shape_for family) bytes (family_sound family) e)
      go false e = let z : ◌≡◌ {A = ℕ} 0 1 = o.answered ∙ rw e in absurd (omega arith)

  told : shape_of cache ≡ shape_for family
  told = family_told_lem family cache opening_left.well

  -- the cache is well formed, and so is what any run from there goes through
  pub opening_well : (bounds : List ℕ) → Well (state cache bounds)
  opening_well bounds = rw told opening_left.well

  pub opened_run_well : (bounds : List ℕ) (cs : List Call) (t : Step) → Memᴰ t (trace cs (state cache bounds)) → Well t.before × Well t.left
  opened_run_well bounds cs = run_well_throughout cs (state cache bounds) (opening_well bounds)

  pub one_family : (bounds : List ℕ) (cs : List Call) → shape_of (after_all cs (state cache bounds)).cache ≡ shape_for family
  one_family bounds cs = run_shape cs (state cache bounds) ∙ told
