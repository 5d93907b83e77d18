-- A call of the small-registrar profile (document 02, order 14) is a refusal that changes nothing, or the full call with the usual window: what holds of every run with full calls
-- holds so of runs in which both are mixed.
use mathlib.Core.Path.{◌≡◌, refl}
use mathlib.Core.Bool.{Bool, true, false}
use mathlib.Core.Logic.{⊎_elim}
use mathlib.Core.List.{List, []}
use Prim.Native.Nat.{ℕ, suc, ◌≤◌}
use native.Mathlib.Omega.{arith}
use lib.Dec.{eqb}
use borrow.Author.Tests.{eqb-true, eqb-false}
use Rattle.settings.specs.Settings.{usual_window}
use Rattle.cache.specs.declared.Shape.{Shape}
use Rattle.cache.specs.Cache.{small as small_shape, shape_of, entries, Served}
use Rattle.cache.proofs.Small.{served_or_large}
use Rattle.checks.specs.Request.{Request, request, small_terms}
use Rattle.load.specs.Counts.{counts_in}
use Rattle.withdrawal.specs.Withdrawing.{withdrawal}
use Rattle.withdrawal.proofs.Small.{small_withdraw_same, large_withdraw_refused}
use Rattle.admission.specs.Registered.{Refused}
use Rattle.admission.specs.Admission.{wait_in}
use Rattle.admission.specs.Deciding.{refusal_of, used_for}
use Rattle.registrar.specs.Registering.{outcome, registered_small}
use Rattle.registrar.proofs.Small.{stale_refused, refused_stale, small_register_same, large_register_refused}
use Rattle.bounded.specs.Bounded.{terms_for, registered_bounded, bounds_after}
use Rattle.bounded.proofs.Small.{small_bounded_same, large_bounded_refused}
use Rattle.runs.specs.Runs.{State, Call, Answer, after, said, refusal_in}
use Rattle.runs.specs.Runs.Profile.{full, small}
use Rattle.runs.specs.Runs.Call.{register, register_bounded, withdraw}
use Rattle.runs.specs.Runs.Answer.{registers, lists, withdraws, finds}
use Rattle.runs.specs.Counters.{confirms}
use Rattle.runs.specs.Issued.{issued_by}

-- of two calls on what is kept: the one is turned away, or says what the other says and leaves what it leaves
pub data Profiled (c d : Call) (s : State) : Type 0 where
  turned : 1 ≤ refusal_in (said c s) → confirms (said c s) ≡ false → issued_by c s (said c s) ≡ [] → after c s ≡ s → Profiled c d s
  alike : said c s ≡ said d s → after c s ≡ after d s → ((a : Answer) → issued_by c s a ≡ issued_by d s a) → Profiled c d s

module _ (window : ℕ) (key : List ℕ) (clock : ℕ) (ad : List ℕ) (vouched : Bool) (ticket reply : List ℕ) (s : State) where
  abbrev sh : Shape
  sh = shape_of s.cache

  abbrev q : Request
  q = request s.cache key clock ad vouched ticket reply

  -- ---- REGISTER

  abbrev One : Type 0
  One = Profiled (register small window key clock ad vouched ticket reply) (register full usual_window key clock ad vouched ticket reply) s

  one_refused : (n : ℕ) → registered_small q ≡ outcome (Refused (suc n)) s.cache reply → One
  unfolding said after
  one_refused n e = turned (rw e (omega arith)) (rw e) refl (rw e)

  one_served : Served sh s.cache → (b : Bool) → eqb (refusal_of (registered_small q).answer) 20 ≡ b → One
  unfolding said after
  one_served served true e = one_refused 19 (stale_refused (small_shape sh) small_terms q (refused_stale (small_shape sh) small_terms q (eqb-true _ _ e)))
  one_served served false e = let same = small_register_same q served (eqb-false _ _ e) in alike (rw same) (rw same) (λ a. refl)

  pub register_profiled : One
  register_profiled =
      ⊎_elim (λ served. one_served served _ refl) (λ large. one_refused 0 (large_register_refused q large)) (served_or_large sh s.cache)

  -- ---- with lower bounds

  abbrev Other : Type 0
  Other = Profiled (register_bounded small window key clock ad vouched ticket reply) (register_bounded full usual_window key clock ad vouched ticket reply) s

  other_refused : (n : ℕ) → registered_bounded (small_shape sh) small_terms s.bounds q ≡ outcome (Refused (suc n)) s.cache reply → Other
  unfolding said after bounds_after
  other_refused n e = turned (rw e (omega arith)) (rw e) (rw e) (rw e)

  -- of one answer the same ticket is told
  same_issues : (a : Answer)
      → issued_by (register_bounded small window key clock ad vouched ticket reply) s a ≡ issued_by (register_bounded full usual_window key clock ad vouched ticket reply) s a
  unfolding used_for terms_for
  same_issues (registers answer left) = refl
  same_issues (lists answer list) = refl
  same_issues (withdraws answer) = refl
  same_issues (finds answer body) = refl

  other_served : Served sh s.cache → (b : Bool) → eqb (refusal_of (registered_bounded (small_shape sh) small_terms s.bounds q).answer) 20 ≡ b → Other
  unfolding said after bounds_after used_for terms_for wait_in counts_in entries
  other_served served true e =
      let t = terms_for (small_shape sh) small_terms s.bounds q in
      other_refused 19 (stale_refused (small_shape sh) t q (refused_stale (small_shape sh) t q (eqb-true _ _ e)))
  other_served served false e =
      let same = small_bounded_same s.bounds q served (eqb-false _ _ e) in
      alike (rw same.answer) (rw same.answer) same_issues

  pub bounded_profiled : Other
  bounded_profiled =
      ⊎_elim (λ served. other_served served _ refl) (λ large. other_refused 0 (large_bounded_refused s.bounds q large).0) (served_or_large sh s.cache)

-- ---- WITHDRAW

pub withdraw_profiled : (service peer : List ℕ) (clock : ℕ) (vouched : Bool) (s : State)
    → Profiled (withdraw small service peer clock vouched) (withdraw full service peer clock vouched) s
unfolding said after
withdraw_profiled service peer clock vouched s =
    let q = withdrawal s.cache service peer clock vouched in
    ⊎_elim
    (λ served. let same = small_withdraw_same q served in alike (rw same) (rw same) (λ a. refl))
    (λ large. let e = large_withdraw_refused q large in turned (rw e (omega arith)) refl refl (rw e)) (served_or_large (shape_of s.cache) s.cache)
