-- The tickets that REGISTER with lower bounds issued over a run (document 02, order 12), full and under the small-registrar profile, told from its calls, their answers and what they were given.
use Rattle.std.specs.Prelude.{ℕ, ◌≡◌, Bool, not, cond, ◌⊎◌}
use mathlib.Core.List.{List, [], ◌∷◌, Memᴰ}
use Rattle.cache.specs.Cache.{shape_of}
use Rattle.checks.specs.declared.Terms.{Terms}
use Rattle.checks.specs.Request.{Request, request, brought}
use Rattle.admission.specs.Deciding.{answered_wait}
use Rattle.bounded.specs.Bounded.{pair_for, used_within, is_wait}
use Rattle.runs.specs.Runs.{State, terms_under, Call, Answer, Step}
use Rattle.runs.specs.Runs.Call.{register, register_bounded, get_ads, withdraw, newest}
use Rattle.runs.specs.Runs.Answer.{registers, lists, withdraws, finds}

-- a ticket: the pair of service and address that it was issued to, the clock, the wait that was used, the number that it tells, its bytes, and whether the
-- request brought none
pub record Issue : Type 0 where
  pub pair : List ℕ
  pub clock : ℕ
  pub used : ℕ
  pub tells : ℕ
  pub ticket : List ℕ
  pub afresh : Bool

-- of a request, by its answer: WAIT issues one, and nothing else does
abbrev pub issued_to : Terms → List ℕ → Request → Answer → List Issue
issued_to t b q (registers answer reply) =
    let sh = shape_of q.cache in
    cond (is_wait answer)
    (record { pair = pair_for sh q; clock = q.clock; used = used_within sh t b q; tells = answered_wait answer; ticket = reply; afresh = not (brought q) } ∷ [])
    []
issued_to t b q (lists answer list) = []
issued_to t b q (withdraws answer) = []
issued_to t b q (finds answer body) = []

-- by a call that was given what is kept: one, or none
abbrev pub issued_by : Call → State → Answer → List Issue
issued_by (register p window key clock ad vouched ticket reply) s a = []
issued_by (register_bounded p window key clock ad vouched ticket reply) s a = issued_to (terms_under p window) s.bounds (request s.cache key clock ad vouched ticket reply) a
issued_by (get_ads p clock service list) s a = []
issued_by (withdraw p service peer clock vouched) s a = []
issued_by (newest p caches clock service) s a = []

abbrev pub issued : Step → List Issue
issued t = issued_by t.call t.before t.answer

-- of the calls of a run one comes before another
unfoldable pub InOrder : Step → Step → List Step → Type 0
InOrder t u [] = ⊥
InOrder t u (x ∷ xs) = ((t ≡ x) × Memᴰ u xs) ⊎ InOrder t u xs

-- of the tickets of a run one was issued before another
pub record Reissued (i j : Issue) (ts : List Step) : Type 0 where
  pub one : Step
  pub other : Step
  pub ordered : InOrder one other ts
  pub first_issued : Memᴰ i (issued one)
  pub then_issued : Memᴰ j (issued other)
