-- What REGISTER promises of a call, in one record: its answer, the cache and the reply on every input, the answer's numbers in document 01's words, and
-- demand 3 in its own, over the call's own inputs: who is confirmed, and who is not.
use Rattle.std.specs.Prelude.{◌≡◌, true, false, cond, List, ℕ, zero, suc, ◌-◌, ◌≤◌, ◌<◌, min, eqb, ltb}
use Rattle.octets.specs.Runs.{both}
use Rattle.settings.specs.Settings.{lifetime}
use Rattle.record.specs.Refusals.{refusal}
use Rattle.cache.specs.declared.Shape.{Shape}
use Rattle.checks.specs.declared.Terms.{Terms}
use Rattle.checks.specs.Request.{Request, brought}
use Rattle.admission.specs.Registered.{Registered}
use Rattle.admission.specs.Deciding.{refusal_of, IsConfirmed, answered_wait, used_for, stayed, register_rows, Full, NotFull, ExactFor, PastFor}
use Rattle.registrar.specs.Registering.{registered}

-- none of the call's refusal conditions is true (document 01: it passes every check)
abbrev pub Passes : Shape → Terms → Request → Type 0
Passes sh t q = refusal (register_rows sh t q) ≡ 0

-- a return that passes every check, at a registrar that is not full of live entries
pub record Returning (sh : Shape) (t : Terms) (q : Request) : Type 0 where
  pub passes : Passes sh t q
  pub brings : brought q ≡ true
  pub free : NotFull sh q

-- it has stayed at least the exact wait + 1 ms + f·11/8192 ms, and at least the floor where the terms have one (document 02, order 12)
abbrev pub DueOver : ℕ → Shape → Request → Type 0
DueOver zero sh q = PastFor sh q (stayed q)
DueOver (suc floor) sh q = PastFor sh q (stayed q) × (suc floor ≤ stayed q)

abbrev pub Due : Shape → Terms → Request → Type 0
Due sh t q = DueOver t.floor sh q

-- WAIT's number (document 01, "REGISTER, step by step"): of a call that passes every check and has not stayed the wait that is used, the smaller of the
-- lifetime and what is left of that wait; 0 of every other
abbrev pub wait_number : Shape → Terms → Request → ℕ
wait_number sh t q =
    cond (both (eqb (refusal (register_rows sh t q)) 0) (ltb (stayed q) (used_for sh t q))) (min lifetime (used_for sh t q - stayed q)) 0

-- an answer in document 01's words: the refusal's number, 0 for none; that it is CONFIRMED; WAIT's number, 0 for none
pub record Words (A : Type 0) : Type 1 where
  pub refuses : A → ℕ
  pub Confirms : A → Type 0
  pub waits : A → ℕ

-- the call was answered `answer`, in its caller's words `told`, which say in document 01's what `says` says
pub record Kept (A : Type 0) (told : Registered → A) (says : Words A) (sh : Shape) (t : Terms) (q : Request) (answer : A) (cache reply : List ℕ) : Type 0 where
  pub answered : answer ≡ told (registered sh t q).answer
  pub cache_left : cache ≡ (registered sh t q).cache
  pub reply_left : reply ≡ (registered sh t q).reply
  -- the number is that of the first refusal whose condition is true
  pub refused : says.refuses answer ≡ refusal (register_rows sh t q)
  -- who waits is told how long
  pub waits : says.waits answer ≡ wait_number sh t q
  -- nobody who stayed less than the exact wait is confirmed
  pub not_early : Returning sh t q → (ExactFor sh q (stayed q) → ⊥) → says.Confirms answer → ⊥
  -- nor is anybody who stayed less than the floor
  pub not_below_floor : stayed q < t.floor → says.Confirms answer → ⊥
  -- everybody who stayed at least the exact wait + 1 ms + f·11/8192 ms is, and at least the floor where there is one
  pub not_late : Returning sh t q → Due sh t q → says.Confirms answer
  -- a registrar full of live entries confirms nobody
  pub full_confirms_none : Full sh q → says.Confirms answer → ⊥
  -- a first request is never confirmed
  pub first_never_confirmed : brought q ≡ false → says.Confirms answer → ⊥

-- of the answer as it is
abbrev pub words : Words Registered
words = record { refuses = refusal_of; Confirms = IsConfirmed; waits = answered_wait }

abbrev pub Promised : Shape → Terms → Request → Registered → List ℕ → List ℕ → Type 0
Promised sh t q answer cache reply = Kept Registered (λ r. r) words sh t q answer cache reply
