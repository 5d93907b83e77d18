-- REGISTER's answer as the definitions speak of it, with the number of a refusal, and an answer of the code as one of those.
use Rattle.std.specs.Prelude.{ℕ, Result, Ok, Err}
use Rattle.times.specs.declared.Millis.{Millis}
use Rattle.record.specs.declared.reasons.Refusal.{Refusal}
use Rattle.record.specs.Refusals.{number_of}
use Rattle.admission.specs.declared.Decision.{Decision}
use Rattle.admission.specs.declared.Decision.TheVariants as decision

-- CONFIRMED and WAIT tell last how many held entries changed their place in the call
pub data Registered : Type 0 where
  Refused : ℕ → Registered
  Confirmed : ℕ → Registered
  Wait : Millis → ℕ → Registered

abbrev pub as_decided : Decision → Registered
as_decided (decision.Confirmed k) = Confirmed k
as_decided (decision.Wait m k) = Wait m k

abbrev pub as_registered : Result Decision Refusal → Registered
as_registered (Ok d) = as_decided d
as_registered (Err e) = Refused (number_of e)
