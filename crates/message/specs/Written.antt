-- What writing a message answers: a refusal with its number, or the length of the message that was written.
use Rattle.std.specs.Prelude.{ℕ, Result, Ok, Err}
use Rattle.record.specs.declared.reasons.Refusal.{Refusal}
use Rattle.record.specs.Refusals.{number_of}

pub data Written : Type 0 where
  Refused : (number : ℕ) → Written
  Length : (length : ℕ) → Written

-- what the code's answer says
abbrev pub as_written : Result ℕ Refusal → Written
as_written (Ok n) = Length n
as_written (Err e) = Refused (number_of e)
