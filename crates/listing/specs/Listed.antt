-- What a listing answers, as the definitions and laws speak of it: a refusal with its number, or how many ads were listed; and which of them the answer of a call is.
use Rattle.std.specs.Prelude.{ℕ, Result, Ok, Err}
use Rattle.record.specs.declared.reasons.Refusal.{Refusal}
use Rattle.record.specs.Refusals.{number_of}

pub data Listed : Type 0 where
  Refused : ℕ → Listed
  Ads : ℕ → Listed

abbrev pub as_listed : Result ℕ Refusal → Listed
as_listed (Ok n) = Ads n
as_listed (Err e) = Refused (number_of e)
