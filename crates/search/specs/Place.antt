-- What a search answers, as the definitions and laws speak of it: a refusal with its number, or where the body begins: so many bytes into the first cache or into the second,
-- or in neither; and which of them the answer of a call is. And the newest of one cache: its index and its accepted time.
use Rattle.std.specs.Prelude.{ℕ, Option, None, Some, Result, Ok, Err}
use Rattle.record.specs.declared.reasons.Refusal.{Refusal}
use Rattle.record.specs.Refusals.{number_of}
use Rattle.search.specs.declared.Found.{Found}
use Rattle.search.specs.declared.Found.TheVariants as found
use Rattle.search.specs.declared.Latest.{Latest}

pub data Place : Type 0 where
  Refused : ℕ → Place
  Nowhere : Place
  First : ℕ → Place
  Second : ℕ → Place

abbrev pub as_place : Result (Option Found) Refusal → Place
as_place (Err e) = Refused (number_of e)
as_place (Ok None) = Nowhere
as_place (Ok (Some (found.First at))) = First at
as_place (Ok (Some (found.Second at))) = Second at

pub data Best : Type 0 where
  Nothing : Best
  Entry : ℕ → ℕ → Best

abbrev pub as_best : Option Latest → Best
as_best None = Nothing
as_best (Some e) = Entry e.index e.accepted
