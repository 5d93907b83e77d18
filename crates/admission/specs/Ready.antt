-- What is true of a call of REGISTER that has no refusal, as far as the answer is made from it.
use Rattle.std.specs.Prelude.{ℕ, ◌≤◌, ◌≡◌, true, List, length}
use Rattle.settings.specs.Settings.{last_clock}
use Rattle.record.specs.Layout.{ad_size, ticket_size}
use Rattle.cache.specs.declared.Shape.{Shape}
use Rattle.cache.specs.Cache.{Sound, clock_of, well_formed}
use Rattle.checks.specs.Request.{Request}

pub record Ready (sh : Shape) (cache : List ℕ) (clock : ℕ) (ad reply : List ℕ) : Type 0 where
  pub sound : Sound sh
  pub well : well_formed sh cache ≡ true
  pub later : clock_of cache ≤ clock
  pub early : clock ≤ last_clock
  pub ad_size_lem : length ad ≡ ad_size sh.address
  pub reply_size : length reply ≡ ticket_size

abbrev pub ReadyFor : Shape → Request → Type 0
ReadyFor sh q = Ready sh q.cache q.clock q.ad q.reply
