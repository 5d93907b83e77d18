-- What is true exactly where refusals 1 and 3 are not given (specs/Rows.antt).
use Rattle.std.proofs.Common.{◌≡◌, ℕ, ◌≤◌, true, List, length, sym, ◌∙◌, arith, ltb-false, le-ltb}
use borrow.Author.Tests.{not-false}
use Rattle.settings.specs.Settings.{last_clock}
use Rattle.record.specs.Refusals.{refusal}
use Rattle.record.proofs.Refusals.{none_refused, passed, last_passed}
use Rattle.cache.specs.declared.Shape.{Shape}
use Rattle.cache.specs.Cache.{head_size, Sound, well_formed, clock_of}
use Rattle.cache.specs.Rows.{cache_rows, clock_rows}
use Rattle.cache.proofs.Check.{sound_head}

pub well_cache : (sh : Shape) (cache : List ℕ) → refusal (cache_rows sh cache) ≡ 0 → well_formed sh cache ≡ true
unfolding cache_rows
well_cache sh cache e = not-false _ (none_refused _ _ _ e).here

pub well_passes : (sh : Shape) (cache : List ℕ) → well_formed sh cache ≡ true → refusal (cache_rows sh cache) ≡ 0
unfolding cache_rows
well_passes sh cache well = last_passed 1 (rw well)

-- where 1 is not told, the head is there to be read
pub head_there : {r : ℕ} (sh : Shape) (cache : List ℕ) → Sound sh → r ≡ refusal (cache_rows sh cache) → r ≡ 0 → head_size ≤ length cache
head_there sh cache sound e z = let f = sound_head sh cache sound (well_cache sh cache (sym e ∙ z)) in omega (arith, f.size)

pub record Clocked (cache : List ℕ) (clock : ℕ) : Type 0 where
  pub from : clock_of cache ≤ clock
  pub to : clock ≤ last_clock

pub clocked : (cache : List ℕ) (clock : ℕ) → refusal (clock_rows cache clock) ≡ 0 → Clocked cache clock
unfolding clock_rows
clocked cache clock e =
    let p1 = none_refused _ _ _ e in
    record { from = ltb-false _ _ p1.here; to = ltb-false _ _ (none_refused _ _ _ p1.behind).here }

pub clock_passes : (cache : List ℕ) (clock : ℕ) → Clocked cache clock → refusal (clock_rows cache clock) ≡ 0
unfolding clock_rows
clock_passes cache clock c = passed 3 _ (le-ltb clock (clock_of cache) c.from) ∙ last_passed 3 (le-ltb last_clock clock c.to)
