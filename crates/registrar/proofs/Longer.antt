-- Demand 3's second half in words that people can use: how much longer than the exact wait is long enough, as a part of that wait. Of every call that keeps
-- what REGISTER promises (specs/Promises.antt), in its caller's words: `register` by its answer, `unglassot_register` by its number. Where the terms have a floor,
-- that is stayed too; REGISTER's is 0.
use mathlib.Core.List.{List}
use Prim.Native.Nat.{ℕ, ◌*◌, ◌≤◌, zero-le}
use native.Mathlib.Omega.{arith}
use Rattle.octets.specs.Counting.{passing_below}
use Rattle.octets.specs.Numbers.{number, bytes}
use Rattle.octets.specs.Runs.{part}
use Rattle.settings.specs.Settings.{lifetime}
use Rattle.record.specs.Ads.{body_of}
use Rattle.cache.specs.declared.Shape.{Shape}
use Rattle.cache.specs.Chunks.{chunks, joined, keep, count}
use Rattle.cache.specs.Cache.{capacity_of, head_of, entries, cache_of}
use Rattle.load.specs.Counts.{counts, counts_in, similarity}
use Rattle.wait.specs.Wait.{ticks_per_milli, parts, share, under}
use Rattle.wait.specs.Exact.{roundings, exact_top, exact_under, stayed_longer}
use Rattle.wait.proofs.Laws.{longer_past}
use Rattle.checks.specs.declared.Terms.{Terms}
use Rattle.checks.specs.Request.{Request}
use Rattle.admission.specs.Registered.{Registered}
use Rattle.admission.specs.Admission.{bits}
use Rattle.admission.specs.Deciding.{IsConfirmed, counts_for, stayed, LongerFor}
use Rattle.registrar.specs.Registering.{registered}
use Rattle.registrar.specs.Promises.{Returning, Words, words, Kept}
use Rattle.registrar.proofs.Demand.{due_where, promised}
use Rattle.registrar.proofs.Examples.{usual, shape, sound, ad, past, same_cache, past_stayed, past_returns}
use Rattle.cache.specs.declared.Family.{Family}
use Rattle.cache.specs.declared.Family.TheVariants.{V4, V6}

module _ (A : Type 0) (told : Registered → A) (says : Words A) (sh : Shape) (t : Terms) (q : Request) (answer : A) (cache reply : List ℕ)
    (kept : Kept A told says sh t q answer cache reply) (returns : Returning sh t q) (low : t.floor ≤ stayed q) where
  by_part : (k d : ℕ) → 1 ≤ d → roundings * parts * d ≤ ticks_per_milli * lifetime * k → LongerFor k d sh q (stayed q) → says.Confirms answer
  by_part k d some enough longer =
      kept.not_late returns
      (due_where t.floor sh q
      (longer_past (bits sh) (capacity_of q.cache) (counts_for sh q).live (counts_for sh q).service (counts_for sh q).similarity k d (stayed q) some enough longer) low)

  -- whoever has stayed the exact wait, 11/(8192 · 0.09) of it, which is 275/18432, and 1 ms is confirmed
  pub longer_confirmed : LongerFor 275 18432 sh q (stayed q) → says.Confirms answer
  longer_confirmed = by_part 275 18432 (omega arith) (omega arith)

  -- so whoever has stayed 1.5 % longer than the exact wait, and 1 ms, is
  pub percent_confirmed : LongerFor 15 1000 sh q (stayed q) → says.Confirms answer
  percent_confirmed = by_part 15 1000 (omega arith) (omega arith)

-- there is such a call in a cache of each family: `past`, which comes back 2 ms after it asked, to an exact wait of 0.09 ms
pub past_longer : (f : Family) → LongerFor 15 1000 (shape f) (past f) (stayed (past f))
unfolding ad past cache_of head_of joined number bytes part body_of entries chunks counts_in counts count keep similarity passing_below stayed_longer exact_top exact_under share under
past_longer V4 = rw (past_stayed V4, same_cache V4) (omega arith)
past_longer V6 = rw (past_stayed V6, same_cache V6) (omega arith)

pub past_by_percent : (f : Family) → IsConfirmed (registered (shape f) usual (past f)).answer
past_by_percent f =
    percent_confirmed Registered (λ r. r) words (shape f) usual (past f) _ _ _ (promised (shape f) usual (past f) (sound f)) (past_returns f) zero-le (past_longer f)
