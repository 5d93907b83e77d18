-- Document 02, order 5, points in one walk: what the array adds up to that the one walk over the live entries leaves (`tabulate`, src/lib.rt).
use mathlib.Core.Path.{◌≡◌, sym, ap, ◌∙◌}
use mathlib.Core.Bool.{true}
use mathlib.Core.List.{List}
use Prim.Native.Nat.{ℕ, ◌*◌, ◌+◌, ◌≤◌}
use lib.ListN.{length, drop}
use Rattle.settings.specs.Settings.{last_clock}
use Rattle.cache.specs.declared.Shape.{Shape}
use Rattle.cache.specs.Cache.{Sound, well_formed, clock_of}
use Rattle.cache.specs.Chunks.{count}
use Rattle.similarity.specs.Points.{sum}
use Rattle.load.specs.declared.Counts.{Counts}
use Rattle.load.specs.Counts.{exactly, counts, live_in, totals, totals_in, Tabled, Sums}
use Rattle.load.proofs.Totals.{length_table, totals_all, totals_from}

-- For every well-formed cache, every address and every clock that refusal 3 lets pass: of what the walk answers and leaves, the n + 1 totals sum to
-- c, which is the c that it answers, and for each i from 1 to n those from i up sum to k. n is the number of the address's bits, in every family.
pub one_walk_sums : (sh : Shape) (cache : List ℕ) (clock : ℕ) (x : List ℕ) → Sound sh → well_formed sh cache ≡ true → length x ≡ sh.address
    → clock_of cache ≤ clock → clock ≤ last_clock → (s p : List ℕ) (found : Counts) (left : List ℕ) → Tabled sh cache clock s p x found left
    → Sums sh cache clock x found left
unfolding totals_in totals counts
one_walk_sums sh cache clock x sound well long later early s p found left h =
    let a = sh.address in
    let es = live_in sh cache clock in
    let all : sum left ≡ length es = ap sum h.leaves ∙ totals_all a x es in
    record {
      levels = ap length h.leaves ∙ length_table (λ j. count (exactly a x j) es) (8 * a + 1);
      all = all;
      from_up = λ i k l. ap (λ (ts : List ℕ). sum (drop i ts)) h.leaves ∙ totals_from a x es i k l;
      answered = ap (λ (r : Counts). r.live) h.counted ∙ sym all;
    }
