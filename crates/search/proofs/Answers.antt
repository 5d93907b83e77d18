-- The refusals of a search (specs/Newest.antt): all of the first cache's, then all of the second's; and what follows where none applies.
use mathlib.Core.Path.{◌≡◌, refl}
use mathlib.Core.Bool.{true}
use mathlib.Core.List.{List}
use Prim.Native.Nat.{ℕ}
use Rattle.record.specs.Refusals.{refusal}
use Rattle.cache.specs.declared.Shape.{Shape}
use Rattle.cache.specs.Cache.{well_formed}
use Rattle.cache.specs.Rows.{cache_rows, clock_rows}
use Rattle.listing.specs.Listing.{buffer_size, length_rows, rows, ask_rows}
use Rattle.listing.proofs.Promises.{clear}
use Rattle.search.specs.Newest.{search_rows_as}
use Rattle.record.proofs.Segments.{numbered, first_rows, rows_behind, none_of}

pub ask_numbered : (sh : Shape) (cache : List ℕ) (clock : ℕ) (s : List ℕ) → numbered (ask_rows sh cache clock s) ≡ true
unfolding rows cache_rows length_rows clock_rows
ask_numbered sh cache clock s = refl

-- both caches are well formed where nothing is refused
pub record Asked (a b : Shape) (first second : List ℕ) : Type 0 where
  pub near : well_formed a first ≡ true
  pub far : well_formed b second ≡ true

module _ (near far : Shape) (first second : List ℕ) (clock : ℕ) (s : List ℕ) where
  -- "The second cache's refusal is told before the first's." It is not: a refusal of the first cache is the answer, whatever the second is
  pub first_refused : (refusal (ask_rows near first clock s) ≡ 0 → ⊥) → refusal (search_rows_as near far first second clock s) ≡ refusal (ask_rows near first clock s)
  first_refused h = first_rows (ask_rows near first clock s) (ask_rows far second clock s) h

  pub second_refused : refusal (ask_rows near first clock s) ≡ 0 → refusal (search_rows_as near far first second clock s) ≡ refusal (ask_rows far second clock s)
  second_refused h = rows_behind (ask_rows near first clock s) (ask_rows far second clock s) (ask_numbered near first clock s) h

  pub asked : refusal (search_rows_as near far first second clock s) ≡ 0 → Asked near far first second
  asked h =
      let n = none_of (ask_rows near first clock s) (ask_rows far second clock s) (ask_numbered near first clock s) h in
      record {
        near = (clear near first clock s (buffer_size near) n.here).well;
        far = (clear far second clock s (buffer_size far) n.behind).well;
      }
