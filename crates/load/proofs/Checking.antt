-- Laws of the check that counts: which of its parts decides that a cache is not well formed, and what it answers then and else.
use mathlib.Core.Path.{◌≡◌, refl, ◌∙◌}
use mathlib.Core.Bool.{Bool, true, false}
use mathlib.Core.List.{List}
use Prim.Native.Nat.{ℕ}
use Rattle.std.specs.Prelude.{Option, Some, None, is_some, Result, Ok, Err, ok_or}
use Rattle.std.specs.Result.{IsErrAnd}
use lib.ListN.{drop}
use Rattle.octets.proofs.Runs.{both_false}
use Rattle.record.specs.declared.reasons.Refusal.{Refusal}
use Rattle.record.specs.declared.reasons.Refusal.TheVariants.{Cache}
use Rattle.record.specs.Refusals.{refusal}
use Rattle.record.proofs.Refusals.{handed_on}
use Rattle.cache.specs.declared.Shape.{Shape}
use Rattle.cache.specs.Cache.{clock_of, entries, well_formed}
use Rattle.cache.specs.Check.{head_holds, is_in_order, around}
use Rattle.cache.specs.Expiry.{gone}
use Rattle.cache.specs.Rows.{cache_rows}
use Rattle.cache.proofs.Around.{well_around}
use Rattle.load.specs.declared.Counts.{Counts}
use Rattle.load.specs.declared.Same.{Same}
use Rattle.load.specs.Counts.{Tabled, TabledIf}

same_Ok : {f g : Counts} → ◌≡◌ {A = Result Counts Refusal} (Ok f) (Ok g) → f ≡ g
same_Ok e = cc

-- a pass over entries that do not hold
pub none_told : (o : Option Same) (r : Result Counts Refusal) (e : Refusal) → Err e ≡ ok_or o Cache → IsErrAnd r (λ x. x ≡ e) → (is_some o ≡ false) × (r ≡ Err Cache)
none_told None r e k h = (refl, handed_on r e h ∙ cc)
none_told (Some x) r e k h = cc

module _ (sh : Shape) (cache : List ℕ) (clock : ℕ) where
  abbrev live_order : Bool
  live_order = is_in_order sh.kinds (clock_of cache) 0 (drop (gone clock (entries sh cache)) (entries sh cache))

  pub head_ill : head_holds sh cache ≡ false → well_formed sh cache ≡ false
  head_ill h = well_around sh cache clock ∙ rw h

  pub around_ill : around sh (gone clock (entries sh cache)) cache ≡ false → well_formed sh cache ≡ false
  around_ill h = well_around sh cache clock ∙ rw h (both_false (head_holds sh cache))

  pub order_ill : live_order ≡ false → well_formed sh cache ≡ false
  order_ill h = well_around sh cache clock ∙ rw (h, both_false) (both_false (head_holds sh cache))

  pub all_well : head_holds sh cache ≡ true → around sh (gone clock (entries sh cache)) cache ≡ true → live_order ≡ true → well_formed sh cache ≡ true
  all_well h k l = well_around sh cache clock ∙ rw (h, k, l)

  -- where it is not, refusal 1 is all that is told
  pub cache_refused : {s p x left : List ℕ} → well_formed sh cache ≡ false → TabledIf sh cache clock s p x (Err Cache) left
  unfolding cache_rows refusal
  cache_refused h = record { number = rw h; tabled = λ f e. cc }

  -- where it is, what was counted
  pub seen_well : {s p x : List ℕ} {found : Counts} {left : List ℕ} → well_formed sh cache ≡ true → Tabled sh cache clock s p x found left
      → TabledIf sh cache clock s p x (Ok found) left
  unfolding cache_rows refusal
  seen_well {found = found} h t = record { number = rw h; tabled = λ f e. rw (← same_Ok e) t }
