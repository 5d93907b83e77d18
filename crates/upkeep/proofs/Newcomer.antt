-- What the entry of an ad that is confirmed says (specs/Newcomer.antt).
use mathlib.Core.Path.{◌≡◌, refl, ◌∙◌}
use mathlib.Core.Bool.{true, false}
use mathlib.Core.List.{List}
use Prim.Native.Nat.{ℕ, ◌^◌, ◌<◌}
use native.Mathlib.Omega.{arith}
use lib.ListN.{length}
use borrow.Author.Tests.{eq-eqb}
use Rattle.record.specs.Layout.{ad_size, kind_of, accepted, entry_body, ad_body}
use Rattle.record.specs.Entries.{entry_of}
use Rattle.record.proofs.Entries.{entry_length, entry_accepted, entry_body_lem}
use Rattle.cache.specs.declared.Shape.{Shape}
use Rattle.cache.specs.Cache.{Sound, width, is_entry, is_withdrawn}
use Rattle.upkeep.specs.Newcomer.{newcomer}

-- an entry is this ad, accepted at the clock, and not withdrawn
pub record Entered (sh : Shape) (clock : ℕ) (ad e : List ℕ) : Type 0 where
  pub this_ad : entry_body e ≡ ad_body ad
  pub accepted_now : accepted e ≡ clock
  pub kind_is : kind_of e ≡ sh.kinds.entry
  pub stands : is_withdrawn sh.kinds e ≡ false
  pub long : length e ≡ width sh
  pub held : is_entry sh e ≡ true

-- "Who is confirmed is held as withdrawn, and nobody ever finds it." It is not
pub newcomer_stands : (sh : Shape) (clock : ℕ) (ad : List ℕ) → Sound sh → clock < 2 ^ 64 → length ad ≡ ad_size sh.address → Entered sh clock ad (newcomer sh clock ad)
unfolding entry_of
newcomer_stands sh clock ad sound small size =
    let kind = sh.kinds.entry in
    record {
      this_ad = entry_body_lem kind clock ad;
      accepted_now = entry_accepted kind clock ad small;
      kind_is = refl;
      stands = sound.kinds_differ;
      long = entry_length kind clock ad (omega arith) ∙ omega arith;
      held = rw (eq-eqb kind kind refl);
    }
