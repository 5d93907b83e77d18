-- What the wait is made from is in its range, in every well-formed cache.
use mathlib.Core.Path.{◌≡◌, refl}
use mathlib.Core.Bool.{true}
use mathlib.Core.List.{List}
use Prim.Native.Nat.{ℕ}
use native.Mathlib.Omega.{arith}
use lib.ListN.{length}
use Rattle.cache.specs.Chunks.{keep}
use Rattle.cache.proofs.Chunks.{count_le, keep_le}
use Rattle.record.specs.Layout.{service, address, ad_body}
use Rattle.cache.specs.declared.Shape.{Shape}
use Rattle.cache.specs.Cache.{Sound, capacity_of, entries, well_formed}
use Rattle.cache.specs.Expiry.{live, serves}
use Rattle.cache.proofs.Cache.{well_formed_lem}
use Rattle.load.specs.Counts.{counts, counts_in}
use Rattle.load.proofs.Totals.{similarity_le}
use Rattle.wait.specs.Wait.{InRange}
use Rattle.admission.specs.Admission.{bits}

pub in_range : (sh : Shape) (cache : List ℕ) (clock : ℕ) (ad : List ℕ) → Sound sh → well_formed sh cache ≡ true
    → InRange (bits sh) (capacity_of cache) (counts_in sh cache clock ad).live (counts_in sh cache clock ad).service (counts_in sh cache clock ad).similarity
unfolding counts_in counts
in_range sh cache clock ad sound well =
    let h = (well_formed_lem sh cache well).contents in
    let c = keep_le (live clock) (entries sh cache) in
    let s = count_le (serves (service (ad_body ad))) (keep (live clock) (entries sh cache)) in
    record {
      some_bits = omega (arith, sound.address_some);
      few_bits = omega (arith, sound.address_most);
      some_capacity = h.some;
      few_capacity = omega (arith, h.most, sound.capacity_most);
      occupied = omega (arith, h.enough);
      serving = omega (arith, h.enough);
      similar = similarity_le sh.address (address sh.address (ad_body ad)) (keep (live clock) (entries sh cache));
    }

-- those that are live
pub counts_live : (sh : Shape) (cache : List ℕ) (clock : ℕ) (ad : List ℕ) → (counts_in sh cache clock ad).live ≡ length (keep (live clock) (entries sh cache))
unfolding counts_in counts
counts_live sh cache clock ad = refl
