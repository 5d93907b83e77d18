-- What the counters in the head gain (specs/Expiry.antt; document 02, order 8), told from the entries before: `expired` as many as are not live, whatever else a call
-- does, and `confirmed` one where an ad was confirmed, and else none.
use Rattle.std.proofs.Common.{◌≡◌, ℕ, ◌+◌, ◌^◌, ◌<◌, true, List, arith}
use Rattle.cache.specs.declared.Shape.{Shape}
use Rattle.cache.specs.Cache.{counter, confirmed_of, expired_of, entries, well_formed}
use Rattle.cache.specs.Expiry.{expired_in, head_confirmed, head_live}
use Rattle.cache.proofs.Cache.{well_formed_lem}
use Rattle.cache.proofs.Contents.{Left}

-- between two caches so many were confirmed, and so many expired
pub record Gained (before after : List ℕ) (came gone : ℕ) : Type 0 where
  pub confirmed : confirmed_of after ≡ counter (confirmed_of before + came)
  pub expired : expired_of after ≡ counter (expired_of before + gone)

-- the counter of a well-formed cache is a remainder
pub confirmed_small : (sh : Shape) (cache : List ℕ) → well_formed sh cache ≡ true → confirmed_of cache < 2 ^ 64
confirmed_small sh cache well = let s = (well_formed_lem sh cache well).contents.summed in omega arith

module _ (sh : Shape) (clock : ℕ) (before after : List ℕ) (rs : List (List ℕ)) (well : well_formed sh before ≡ true) where
  -- "Who waits is counted as confirmed, and as expired, so that the sum is right." Nobody is: what lets nobody in adds to `expired` alone, exactly those that are not live
  pub expiry_gains : Left sh (head_live sh clock before) rs after → Gained before after 0 (expired_in clock (entries sh before))
  expiry_gains l = let s = confirmed_small sh before well in let r = l.reads in record { confirmed = omega (arith, r.confirmed); expired = r.expired }

  -- and who is confirmed is counted once, beside them
  pub confirmation_gains : Left sh (head_confirmed clock (head_live sh clock before)) rs after → Gained before after 1 (expired_in clock (entries sh before))
  confirmation_gains l = let r = l.reads in record { confirmed = r.confirmed; expired = r.expired }
