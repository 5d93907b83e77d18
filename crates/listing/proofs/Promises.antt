-- What a listing promises (specs/Listing.antt): every listed record is of a live entry of that service that is not withdrawn, and every such entry is listed
-- where there are at most ten.
use mathlib.Core.Path.{◌≡◌, refl, ◌∙◌}
use mathlib.Core.Bool.{Bool, true, not}
use mathlib.Core.List.Memᴰ
use mathlib.Core.List.{List, [], ◌∷◌, Memᴰ}
use mathlib.Core.Logic.{⊎_elim}
use Prim.Native.Nat.{ℕ, zero, suc, ◌-◌, ◌≤◌, ◌<◌}
use native.Mathlib.Omega.{arith}
use native.Mathlib.Nat.{not-suc-le-zero, le_of_suc-le-suc}
use lib.ListN.{length, take, get_or, length-take}
use lib.Seq.{take_all}
use borrow.Author.Tests.{not-true, ltb-true, lt-ltb, eqb-false, ne_eqb}
use Rattle.octets.specs.Runs.{both, same}
use Rattle.octets.proofs.Runs.{both_true, same_true, same_refl}
use Rattle.settings.specs.Settings.{lifetime}
use Rattle.record.specs.Layout.{identifier_size, kind_of, accepted, entry_body, service}
use Rattle.record.specs.Refusals.{refusal}
use Rattle.record.proofs.Refusals.{none_refused, passed, last_passed, agree, not_differ}
use Rattle.record.proofs.Segments.{rows_behind, none_of}
use Rattle.cache.specs.declared.Kinds.{Kinds}
use Rattle.cache.specs.declared.Shape.{Shape}
use Rattle.cache.specs.Chunks.{keep}
use Rattle.cache.specs.Cache.{is_withdrawn, well_formed}
use Rattle.cache.specs.Expiry.{live}
use Rattle.cache.specs.Rows.{cache_rows}
use Rattle.cache.proofs.Chunks.{mem_keep, keep_mem}
use Rattle.cache.proofs.Rows.{well_cache, well_passes, Clocked, clocked, clock_passes}
use Rattle.listing.specs.Listing.{most_listed, buffer_size, length_rows, rows, wanted, chosen}

-- what holds exactly where no refusal applies
pub record Clear (sh : Shape) (cache : List ℕ) (clock : ℕ) (s : List ℕ) (size : ℕ) : Type 0 where
  pub well : well_formed sh cache ≡ true
  pub service_size : length s ≡ identifier_size
  pub sized : size ≡ buffer_size sh
  pub timed : Clocked cache clock

pub clear : (sh : Shape) (cache : List ℕ) (clock : ℕ) (s : List ℕ) (size : ℕ) → refusal (rows sh cache clock s size) ≡ 0 → Clear sh cache clock s size
unfolding rows cache_rows length_rows
clear sh cache clock s size h =
    let a = none_of (cache_rows sh cache) _ refl h in
    let b = none_of (length_rows sh s size) _ refl a.behind in
    let c = none_refused _ _ _ b.here in
    record {
      well = well_cache sh cache a.here;
      service_size = not_differ (length s) identifier_size c.here;
      sized = not_differ size (buffer_size sh) (none_refused _ _ _ c.behind).here;
      timed = clocked cache clock b.behind;
    }

pub clear_passes : (sh : Shape) (cache : List ℕ) (clock : ℕ) (s : List ℕ) (size : ℕ) → Clear sh cache clock s size → refusal (rows sh cache clock s size) ≡ 0
unfolding rows cache_rows length_rows
clear_passes sh cache clock s size c =
    let fit = passed 2 _ (agree (length s) identifier_size c.service_size) ∙ last_passed 2 (agree size (buffer_size sh) c.sized) in
    rows_behind (cache_rows sh cache) _ refl (well_passes sh cache c.well) ∙ rows_behind (length_rows sh s size) _ refl fit ∙ clock_passes cache clock c.timed

-- ---- what is listed

mem_take : (n : ℕ) (es : List (List ℕ)) (e : List ℕ) → Memᴰ e (take n es) → Memᴰ e es
mem_take zero es e m = absurd (Memᴰ.not-nil m)
mem_take (suc n) [] e m = m
mem_take (suc n) (f ∷ es) e m = ⊎_elim (λ q. Memᴰ.head q) (λ q. Memᴰ.tail (mem_take n es e q)) (Memᴰ.cases_cons m)

-- one at an index is one of them
pub mem_at : (es : List (List ℕ)) (i : ℕ) → i < length es → Memᴰ (get_or es i []) es
mem_at [] i h = absurd (not-suc-le-zero h)
mem_at (e ∷ es) zero h = Memᴰ.head refl
mem_at (e ∷ es) (suc i) h = Memᴰ.tail (mem_at es i (le_of_suc-le-suc h))

-- one that is chosen is an entry and passes the test
pub mem_chosen : (p : List ℕ → Bool) (es : List (List ℕ)) (e : List ℕ) → Memᴰ e (take most_listed (keep p es)) → Memᴰ e es × (p e ≡ true)
mem_chosen p es e m = mem_keep p es e (mem_take most_listed (keep p es) e m)

-- a listed entry is one of the cache's, live, of the service, and not withdrawn
pub record Shown (ks : Kinds) (clock : ℕ) (s : List ℕ) (es : List (List ℕ)) (e : List ℕ) : Type 0 where
  pub stored : Memᴰ e es
  pub young : clock - accepted e < lifetime
  pub served : service (entry_body e) ≡ s
  pub stands : kind_of e ≡ ks.withdrawn → ⊥

-- an entry of the cache that passes the test is such a one, and such a one passes it
pub shown : (ks : Kinds) (clock : ℕ) (s : List ℕ) (es : List (List ℕ)) (e : List ℕ) → Memᴰ e es → wanted ks clock s e ≡ true → Shown ks clock s es e
unfolding live
shown ks clock s es e m h =
    let b = both_true (live clock e) (both (same (service (entry_body e)) s) (not (is_withdrawn ks e))) h in
    let d = both_true (same (service (entry_body e)) s) (not (is_withdrawn ks e)) b.1 in
    record {
      stored = m;
      young = ltb-true (clock - accepted e) lifetime b.0;
      served = same_true (service (entry_body e)) s d.0;
      stands = eqb-false (kind_of e) ks.withdrawn (not-true (is_withdrawn ks e) d.1);
    }

pub is_wanted : (ks : Kinds) (clock : ℕ) (s e : List ℕ) → clock - accepted e < lifetime → service (entry_body e) ≡ s → (kind_of e ≡ ks.withdrawn → ⊥) → wanted ks clock s e ≡ true
unfolding live
is_wanted ks clock s e y v o =
    let t : same (service (entry_body e)) s ≡ true = rw v (same_refl s) in
    rw (lt-ltb (clock - accepted e) lifetime y, t, ne_eqb (kind_of e) ks.withdrawn o)

-- an announcement past its time is never listed, nor a withdrawn one, nor one of another service
pub only_wanted : (ks : Kinds) (clock : ℕ) (s : List ℕ) (es : List (List ℕ)) (e : List ℕ) → Memᴰ e (chosen ks clock s es) → Shown ks clock s es e
unfolding chosen
only_wanted ks clock s es e m =
    let k = mem_chosen (wanted ks clock s) es e m in
    shown ks clock s es e k.0 k.1

-- where there are at most ten, every live entry of the service that is not withdrawn is listed, however many withdrawn ones stand before it
pub all_wanted : (ks : Kinds) (clock : ℕ) (s : List ℕ) (es : List (List ℕ)) (e : List ℕ) → length (keep (wanted ks clock s) es) ≤ most_listed
    → Memᴰ e es → clock - accepted e < lifetime → service (entry_body e) ≡ s → (kind_of e ≡ ks.withdrawn → ⊥) → Memᴰ e (chosen ks clock s es)
unfolding chosen
all_wanted ks clock s es e h m y v o =
    rw (take_all most_listed (keep (wanted ks clock s) es) h) (keep_mem (wanted ks clock s) es e m (is_wanted ks clock s e y v o))

-- and never more than ten
pub few_listed : (ks : Kinds) (clock : ℕ) (s : List ℕ) (es : List (List ℕ)) → length (chosen ks clock s es) ≤ most_listed
unfolding chosen
few_listed ks clock s es = rw length-take (omega arith)
