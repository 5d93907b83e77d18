-- What a listing promises under the small-registrar profile (specs/Listing.antt; document 02, order 14), of its answer and of the buffer that it leaves.
use mathlib.Core.Path.{◌≡◌, refl, sym, ap, ◌∙◌}
use mathlib.Core.Bool.{true}
use mathlib.Core.List.Memᴰ
use mathlib.Core.List.{List, [], ◌∷◌, Memᴰ}
use mathlib.Core.Logic.{⊎_elim}
use Prim.Native.Nat.{ℕ, suc, ◌-◌, ◌≤◌, ◌<◌, suc-le-suc}
use native.Mathlib.Omega.{arith}
use native.Mathlib.Nat.{not-suc-le-zero}
use lib.ListN.{length, take, get_or}
use lib.Seq.{take_all}
use borrow.Author.Tests.{leb-true, le-leb}
use Rattle.octets.specs.Runs.{put}
use Rattle.octets.proofs.Runs.{both_true}
use Rattle.settings.specs.Settings.{stamp_age}
use Rattle.times.specs.Times.{oldest_stamp}
use Rattle.record.specs.Layout.{ad_body, entry_body, stamp}
use Rattle.record.specs.Refusals.{refusal}
use Rattle.record.specs.Entries.{listed}
use Rattle.record.proofs.Refusals.{refused}
use Rattle.cache.specs.declared.Shape.{Shape}
use Rattle.cache.specs.Chunks.{keep}
use Rattle.cache.specs.Cache.{shape_of, small, entries, Served, TooLarge}
use Rattle.cache.specs.Rows.{cache_rows}
use Rattle.cache.proofs.Chunks.{keep_mem}
use Rattle.cache.proofs.Small.{shape_most, served_alike, large_unwell}
use Rattle.listing.specs.Listed.{Listed, Refused, Ads}
use Rattle.listing.specs.Listing.{refusal_of, number_of, most_listed, length_rows, rows, wanted, not_older, wanted_since, chosen_since, as_ads, answer_of, buffer_of, Got, GotSince, SmallGot}
use Rattle.listing.proofs.Promises.{Clear, clear, Shown, is_wanted, mem_chosen, mem_at}
use Rattle.listing.proofs.Buffer.{record_at, written_at, chosen_wide}
use Rattle.listing.proofs.Since.{since_wanted, first_not_older}

-- ---- refusals

-- of a cache that the profile serves its table is the full one
pub same_rows : (cache : List ℕ) (clock : ℕ) (s : List ℕ) (size : ℕ) → Served (shape_of cache) cache
    → rows (small (shape_of cache)) cache clock s size ≡ rows (shape_of cache) cache clock s size
unfolding rows cache_rows length_rows
same_rows cache clock s size served = rw (served_alike (shape_of cache) cache (shape_most cache) served)

-- one that is too large is refused by 1
pub large_rows : (cache : List ℕ) (clock : ℕ) (s : List ℕ) (size : ℕ) → TooLarge (shape_of cache) cache → refusal (rows (small (shape_of cache)) cache clock s size) ≡ 1
unfolding rows cache_rows
large_rows cache clock s size large = refused 1 _ (rw (large_unwell (shape_of cache) cache (shape_most cache) large))

-- ---- an answer without a refusal

-- what is then told and written
record Lists (sh : Shape) (oldest : ℕ) (cache : List ℕ) (clock : ℕ) (s list : List ℕ) (answer : Listed) (left : List ℕ) : Type 0 where
  clear_of : Clear sh cache clock s (length list)
  told : number_of answer ≡ length (chosen_since sh.address oldest sh.kinds clock s (entries sh cache))
  wrote : left ≡ put 0 (as_ads sh.kinds.ad (chosen_since sh.address oldest sh.kinds clock s (entries sh cache))) list

lists : (sh : Shape) (oldest : ℕ) (cache : List ℕ) (clock : ℕ) (s list : List ℕ) (answer : Listed) (left : List ℕ) → GotSince sh oldest cache clock s list answer left
    → refusal_of answer ≡ 0 → Lists sh oldest cache clock s list answer left
unfolding buffer_of
lists sh oldest cache clock s list answer left g z =
    let e = sym g.refused ∙ z in
    record { clear_of = clear sh cache clock s (length list) e; told = g.told z; wrote = g.leaves ∙ rw e }

-- where something is told, there is none
some_told : (answer : Listed) (i : ℕ) → i < number_of answer → refusal_of answer ≡ 0
some_told (Refused n) i h = absurd (not-suc-le-zero h)
some_told (Ads n) i h = refl

-- the index of an entry among others
record Index (es : List (List ℕ)) (e : List ℕ) : Type 0 where
  index : ℕ
  inside : index < length es
  there : get_or es index [] ≡ e

mem_index : (es : List (List ℕ)) (e : List ℕ) → Memᴰ e es → Index es e
mem_index [] e m = absurd (Memᴰ.not-nil m)
mem_index (f ∷ es) e m =
    ⊎_elim (λ q. record { index = 0; inside = omega arith; there = sym q })
    (λ q. let i = mem_index es e q in record { index = suc i.index; inside = suc-le-suc i.inside; there = i.there }) (Memᴰ.cases_cons m)

-- an advertisement stands in the buffer, among those that are told
pub record ListedIn (sh : Shape) (ad : List ℕ) (answer : Listed) (left : List ℕ) : Type 0 where
  pub index : ℕ
  pub told : index < number_of answer
  pub written : record_at sh index left ≡ ad

-- ---- what is promised of a call

-- the entries of a cache that the full registrar wants and that have not grown older, in order
abbrev pub wanted_not_older : List ℕ → ℕ → List ℕ → List (List ℕ)
wanted_not_older cache clock s = keep (not_older (shape_of cache).address (oldest_stamp clock)) (keep (wanted (shape_of cache).kinds clock s) (entries (shape_of cache) cache))

module _ (cache : List ℕ) (clock : ℕ) (s list : List ℕ) (answer : Listed) (left : List ℕ) (got : SmallGot cache clock s list answer left) where
  -- "A cache of more than 64 slots is listed." It is refused by 1, and the buffer stays
  pub large_refused : TooLarge (shape_of cache) cache → (answer ≡ Refused 1) × (left ≡ list)
  unfolding answer_of buffer_of
  large_refused large =
      let e = large_rows cache clock s (length list) large in
      (got.answered ∙ rw e, got.leaves ∙ rw e)

  -- "The profile refuses what the full registrar lists, or lists what it refuses." Of every cache that it serves its refusal is the full registrar's
  pub same_refusal : Served (shape_of cache) cache → (full : Listed) (after : List ℕ) → Got (shape_of cache) cache clock s list full after → refusal_of answer ≡ refusal_of full
  same_refusal served full after g = got.refused ∙ ap refusal (same_rows cache clock s (length list) served) ∙ sym g.refused

  -- what is listed are the first ten of those that the full registrar wants and that have not grown older
  pub first_ten : refusal_of answer ≡ 0
      → let es = take most_listed (wanted_not_older cache clock s) in (number_of answer ≡ length es) × (left ≡ put 0 (as_ads (shape_of cache).kinds.ad es) list)
  unfolding entries
  first_ten z =
      let l = lists (small (shape_of cache)) (oldest_stamp clock) cache clock s list answer left got z in
      let e = first_not_older (shape_of cache).address (oldest_stamp clock) (shape_of cache).kinds clock s (entries (shape_of cache) cache) in
      (rw e at l.told, rw e at l.wrote)

  -- "An advertisement that has grown older is listed." No stamp in the buffer is more than thirty days before the clock
  pub none_older_listed : (i : ℕ) → i < number_of answer → clock - stamp (shape_of cache).address (ad_body (record_at (shape_of cache) i left)) ≤ stamp_age
  unfolding chosen_since listed
  none_older_listed i h =
      let sh = small (shape_of cache) in
      let p = wanted_since sh.address (oldest_stamp clock) sh.kinds clock s in
      let es = take most_listed (keep p (entries sh cache)) in
      let l = lists sh (oldest_stamp clock) cache clock s list answer left got (some_told answer i h) in
      let k : i < length es = rw l.told at h in
      let there : record_at sh i left ≡ listed sh.kinds.ad (get_or es i []) =
      ap (record_at sh i) l.wrote ∙ written_at sh list es (chosen_wide sh cache p l.clear_of.well) i k in
      let w = (mem_chosen p (entries sh cache) (get_or es i []) (mem_at es i k)).1 in
      let passes = (both_true (wanted sh.kinds clock s (get_or es i [])) (not_older sh.address (oldest_stamp clock) (get_or es i [])) w).1 in
      let young : oldest_stamp clock ≤ stamp sh.address (entry_body (get_or es i [])) = leb-true _ _ passes in
      let body : ad_body (record_at sh i left) ≡ entry_body (get_or es i []) = ap ad_body there in
      rw body (omega arith)

  -- "One that has not grown older is left out", as one whose stamp is after the clock, or for the sake of older ones that stand before it. Where there are at most ten of
  -- them, every entry that the full registrar wants and that has not grown older is listed
  pub not_older_listed : refusal_of answer ≡ 0 → length (wanted_not_older cache clock s) ≤ most_listed
      → (e : List ℕ) → Shown (shape_of cache).kinds clock s (entries (shape_of cache) cache) e → clock - stamp (shape_of cache).address (entry_body e) ≤ stamp_age
      → ListedIn (shape_of cache) (listed (shape_of cache).kinds.ad e) answer left
  unfolding chosen_since entries
  not_older_listed z few e held young =
      let sh = shape_of cache in
      let all = wanted_not_older cache clock s in
      let l = first_ten z in
      let ten : take most_listed all ≡ all = take_all most_listed all few in
      let w = is_wanted sh.kinds clock s e held.young held.served held.stands in
      let n : not_older sh.address (oldest_stamp clock) e ≡ true = le-leb (oldest_stamp clock) (stamp sh.address (entry_body e)) (omega arith) in
      let i = mem_index all e (keep_mem (not_older sh.address (oldest_stamp clock)) _ e (keep_mem (wanted sh.kinds clock s) (entries sh cache) e held.stored w) n) in
      let well = (lists (small sh) (oldest_stamp clock) cache clock s list answer left got z).clear_of.well in
      let wide = rw (since_wanted sh.address (oldest_stamp clock) sh.kinds clock s (entries sh cache)) at (chosen_wide (small sh) cache (wanted_since sh.address (oldest_stamp clock) sh.kinds clock s) well) in
      record {
        index = i.index;
        told = rw (l.0, ten) i.inside;
        written = rw (l.1, ten) (written_at (small sh) list all (rw ten at wide) i.index i.inside) ∙ ap (listed sh.kinds.ad) i.there;
      }
