-- What is not counted: the newcomer, and entries that have expired (document 01, "The wait"); that a withdrawn entry is counted as one that is not (document 02,
-- order 8); and what is: the live entries of the cache.
use mathlib.Core.Path.{◌≡◌, refl, sym, ap, ◌∙◌}
use mathlib.Core.Bool.{Bool, true, false, cond}
use mathlib.Core.List.{List, [], ◌∷◌, map}
use Prim.Native.Nat.{ℕ, ◌*◌, ◌^◌, ◌≤◌}
use native.Mathlib.Omega.{arith}
use lib.ListN.{length, drop, length-map}
use lib.Seq.{drop-drop}
use borrow.Author.Tests.{le-ltb}
use Rattle.octets.specs.Numbers.{number}
use Rattle.octets.specs.Runs.{both, same}
use Rattle.settings.specs.Settings.{last_clock}
use Rattle.record.specs.Layout.{kind_size, time_size, entry_body, service, peer, address, of_pair, ad_body}
use Rattle.cache.specs.declared.Shape.{Shape}
use Rattle.cache.specs.Chunks.{keep, count}
use Rattle.cache.specs.Cache.{Sound, well_formed, clock_of, entries}
use Rattle.cache.specs.Expiry.{live, serves, cleared}
use Rattle.cache.proofs.Contents.{expired_left}
use Rattle.load.specs.declared.Counts.{Counts}
use Rattle.similarity.specs.Bits.{shares}
use Rattle.similarity.specs.Points.{enough}
use Rattle.load.specs.Counts.{entry_of_pair, near, similarity, counts, counts_in, OverEntries}
use Rattle.similarity.proofs.Bits.{passing_none, passing_same}

-- ---- in document 01's words

-- where there is no entry, nothing is counted
pub none_counted_over_none : (a : ℕ) (s p x : List ℕ) → counts a s p x [] ≡ record { live = 0; service = 0; held = 0; similarity = 0 }
unfolding counts count similarity
none_counted_over_none a s p x =
    let none = passing_none (λ i. enough (length {A = List ℕ} []) (count (near a x i) []) i) (8 * a) (λ i h k. le-ltb 0 (0 * 2 ^ i) (omega arith)) in
    ap made none
  where
    made : ℕ → Counts
    made n = record { live = 0; service = 0; held = 0; similarity = n }

count_kept : (p q : List ℕ → Bool) (es : List (List ℕ)) → count p (keep q es) ≡ length (keep (λ e. both (q e) (p e)) es)
unfolding count keep
count_kept p q [] = refl
count_kept p q (e ∷ es) = go (q e) (p e) refl (count_kept p q es)
  where
    rs : List (List ℕ)
    rs = keep (λ e. both (q e) (p e)) es

    go : (b c : Bool) → p e ≡ c → count p (keep q es) ≡ length rs → count p (cond b (e ∷ keep q es) (keep q es)) ≡ length (cond (both b c) (e ∷ rs) rs)
    go true true h r = rw (h, r) (omega arith)
    go true false h r = rw (h, r) (omega arith)
    go false c h r = r

-- "The newcomer counts as one of its service." It does not, nor in c, nor for refusal 6: in every cache, of all that the contract of `count` lets be answered
pub entries_counted : (sh : Shape) (cache : List ℕ) (clock : ℕ) (ad : List ℕ) (found : Counts) → found ≡ counts_in sh cache clock ad → OverEntries sh cache clock ad found
unfolding counts_in counts
entries_counted sh cache clock ad found e =
    let es = entries sh cache in
    record {
      c_is = rw e;
      s_is = rw e (count_kept (serves (service (ad_body ad))) (live clock) es);
      held_is = rw e (count_kept (entry_of_pair (service (ad_body ad)) (peer (ad_body ad))) (live clock) es);
    }

keep_twice : (f : List ℕ → Bool) (es : List (List ℕ)) → keep f (keep f es) ≡ keep f es
unfolding keep
keep_twice f [] = refl
keep_twice f (e ∷ es) = go (f e) refl (keep_twice f es)
  where
    go : (b : Bool) → f e ≡ b → keep f (keep f es) ≡ keep f es → keep f (cond b (e ∷ keep f es) (keep f es)) ≡ cond b (e ∷ keep f es) (keep f es)
    go true h r = rw h (ap (λ (l : List (List ℕ)). e ∷ l) r)
    go false h r = r

-- what is counted is the same before and after the expired entries have left the cache
pub expired_not_counted : (sh : Shape) (cache : List ℕ) (clock : ℕ) (ad : List ℕ) → Sound sh → well_formed sh cache ≡ true → clock_of cache ≤ clock → clock ≤ last_clock
    → counts_in sh (cleared sh clock cache) clock ad ≡ counts_in sh cache clock ad
unfolding counts_in
expired_not_counted sh cache clock ad sound h k l =
    let over = counts sh.address (service (ad_body ad)) (peer (ad_body ad)) (address sh.address (ad_body ad)) in
    ap (λ (es : List (List ℕ)). over (keep (live clock) es)) (expired_left sh clock cache sound h k l).reads.listed
    ∙ ap over (keep_twice (live clock) (entries sh cache))

-- ---- withdrawn or not

-- entries behind their kinds: what is withdrawn gets another kind, and nothing else of it changes
abbrev pub behind_kinds : List (List ℕ) → List (List ℕ)
behind_kinds es = map (drop kind_size) es

count_bodies : (q : List ℕ → Bool) (es : List (List ℕ)) → count (λ e. q (entry_body e)) es ≡ count (λ b. q (drop time_size b)) (behind_kinds es)
unfolding count
count_bodies q [] = refl
count_bodies q (e ∷ es) = rw (drop-drop time_size kind_size e, count_bodies q es)

module _ (es fs : List (List ℕ)) (alike : behind_kinds es ≡ behind_kinds fs) where
  as_many : length es ≡ length fs
  as_many = sym (length-map es (drop kind_size)) ∙ ap length alike ∙ length-map fs (drop kind_size)

  same_bodies : (q : List ℕ → Bool) → count (λ e. q (entry_body e)) es ≡ count (λ e. q (entry_body e)) fs
  same_bodies q = count_bodies q es ∙ ap (count (λ b. q (drop time_size b))) alike ∙ sym (count_bodies q fs)

  -- "What is withdrawn counts no more." It does: of entries that differ in nothing but their kinds the same is counted
  pub withdrawn_counts : (a : ℕ) (s p x : List ℕ) → counts a s p x es ≡ counts a s p x fs
  unfolding counts similarity
  withdrawn_counts a s p x =
      let c : (counts a s p x es).live ≡ (counts a s p x fs).live = as_many in
      let same-service : (counts a s p x es).service ≡ (counts a s p x fs).service = same_bodies (λ b. same (service b) s) in
      let for-six : (counts a s p x es).held ≡ (counts a s p x fs).held = same_bodies (of_pair s p) in
      let points : (counts a s p x es).similarity ≡ (counts a s p x fs).similarity =
      passing_same (λ i. enough (length es) (count (near a x i) es) i) (λ i. enough (length fs) (count (near a x i) fs) i) (8 * a)
      (λ i h k. rw (as_many, same_bodies (λ b. shares (8 * a) i (number (address a b)) (number x)))) in
      rw (points, c, same-service, for-six)
