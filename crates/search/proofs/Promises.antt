-- What a search promises (specs/Newest.antt): what is handed out is live, of the service and not withdrawn, with a stamp not below the oldest that is taken; no other such
-- entry of either cache was accepted later; and where there is one and nothing is refused, something is handed out.
use mathlib.Core.Path.{◌≡◌, refl, sym, ap, ◌∙◌}
use mathlib.Core.Bool.{Bool, true, false, cond}
use mathlib.Core.List.Memᴰ
use mathlib.Core.List.{List, [], ◌∷◌, Memᴰ}
use mathlib.Core.Logic.{⊎_elim}
use Prim.Native.Nat.{ℕ, zero, suc, ◌+◌, ◌≤◌, ◌<◌}
use native.Mathlib.Omega.{arith}
use native.Mathlib.Nat.{le_trans, le_refl}
use lib.Dec.{ltb, leb}
use lib.ListN.{get_or}
use borrow.Author.Tests.{leb-true, leb-false, le-leb, ltb-true, ltb-false}
use Rattle.octets.specs.Runs.{both}
use Rattle.octets.proofs.Runs.{both_true}
use Rattle.record.specs.Layout.{accepted, entry_body, stamp}
use Rattle.cache.specs.declared.Shape.{Shape}
use Rattle.cache.specs.Cache.{count_of, entries, well_formed}
use Rattle.cache.proofs.Cache.{well_formed_lem, length_entries}
use Rattle.listing.specs.Listing.{wanted}
use Rattle.listing.proofs.Promises.{Shown, shown, is_wanted, mem_at}
use Rattle.search.specs.Place.{Best, Nothing, Entry}
use Rattle.search.specs.Newest.{Found, nowhere, in_first, in_second, offers, not_later, newest_from, newest_in, last_of, choice, found}
use Rattle.search.proofs.Last.{NotAfter, best_of, last_is, not_behind, newest_last}

-- ---- none was accepted later

-- there is a newest so far, and it was accepted at t or later
abbrev Covers : Best → ℕ → Type 0
Covers Nothing t = ⊥
Covers (Entry i u) t = t ≤ u

covers_on : (p : List ℕ → Bool) (i t : ℕ) (b : Best) (es : List (List ℕ)) → Covers b t → Covers (newest_from p i b es) t
unfolding newest_from
covers_on p i t b [] h = h
covers_on p i t b (e ∷ es) h = covers_on p (suc i) t (cond (both (p e) (not_later b (accepted e))) (Entry i (accepted e)) b) es (go (p e) b h (not_later b (accepted e)) refl)
  where
    go : (c : Bool) (b : Best) → Covers b t → (d : Bool) → not_later b (accepted e) ≡ d → Covers (cond (both c d) (Entry i (accepted e)) b) t
    go false b k d q = k
    go true b k false q = k
    go true Nothing k true q = absurd k
    go true (Entry j u) k true q = le_trans k (leb-true u (accepted e) q)

covers_in : (p : List ℕ → Bool) (i : ℕ) (b : Best) (es : List (List ℕ)) (e : List ℕ) → Memᴰ e es → p e ≡ true → Covers (newest_from p i b es) (accepted e)
unfolding newest_from
covers_in p i b [] e m h = absurd (Memᴰ.not-nil m)
covers_in p i b (f ∷ es) e m h = ⊎_elim here (λ q. covers_in p (suc i) _ es e q h) (Memᴰ.cases_cons m)
  where
    go : (b : Best) (d : Bool) → not_later b (accepted f) ≡ d → Covers (cond d (Entry i (accepted f)) b) (accepted f)
    go b true q = le_refl (accepted f)
    go Nothing false q = let z : ◌≡◌ {A = ℕ} 0 1 = cc in absurd (omega arith)
    go (Entry j u) false q = let k = leb-false u (accepted f) q in omega arith

    here : e ≡ f → Covers (newest_from p (suc i) (cond (both (p f) (not_later b (accepted f))) (Entry i (accepted f)) b) es) (accepted e)
    here q =
        let t : p f ≡ true = sym (ap p q) ∙ h in
        rw (q, t) (covers_on p (suc i) (accepted f) (cond (not_later b (accepted f)) (Entry i (accepted f)) b) es (go b (not_later b (accepted f)) refl))

-- ---- which one is chosen

-- it is the first's, or the second's, or there is none
pub record FromFirst (a b : Best) (i : ℕ) : Type 0 where
  pub time : ℕ
  pub held : a ≡ Entry i time
  pub other : NotAfter b time

abbrev pub Before : Best → ℕ → Type 0
Before Nothing t = Unit {0}
Before (Entry i u) t = u < t

pub record FromSecond (a b : Best) (j : ℕ) : Type 0 where
  pub time : ℕ
  pub held : b ≡ Entry j time
  pub other : Before a time

differ : {f g : Found} (n : Found → ℕ) → f ≡ g → (n f ≡ n g → ⊥) → ⊥
differ n e h = h (ap n e)

-- a number for each kind of answer
abbrev tag_of : Found → ℕ
tag_of nowhere = 0
tag_of (in_first i) = 1
tag_of (in_second j) = 2

pub from_first : (a b : Best) (i : ℕ) → choice a b ≡ in_first i → FromFirst a b i
from_first Nothing Nothing i e = absurd (differ tag_of e (λ z. omega (arith, z)))
from_first Nothing (Entry j u) i e = absurd (differ tag_of e (λ z. omega (arith, z)))
from_first (Entry k t) Nothing i e = let q : k ≡ i = cc in record { time = t; held = rw q; other = tt }
from_first (Entry k t) (Entry j u) i e = go (ltb t u) refl e
  where
    go : (d : Bool) → ltb t u ≡ d → cond d (in_second j) (in_first k) ≡ in_first i → FromFirst (Entry k t) (Entry j u) i
    go true l q = absurd (differ tag_of q (λ z. omega (arith, z)))
    go false l q = let k₁ : k ≡ i = cc in record { time = t; held = rw k₁; other = ltb-false t u l }

pub from_second : (a b : Best) (j : ℕ) → choice a b ≡ in_second j → FromSecond a b j
from_second Nothing Nothing j e = absurd (differ tag_of e (λ z. omega (arith, z)))
from_second (Entry i t) Nothing j e = absurd (differ tag_of e (λ z. omega (arith, z)))
from_second Nothing (Entry k u) j e = let q : k ≡ j = cc in record { time = u; held = rw q; other = tt }
from_second (Entry i t) (Entry k u) j e = go (ltb t u) refl e
  where
    go : (d : Bool) → ltb t u ≡ d → cond d (in_second k) (in_first i) ≡ in_second j → FromSecond (Entry i t) (Entry k u) j
    go true l q = let k₁ : k ≡ j = cc in record { time = u; held = rw k₁; other = ltb-true t u l }
    go false l q = absurd (differ tag_of q (λ z. omega (arith, z)))

pub from_neither : (a b : Best) → choice a b ≡ nowhere → (a ≡ Nothing) × (b ≡ Nothing)
from_neither Nothing Nothing e = (refl, refl)
from_neither Nothing (Entry j u) e = absurd (differ tag_of e (λ z. omega (arith, z)))
from_neither (Entry i t) Nothing e = absurd (differ tag_of e (λ z. omega (arith, z)))
from_neither (Entry i t) (Entry j u) e = go (ltb t u) e
  where
    go : (d : Bool) → cond d (in_second j) (in_first i) ≡ nowhere → (Entry i t ≡ Nothing) × (Entry j u ≡ Nothing)
    go true q = absurd (differ tag_of q (λ z. omega (arith, z)))
    go false q = absurd (differ tag_of q (λ z. omega (arith, z)))

-- ---- in one cache

abbrev pub entry_at : Shape → List ℕ → ℕ → List ℕ
entry_at sh cache i = get_or (entries sh cache) i []

-- a live entry of the service that is not withdrawn, and whose stamp is not below the oldest
pub record Offered (sh : Shape) (oldest : ℕ) (cache : List ℕ) (clock : ℕ) (s e : List ℕ) : Type 0 where
  pub shows : Shown sh.kinds clock s (entries sh cache) e
  pub stamped : oldest ≤ stamp sh.address (entry_body e)

-- one that passes the test is offered, and one that is offered passes it
is_offered : (sh : Shape) (oldest : ℕ) (cache : List ℕ) (clock : ℕ) (s e : List ℕ) → Memᴰ e (entries sh cache) → offers sh oldest clock s e ≡ true
    → Offered sh oldest cache clock s e
is_offered sh oldest cache clock s e m h =
    let b = both_true (wanted sh.kinds clock s e) (leb oldest (stamp sh.address (entry_body e))) h in
    record { shows = shown sh.kinds clock s (entries sh cache) e m b.0; stamped = leb-true oldest (stamp sh.address (entry_body e)) b.1 }

offered_passes : (sh : Shape) (oldest : ℕ) (cache : List ℕ) (clock : ℕ) (s e : List ℕ) → Offered sh oldest cache clock s e → offers sh oldest clock s e ≡ true
offered_passes sh oldest cache clock s e o =
    rw (is_wanted sh.kinds clock s e o.shows.young o.shows.served o.shows.stands, le-leb oldest (stamp sh.address (entry_body e)) o.stamped)

-- the newest of a cache: it is offered, and of those with its accepted time it is the last in place
pub record Newest (sh : Shape) (oldest : ℕ) (cache : List ℕ) (clock : ℕ) (s : List ℕ) (i t : ℕ) : Type 0 where
  pub inside : i < count_of cache
  pub told : t ≡ accepted (entry_at sh cache i)
  pub offered : Offered sh oldest cache clock s (entry_at sh cache i)
  pub last : (j : ℕ) → j < count_of cache → offers sh oldest clock s (entry_at sh cache j) ≡ true → j ≤ i

module _ (sh : Shape) (oldest : ℕ) (cache : List ℕ) (clock : ℕ) (s : List ℕ) (well : well_formed sh cache ≡ true) where
  -- the last that passes the test
  pub newest_is : newest_in sh oldest cache clock s ≡ best_of 0 (last_of (offers sh oldest clock s) (entries sh cache)) (entries sh cache) Nothing
  newest_is = newest_last (offers sh oldest clock s) (entries sh cache) (well_formed_lem sh cache well).contents.order

  pub newest_of : (i t : ℕ) → newest_in sh oldest cache clock s ≡ Entry i t → Newest sh oldest cache clock s i t
  newest_of i t e = go (last_of (offers sh oldest clock s) (entries sh cache)) refl (sym newest_is ∙ e)
    where
      go : (m : ℕ) → last_of (offers sh oldest clock s) (entries sh cache) ≡ m → best_of 0 m (entries sh cache) Nothing ≡ Entry i t → Newest sh oldest cache clock s i t
      go zero l q = let z : ◌≡◌ {A = ℕ} 0 1 = cc in absurd (omega arith)
      go (suc k) l q =
          let i₁ : 0 + k ≡ i = cc in
          let k₁ : k ≡ i = omega arith in
          let t₁ : accepted (get_or (entries sh cache) k []) ≡ t = cc in
          let f = last_is (offers sh oldest clock s) (entries sh cache) i (l ∙ rw k₁) in
          let long = length_entries sh cache in
          record {
            inside = omega (arith, f.inside);
            told = sym t₁ ∙ rw k₁;
            offered = is_offered sh oldest cache clock s (entry_at sh cache i) (mem_at (entries sh cache) i f.inside) f.passes;
            last = λ j h w. let b = not_behind (offers sh oldest clock s) (entries sh cache) j (omega arith) w in omega (arith, b, l);
          }

-- one that is offered is not accepted after the newest, and there is a newest
offered_covered : (sh : Shape) (oldest : ℕ) (cache : List ℕ) (clock : ℕ) (s e : List ℕ) → Offered sh oldest cache clock s e → Covers (newest_in sh oldest cache clock s) (accepted e)
offered_covered sh oldest cache clock s e o =
    covers_in (offers sh oldest clock s) 0 Nothing (entries sh cache) e o.shows.stored (offered_passes sh oldest cache clock s e o)

covered_not_after : (b : Best) (x t : ℕ) → Covers b x → NotAfter b t → x ≤ t
covered_not_after Nothing x t c h = absurd c
covered_not_after (Entry i u) x t c h = le_trans c h

covered_before : (b : Best) (x t : ℕ) → Covers b x → Before b t → x < t
covered_before Nothing x t c h = absurd c
covered_before (Entry i u) x t c h = omega arith

-- ---- in both caches, where nothing is refused

-- no such entry of a cache was accepted after a time; every one was accepted before it
abbrev pub NoneLater : Shape → ℕ → List ℕ → ℕ → List ℕ → ℕ → Type 0
NoneLater sh oldest cache clock s t = (e : List ℕ) → Offered sh oldest cache clock s e → accepted e ≤ t

abbrev pub AllEarlier : Shape → ℕ → List ℕ → ℕ → List ℕ → ℕ → Type 0
AllEarlier sh oldest cache clock s t = (e : List ℕ) → Offered sh oldest cache clock s e → accepted e < t

pub record InFirst (near far : Shape) (oldest : ℕ) (first second : List ℕ) (clock : ℕ) (s : List ℕ) (i t : ℕ) : Type 0 where
  pub newest : Newest near oldest first clock s i t
  pub mine : NoneLater near oldest first clock s t
  pub other : NoneLater far oldest second clock s t

pub record InSecond (near far : Shape) (oldest : ℕ) (first second : List ℕ) (clock : ℕ) (s : List ℕ) (j t : ℕ) : Type 0 where
  pub newest : Newest far oldest second clock s j t
  pub mine : NoneLater far oldest second clock s t
  pub other : AllEarlier near oldest first clock s t

module _ (near far : Shape) (oldest : ℕ) (first second : List ℕ) (clock : ℕ) (s : List ℕ) where
  -- "A withdrawn, an expired or an older one is handed out." It is not: what is found is live, of the service and not withdrawn, and none such was accepted later
  pub found_first : well_formed near first ≡ true → (i : ℕ) → found near far oldest first second clock s ≡ in_first i → (t : ℕ) × InFirst near far oldest first second clock s i t
  found_first well i e =
      let f = from_first (newest_in near oldest first clock s) (newest_in far oldest second clock s) i e in (
        f.time,
        record {
          newest = newest_of near oldest first clock s well i f.time f.held;
          mine = λ x o. rw f.held at (offered_covered near oldest first clock s x o);
          other = λ x o. covered_not_after (newest_in far oldest second clock s) (accepted x) f.time (offered_covered far oldest second clock s x o) f.other;
        },
      )

  -- the second's is found only where it was accepted after every one of the first's
  pub found_second : well_formed far second ≡ true → (j : ℕ) → found near far oldest first second clock s ≡ in_second j → (t : ℕ) × InSecond near far oldest first second clock s j t
  found_second well j e =
      let f = from_second (newest_in near oldest first clock s) (newest_in far oldest second clock s) j e in (
        f.time,
        record {
          newest = newest_of far oldest second clock s well j f.time f.held;
          mine = λ x o. rw f.held at (offered_covered far oldest second clock s x o);
          other = λ x o. covered_before (newest_in near oldest first clock s) (accepted x) f.time (offered_covered near oldest first clock s x o) f.other;
        },
      )

  -- none is found only where neither cache has one
  pub found_neither : found near far oldest first second clock s ≡ nowhere → (e : List ℕ) → (Offered near oldest first clock s e → ⊥) × (Offered far oldest second clock s e → ⊥)
  found_neither h e =
      let n = from_neither (newest_in near oldest first clock s) (newest_in far oldest second clock s) h in
      (λ o. rw n.0 at (offered_covered near oldest first clock s e o), λ o. rw n.1 at (offered_covered far oldest second clock s e o))
