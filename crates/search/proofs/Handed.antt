-- What the calls hand out (specs/Newest.antt), in a searcher's words, of the full registrar and of the small-registrar profile (document 02, order 14): what is handed out
-- is the body of an entry of one of the two caches that may be handed out, and none that may was accepted later; and where there is one, something is handed out.
use mathlib.Core.Path.{◌≡◌, refl, sym, ap, ◌∙◌}
use mathlib.Core.Logic.{◌⊎◌, inl, inr, ⊎_elim}
use mathlib.Core.List.{List, [], ◌++◌}
use Prim.Native.Nat.{ℕ, zero, suc, ◌-◌, ◌≤◌, ◌<◌, zero-le}
use native.Mathlib.Omega.{arith}
use native.Mathlib.Nat.{not-suc-le-zero}
use lib.ListN.{length}
use Rattle.settings.specs.Settings.{stamp_age}
use Rattle.times.specs.Times.{oldest_stamp}
use Rattle.record.specs.Layout.{accepted, entry_body, stamp}
use Rattle.record.specs.Refusals.{Row, refusal}
use Rattle.cache.specs.declared.Shape.{Shape}
use Rattle.cache.specs.Cache.{Sound, shape_of, small, entries, Served, TooLarge}
use Rattle.cache.proofs.Shapes.{shape_sound}
use Rattle.cache.proofs.Small.{small_shape_sound}
use Rattle.listing.specs.Listing.{buffer_size, ask_rows}
use Rattle.listing.proofs.Promises.{Shown}
use Rattle.listing.proofs.Small.{same_rows, large_rows}
use Rattle.search.specs.Place.{Place, Refused, Nowhere, First, Second}
use Rattle.search.specs.Newest.{Found, nowhere, in_first, in_second, found, refusal_of, search_rows_as, placed, part_at, newest_body_as, search_rows, newest_at, newest_body, small_search_rows, small_newest_at, small_newest_body}
use Rattle.search.proofs.Answers.{asked, first_refused, second_refused}
use Rattle.search.proofs.Promises.{entry_at, Offered, found_first, found_second}
use Rattle.search.proofs.Parts.{search_refused_exactly, first_body, second_body, not_empty}

-- ---- by caches of any two shapes

-- a body of an entry of one of two caches, A and B telling of each which of its entries may be handed out; none that may was accepted later
pub record HandedOut (A B : List ℕ → Type 0) (body : List ℕ) : Type 0 where
  pub entry : List ℕ
  pub held : A entry ⊎ B entry
  pub its : body ≡ entry_body entry
  pub newest : (e : List ℕ) → A e ⊎ B e → accepted e ≤ accepted entry

-- the same told in other words
in_words : {A B C D : List ℕ → Type 0} {body : List ℕ} → ((e : List ℕ) → A e → C e) → ((e : List ℕ) → C e → A e) → ((e : List ℕ) → B e → D e)
    → ((e : List ℕ) → D e → B e) → HandedOut A B body → HandedOut C D body
in_words a c b d h =
    record {
      entry = h.entry;
      held = ⊎_elim (λ x. inl (a h.entry x)) (λ x. inr (b h.entry x)) h.held;
      its = h.its;
      newest = λ e o. h.newest e (⊎_elim (λ x. inl (c e x)) (λ x. inr (d e x)) o);
    }

module _ (near far : Shape) (oldest : ℕ) (first second : List ℕ) (clock : ℕ) (s : List ℕ) (near-sound : Sound near) (far-sound : Sound far) where
  handed : 0 < length (newest_body_as near far oldest first second clock s)
      → HandedOut (Offered near oldest first clock s) (Offered far oldest second clock s) (newest_body_as near far oldest first second clock s)
  unfolding placed
  handed some = go (refusal (search_rows_as near far first second clock s)) refl (found near far oldest first second clock s) refl
    where
      go : (n : ℕ) → refusal (search_rows_as near far first second clock s) ≡ n → (f : Found) → found near far oldest first second clock s ≡ f
          → HandedOut (Offered near oldest first clock s) (Offered far oldest second clock s) (newest_body_as near far oldest first second clock s)
      go (suc n) z f w = absurd (not-suc-le-zero (rw z at some))
      go zero z nowhere w = absurd (not-suc-le-zero (rw (z, w) at some))
      go zero z (in_first i) w =
          let p = (found_first near far oldest first second clock s (asked near far first second clock s z).near i w).1 in
          let t = p.newest.told in
          record {
            entry = entry_at near first i;
            held = inl p.newest.offered;
            its = first_body near far oldest first second clock s near-sound far-sound z i w;
            newest = λ e o. ⊎_elim (λ x. omega (arith, t, p.mine e x)) (λ x. omega (arith, t, p.other e x)) o;
          }
      go zero z (in_second j) w =
          let p = (found_second near far oldest first second clock s (asked near far first second clock s z).far j w).1 in
          let t = p.newest.told in
          record {
            entry = entry_at far second j;
            held = inr p.newest.offered;
            its = second_body near far oldest first second clock s near-sound far-sound z j w;
            newest = λ e o. ⊎_elim (λ x. omega (arith, t, p.other e x)) (λ x. omega (arith, t, p.mine e x)) o;
          }

-- ---- by the full registrar: every live entry of the service that is not withdrawn, whatever its stamp

abbrev pub Wanted : ℕ → List ℕ → List ℕ → List ℕ → Type 0
Wanted clock s cache e = Shown (shape_of cache).kinds clock s (entries (shape_of cache) cache) e

module _ (first second : List ℕ) (clock : ℕ) (s : List ℕ) where
  pub newest_handed_out : 0 < length (newest_body first second clock s) → HandedOut (Wanted clock s first) (Wanted clock s second) (newest_body first second clock s)
  newest_handed_out some =
      in_words (λ e o. o.shows) (λ e w. record { shows = w; stamped = zero-le }) (λ e o. o.shows) (λ e w. record { shows = w; stamped = zero-le })
      (handed (shape_of first) (shape_of second) 0 first second clock s (shape_sound first) (shape_sound second) some)

  pub some_handed_out : refusal (search_rows first second clock s) ≡ 0 → (e : List ℕ) → Wanted clock s first e ⊎ Wanted clock s second e → 0 < length (newest_body first second clock s)
  some_handed_out none e o =
      not_empty (shape_of first) (shape_of second) 0 first second clock s (shape_sound first) (shape_sound second) none e
      (⊎_elim (λ w. inl (record { shows = w; stamped = zero-le })) (λ w. inr (record { shows = w; stamped = zero-le })) o)

  -- what is handed out is the part that begins at the place that is told
  pub body_at_place : newest_body first second clock s ≡ part_at (shape_of first) (shape_of second) first second (newest_at first second clock s)
  body_at_place = refl

-- ---- under the profile: those of them alone whose stamps are not more than thirty days before the clock

pub record WantedNotOlder (clock : ℕ) (s cache e : List ℕ) : Type 0 where
  pub shows : Wanted clock s cache e
  pub young : clock - stamp (shape_of cache).address (entry_body e) ≤ stamp_age

-- a body has the same length by either shape
same_part : (first second : List ℕ) (p : Place) → part_at (small (shape_of first)) (small (shape_of second)) first second p ≡ part_at (shape_of first) (shape_of second) first second p
same_part first second (Refused n) = refl
same_part first second Nowhere = refl
same_part first second (First at) = refl
same_part first second (Second at) = refl

abbrev Fresh : List ℕ → ℕ → List ℕ → List ℕ → Type 0
Fresh cache clock s e = Offered (small (shape_of cache)) (oldest_stamp clock) cache clock s e

not_older_lem : (cache : List ℕ) (clock : ℕ) (s e : List ℕ) → Fresh cache clock s e → WantedNotOlder clock s cache e
unfolding entries
not_older_lem cache clock s e o = let k = o.stamped in record { shows = o.shows; young = omega arith }

may_go : (cache : List ℕ) (clock : ℕ) (s e : List ℕ) → WantedNotOlder clock s cache e → Fresh cache clock s e
unfolding entries
may_go cache clock s e w = let k = w.young in record { shows = w.shows; stamped = omega arith }

module _ (first second : List ℕ) (clock : ℕ) (s : List ℕ) where
  -- "An advertisement that has grown older is handed out, or one that is not the newest of the others." What is handed out is the newest of those that the full registrar
  -- wants and that have not grown older: its stamp is not more than thirty days before the clock
  pub small_handed_out : 0 < length (small_newest_body first second clock s)
      → HandedOut (WantedNotOlder clock s first) (WantedNotOlder clock s second) (small_newest_body first second clock s)
  small_handed_out some =
      in_words (not_older_lem first clock s) (may_go first clock s) (not_older_lem second clock s) (may_go second clock s)
      (handed (small (shape_of first)) (small (shape_of second)) (oldest_stamp clock) first second clock s (small_shape_sound first) (small_shape_sound second) some)

  -- "One that has not grown older is passed over", as one whose stamp is after the clock. Where nothing is refused and there is one in either cache, something is handed out
  pub small_some_handed_out : refusal (small_search_rows first second clock s) ≡ 0 → (e : List ℕ) → WantedNotOlder clock s first e ⊎ WantedNotOlder clock s second e
      → 0 < length (small_newest_body first second clock s)
  small_some_handed_out none e o =
      not_empty (small (shape_of first)) (small (shape_of second)) (oldest_stamp clock) first second clock s (small_shape_sound first) (small_shape_sound second) none e
      (⊎_elim (λ w. inl (may_go first clock s e w)) (λ w. inr (may_go second clock s e w)) o)

  -- what is handed out is the part that begins at the place that is told
  pub small_body_at_place : small_newest_body first second clock s ≡ part_at (shape_of first) (shape_of second) first second (small_newest_at first second clock s)
  small_body_at_place = same_part first second (small_newest_at first second clock s)

  -- ---- its refusals

  -- the place tells the refusal's number, 0 for none
  pub small_refusal_told : refusal_of (small_newest_at first second clock s) ≡ refusal (small_search_rows first second clock s)
  small_refusal_told = search_refused_exactly (small (shape_of first)) (small (shape_of second)) (oldest_stamp clock) first second clock s

  -- of caches that the profile serves it is the full registrar's
  pub small_same_refusal : Served (shape_of first) first → Served (shape_of second) second → refusal (small_search_rows first second clock s) ≡ refusal (search_rows first second clock s)
  small_same_refusal h k =
      let a = same_rows first clock s (buffer_size (shape_of first)) h in
      let b = same_rows second clock s (buffer_size (shape_of second)) k in
      ap refusal (ap (λ (r : List Row). r ++ ask_rows (small (shape_of second)) second clock s) a ∙ ap (λ (r : List Row). ask_rows (shape_of first) first clock s ++ r) b)

  -- a refusal is told, and nothing is handed out
  told_refused : (n : ℕ) → refusal (small_search_rows first second clock s) ≡ suc n → (small_newest_at first second clock s ≡ Refused (suc n)) × (small_newest_body first second clock s ≡ [])
  unfolding placed
  told_refused n e = (rw e, rw e)

  -- "A cache of more than 64 slots is searched." The first is refused by 1, and the second where the first is not refused
  pub large_first : TooLarge (shape_of first) first
      → (refusal (small_search_rows first second clock s) ≡ 1) × ((small_newest_at first second clock s ≡ Refused 1) × (small_newest_body first second clock s ≡ []))
  large_first large =
      let one = large_rows first clock s (buffer_size (shape_of first)) large in
      let e = first_refused (small (shape_of first)) (small (shape_of second)) first second clock s (λ z. let y = sym one ∙ z in omega arith) ∙ one in
      (e, told_refused 0 e)

  pub large_second : refusal (ask_rows (small (shape_of first)) first clock s) ≡ 0 → TooLarge (shape_of second) second
      → (refusal (small_search_rows first second clock s) ≡ 1) × ((small_newest_at first second clock s ≡ Refused 1) × (small_newest_body first second clock s ≡ []))
  large_second none large =
      let e = second_refused (small (shape_of first)) (small (shape_of second)) first second clock s none ∙ large_rows second clock s (buffer_size (shape_of second)) large in
      (e, told_refused 0 e)
