-- Where the body of the newest entry stands (specs/Newest.antt), what is handed out, and what the functions of this crate make of it.
use mathlib.Core.Path.{◌≡◌, refl, sym, ap, ◌∙◌}
use mathlib.Core.Bool.{true}
use mathlib.Core.Logic.{◌⊎◌, ⊎_elim}
use mathlib.Core.List.{List, []}
use Prim.Native.Nat.{ℕ, zero, suc, ◌+◌, ◌*◌, ◌≤◌, ◌<◌}
use native.Mathlib.Omega.{arith}
use native.Mathlib.Nat.{mul-suc, mul-zero, mul-le-mul_left, not-suc-le-zero, le_of_suc-le-suc}
use lib.ListN.{length, drop, get_or, length-drop}
use lib.Seq.{take_all}
use borrow.Author.Tests.{lt-ltb, le-ltb}
use Rattle.octets.specs.Numbers.{number}
use Rattle.octets.specs.Runs.{part}
use Rattle.octets.proofs.Runs.{part_drop, part_part, length_part}
use Rattle.record.specs.Layout.{time_size, accepted_at, entry_body_at, accepted, entry_body, body_size}
use Rattle.record.specs.Refusals.{refusal}
use Rattle.cache.specs.declared.Shape.{Shape}
use Rattle.cache.specs.Chunks.{chunks}
use Rattle.cache.specs.Cache.{head_size, max_capacity, Sound, width, size_of, count_of, entries, well_formed}
use Rattle.cache.proofs.Cache.{length_entries}
use Rattle.cache.proofs.Check.{HeadFacts, sound_head}
use Rattle.search.specs.Place.{Nothing, Entry, Place, Refused, Nowhere, First, Second}
use Rattle.search.specs.Newest.{Found, nowhere, in_first, in_second, offers, newest_in, last_of, found, refusal_of, search_rows_as, body_at, placed, newest_at_as, body_from, newest_body_as}
use Rattle.search.proofs.Last.{last_is}
use Rattle.search.proofs.Answers.{asked}
use Rattle.search.proofs.Promises.{entry_at, newest_is, newest_of, Offered, from_first, from_second, found_neither}

-- ---- an entry by its index

chunk_at : (w n i : ℕ) (s : List ℕ) → i < n → get_or (chunks w n s) i [] ≡ part (w * i) w s
unfolding chunks part
chunk_at w zero i s h = absurd (not-suc-le-zero h)
chunk_at w (suc n) zero s h = rw mul-zero
chunk_at w (suc n) (suc i) s h =
    let e : w + w * i ≡ w * suc i = rw mul-suc (omega arith) in
    chunk_at w n i (drop w s) (le_of_suc-le-suc h) ∙ part_drop (w * i) w w s ∙ rw e

entry_at_lem : (sh : Shape) (cache : List ℕ) (i : ℕ) → i < count_of cache → entry_at sh cache i ≡ part (size_of sh i) (width sh) cache
unfolding entries
entry_at_lem sh cache i h = chunk_at (width sh) (count_of cache) i (drop head_size cache) h ∙ part_drop (width sh * i) (width sh) head_size cache

pub entry_room : (sh : Shape) (cache : List ℕ) (i : ℕ) → HeadFacts sh cache → i < count_of cache → size_of sh i + width sh ≤ length cache
entry_room sh cache i f h =
    let m = mul-le-mul_left (width sh) h in
    let e = mul-suc (width sh) i in
    omega (arith, f.inside)

accepted_there : (sh : Shape) (cache : List ℕ) (i : ℕ) → i < count_of cache → number (part (size_of sh i + accepted_at) time_size cache) ≡ accepted (entry_at sh cache i)
accepted_there sh cache i h =
    sym (ap accepted (entry_at_lem sh cache i h) ∙ ap number (part_part accepted_at time_size (size_of sh i) (width sh) cache (omega arith)))

-- what stands there is the ad's body
pub body_there : (sh : Shape) (cache : List ℕ) (i : ℕ) → HeadFacts sh cache → i < count_of cache → body_from sh (body_at sh i) cache ≡ entry_body (entry_at sh cache i)
unfolding part
body_there sh cache i f h =
    let n = body_size sh.address in
    let long = length_part (size_of sh i) (width sh) cache (entry_room sh cache i f h) in
    let e : part entry_body_at n (part (size_of sh i) (width sh) cache) ≡ drop entry_body_at (part (size_of sh i) (width sh) cache) =
    take_all n (drop entry_body_at (part (size_of sh i) (width sh) cache)) (rw length-drop (omega arith)) in
    sym (part_part entry_body_at n (size_of sh i) (width sh) cache (omega arith)) ∙ e ∙ sym (ap entry_body (entry_at_lem sh cache i h))

-- ---- the newest of a cache

module _ (sh : Shape) (oldest : ℕ) (cache : List ℕ) (clock : ℕ) (s : List ℕ) (well : well_formed sh cache ≡ true) where
  pub nothing_newest : last_of (offers sh oldest clock s) (entries sh cache) ≡ 0 → Nothing ≡ newest_in sh oldest cache clock s
  nothing_newest z = sym (newest_is sh oldest cache clock s well ∙ rw z)

  -- the last that passes lies among the entries
  pub last_inside : (k : ℕ) → last_of (offers sh oldest clock s) (entries sh cache) ≡ suc k → k < count_of cache
  last_inside k e = let f = last_is (offers sh oldest clock s) (entries sh cache) k e in let long = length_entries sh cache in omega (arith, f.inside)

  pub entry_newest : (k t : ℕ) → last_of (offers sh oldest clock s) (entries sh cache) ≡ suc k → t ≡ number (part (size_of sh k + accepted_at) time_size cache)
      → Entry k t ≡ newest_in sh oldest cache clock s
  entry_newest k t e h =
      let a = accepted_there sh cache k (last_inside k e) in
      let z : 0 + k ≡ k = omega arith in
      sym (newest_is sh oldest cache clock s well ∙ rw (e, z, h, a))

  pub newest_few : Sound sh → (i t : ℕ) → newest_in sh oldest cache clock s ≡ Entry i t → i ≤ max_capacity
  newest_few sound i t e =
      let n = newest_of sh oldest cache clock s well i t e in
      let f = sound_head sh cache sound well in
      omega (arith, n.inside, f.few, f.most)

  pub newest_room : Sound sh → (i t : ℕ) → newest_in sh oldest cache clock s ≡ Entry i t → body_at sh i + body_size sh.address ≤ length cache
  newest_room sound i t e =
      let n = newest_of sh oldest cache clock s well i t e in
      let r = entry_room sh cache i (sound_head sh cache sound well) n.inside in
      omega (arith, r)

-- ---- the place in two caches

module _ (near far : Shape) (oldest : ℕ) (first second : List ℕ) (clock : ℕ) (s : List ℕ) (none : refusal (search_rows_as near far first second clock s) ≡ 0) where
  pub at_nowhere : newest_in near oldest first clock s ≡ Nothing → newest_in far oldest second clock s ≡ Nothing → Nowhere ≡ newest_at_as near far oldest first second clock s
  unfolding placed
  at_nowhere a b = rw (none, a, b)

  pub at_second : (j u : ℕ) → newest_in near oldest first clock s ≡ Nothing → newest_in far oldest second clock s ≡ Entry j u
      → Second (body_at far j) ≡ newest_at_as near far oldest first second clock s
  unfolding placed
  at_second j u a b = rw (none, a, b)

  pub at_first : (i t : ℕ) → newest_in near oldest first clock s ≡ Entry i t → newest_in far oldest second clock s ≡ Nothing
      → First (body_at near i) ≡ newest_at_as near far oldest first second clock s
  unfolding placed
  at_first i t a b = rw (none, a, b)

  pub at_later : (i t j u : ℕ) → newest_in near oldest first clock s ≡ Entry i t → newest_in far oldest second clock s ≡ Entry j u → t < u
      → Second (body_at far j) ≡ newest_at_as near far oldest first second clock s
  unfolding placed
  at_later i t j u a b h = rw (none, a, b, lt-ltb t u h)

  pub at_not_later : (i t j u : ℕ) → newest_in near oldest first clock s ≡ Entry i t → newest_in far oldest second clock s ≡ Entry j u → u ≤ t
      → First (body_at near i) ≡ newest_at_as near far oldest first second clock s
  unfolding placed
  at_not_later i t j u a b h = rw (none, a, b, le-ltb t u h)

-- ---- what is handed out

-- the number that is told is that of the first refusal whose condition is true
placed_number : (near far : Shape) (n : ℕ) (f : Found) → refusal_of (placed near far n f) ≡ n
unfolding placed
placed_number near far zero nowhere = refl
placed_number near far zero (in_first i) = refl
placed_number near far zero (in_second j) = refl
placed_number near far (suc n) f = refl

pub search_refused_exactly : (near far : Shape) (oldest : ℕ) (first second : List ℕ) (clock : ℕ) (s : List ℕ)
    → refusal_of (newest_at_as near far oldest first second clock s) ≡ refusal (search_rows_as near far first second clock s)
search_refused_exactly near far oldest first second clock s = placed_number near far _ (found near far oldest first second clock s)

-- a refusal hands out nothing
pub refused_empty : (near far : Shape) (oldest : ℕ) (first second : List ℕ) (clock : ℕ) (s : List ℕ) (n : ℕ) → refusal (search_rows_as near far first second clock s) ≡ suc n
    → newest_body_as near far oldest first second clock s ≡ []
unfolding placed
refused_empty near far oldest first second clock s n e = rw e

-- a part that begins at a place lies within its cache
abbrev Within : Shape → Shape → List ℕ → List ℕ → Place → Type 0
Within near far first second (Refused n) = Unit {0}
Within near far first second Nowhere = Unit {0}
Within near far first second (First at) = at + body_size near.address ≤ length first
Within near far first second (Second at) = at + body_size far.address ≤ length second

module _ (near far : Shape) (oldest : ℕ) (first second : List ℕ) (clock : ℕ) (s : List ℕ) (near-sound : Sound near) (far-sound : Sound far) where
  within : (p : Place) → newest_at_as near far oldest first second clock s ≡ p → Within near far first second p
  unfolding placed
  within p e = rw (← e) (go (refusal (search_rows_as near far first second clock s)) refl (found near far oldest first second clock s) refl)
    where
      go : (n : ℕ) → refusal (search_rows_as near far first second clock s) ≡ n → (f : Found) → found near far oldest first second clock s ≡ f → Within near far first second (placed near far n f)
      go (suc n) z f w = tt
      go zero z nowhere w = tt
      go zero z (in_first i) w =
          let f = from_first (newest_in near oldest first clock s) (newest_in far oldest second clock s) i w in
          newest_room near oldest first clock s (asked near far first second clock s z).near near-sound i f.time f.held
      go zero z (in_second j) w =
          let f = from_second (newest_in near oldest first clock s) (newest_in far oldest second clock s) j w in
          newest_room far oldest second clock s (asked near far first second clock s z).far far-sound j f.time f.held

  pub first_inside : (at : ℕ) → newest_at_as near far oldest first second clock s ≡ First at → at + body_size near.address ≤ length first
  first_inside at e = within (First at) e

  pub second_inside : (at : ℕ) → newest_at_as near far oldest first second clock s ≡ Second at → at + body_size far.address ≤ length second
  second_inside at e = within (Second at) e

  -- the part that is handed out is the ad's body of the entry that is found
  pub first_body : refusal (search_rows_as near far first second clock s) ≡ 0 → (i : ℕ) → found near far oldest first second clock s ≡ in_first i → newest_body_as near far oldest first second clock s ≡ entry_body (entry_at near first i)
  unfolding placed
  first_body z i e =
      let f = from_first (newest_in near oldest first clock s) (newest_in far oldest second clock s) i e in
      let well = (asked near far first second clock s z).near in
      let n = newest_of near oldest first clock s well i f.time f.held in
      rw (z, e) (body_there near first i (sound_head near first near-sound well) n.inside)

  pub second_body : refusal (search_rows_as near far first second clock s) ≡ 0 → (j : ℕ) → found near far oldest first second clock s ≡ in_second j → newest_body_as near far oldest first second clock s ≡ entry_body (entry_at far second j)
  unfolding placed
  second_body z j e =
      let f = from_second (newest_in near oldest first clock s) (newest_in far oldest second clock s) j e in
      let well = (asked near far first second clock s z).far in
      let n = newest_of far oldest second clock s well j f.time f.held in
      rw (z, e) (body_there far second j (sound_head far second far-sound well) n.inside)

  -- where nothing is refused and there is no such entry in either cache, the part is empty
  pub none_empty : refusal (search_rows_as near far first second clock s) ≡ 0 → ((e : List ℕ) → (Offered near oldest first clock s e → ⊥) × (Offered far oldest second clock s e → ⊥))
      → newest_body_as near far oldest first second clock s ≡ []
  unfolding placed
  none_empty z o = go (found near far oldest first second clock s) refl
    where
      go : (f : Found) → found near far oldest first second clock s ≡ f → newest_body_as near far oldest first second clock s ≡ []
      go nowhere w = rw (z, w)
      go (in_first i) w =
          let f = from_first (newest_in near oldest first clock s) (newest_in far oldest second clock s) i w in
          let n = newest_of near oldest first clock s (asked near far first second clock s z).near i f.time f.held in
          absurd ((o (entry_at near first i)).0 n.offered)
      go (in_second j) w =
          let f = from_second (newest_in near oldest first clock s) (newest_in far oldest second clock s) j w in
          let n = newest_of far oldest second clock s (asked near far first second clock s z).far j f.time f.held in
          absurd ((o (entry_at far second j)).1 n.offered)

  -- where such an entry is in either cache and nothing is refused, the part is not empty
  pub not_empty : refusal (search_rows_as near far first second clock s) ≡ 0 → (e : List ℕ) → Offered near oldest first clock s e ⊎ Offered far oldest second clock s e
      → 0 < length (newest_body_as near far oldest first second clock s)
  unfolding placed
  not_empty z e o = go (found near far oldest first second clock s) refl
    where
      go : (f : Found) → found near far oldest first second clock s ≡ f → 0 < length (newest_body_as near far oldest first second clock s)
      go nowhere w = let n = found_neither near far oldest first second clock s w e in absurd (⊎_elim n.0 n.1 o)
      go (in_first i) w =
          let r = first_inside (body_at near i) (rw (z, w)) in
          rw (z, w) (let l = length_part (body_at near i) (body_size near.address) first r in omega (arith, l))
      go (in_second j) w =
          let r = second_inside (body_at far j) (rw (z, w)) in
          rw (z, w) (let l = length_part (body_at far j) (body_size far.address) second r in omega (arith, l))
