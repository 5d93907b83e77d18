-- What each operation leaves is well formed again and reads back: opening, expiry, appending (specs/Cache.antt, specs/Expiry.antt).
use Rattle.std.proofs.Common.{◌≡◌, ℕ, zero, suc, ◌+◌, ◌-◌, ◌*◌, ◌^◌, ◌<◌, ◌≤◌, Bool, true, eqb, leb, List, [], ◌∷◌, ◌++◌, length, drop, sym, refl, zero-le, le_trans, arith, length-append, length-drop, eqb-true, le-leb, leb-true}
use native.Mathlib.Nat.{mul-div_right}
use Rattle.record.specs.Layout.{accepted}
use Rattle.settings.specs.Settings.{last_clock}
use Rattle.cache.specs.declared.Shape.{Shape}
use Rattle.cache.specs.declared.Head.{Head}
use Rattle.cache.specs.Chunks.{keep, every}
use Rattle.cache.specs.Cache.{Sound, head_size, width, size_of, capacity_of, clock_of, expired_of, head_in, entries, cache_of, fits, is_entry, never_fall, is_not_after, well_formed, count_of}
use Rattle.cache.specs.Opening.{capacity_for, opens, head_opened, opened}
use Rattle.cache.specs.Expiry.{live, gone, expired_in, head_expired, head_confirmed, head_live, cleared, appended}
use Rattle.cache.proofs.Chunks.{Wide, all_true, both_left, both_right, both_intro, each_drop, each_append}
use Rattle.cache.proofs.Expiry.{expired_first, expired_gone, gone_le}
use Rattle.cache.proofs.Cache.{Contents, Reads, well_formed_lem, reads_back, built_well, length_entries}

-- ---- tests of every record

every_drop : (p : List ℕ → Bool) (g : ℕ) (rs : List (List ℕ)) → every p rs ≡ true → every p (drop g rs) ≡ true
unfolding every
every_drop p zero rs h = h
every_drop p (suc g) [] h = h
every_drop p (suc g) (r ∷ rs) h = every_drop p g rs (both_right (p r) (every p rs) h)

every_append : (p : List ℕ → Bool) (rs ss : List (List ℕ)) → every p rs ≡ true → every p ss ≡ true → every p (rs ++ ss) ≡ true
unfolding every
every_append p [] ss h k = k
every_append p (r ∷ rs) ss h k =
    both_intro (p r) (every p (rs ++ ss)) (both_left (p r) (every p rs) h) (every_append p rs ss (both_right (p r) (every p rs) h) k)

-- none is after a later clock
later_still : (t clock : ℕ) (rs : List (List ℕ)) → t ≤ clock → every (is_not_after t) rs ≡ true → every (is_not_after clock) rs ≡ true
unfolding every
later_still t clock [] k h = refl
later_still t clock (r ∷ rs) k h =
    both_intro (is_not_after clock r) (every (is_not_after clock) rs)
    (le-leb (accepted r) clock (le_trans (leb-true (accepted r) t (both_left (is_not_after t r) (every (is_not_after t) rs) h)) k))
    (later_still t clock rs k (both_right (is_not_after t r) (every (is_not_after t) rs) h))

-- ---- accepted times

from_earlier : (t u : ℕ) (rs : List (List ℕ)) → t ≤ u → never_fall u rs ≡ true → never_fall t rs ≡ true
unfolding never_fall
from_earlier t u [] k h = refl
from_earlier t u (r ∷ rs) k h =
    both_intro (leb t (accepted r)) (never_fall (accepted r) rs)
    (le-leb t (accepted r) (le_trans k (leb-true u (accepted r) (both_left (leb u (accepted r)) (never_fall (accepted r) rs) h))))
    (both_right (leb u (accepted r)) (never_fall (accepted r) rs) h)

never_fall_drop : (t g : ℕ) (rs : List (List ℕ)) → never_fall t rs ≡ true → never_fall 0 (drop g rs) ≡ true
unfolding never_fall
never_fall_drop t zero rs h = from_earlier 0 t rs zero-le h
never_fall_drop t (suc g) [] h = refl
never_fall_drop t (suc g) (r ∷ rs) h = never_fall_drop (accepted r) g rs (both_right (leb t (accepted r)) (never_fall (accepted r) rs) h)

-- an entry that is not before the others goes last
never_fall_last : (t clock : ℕ) (rs : List (List ℕ)) (e : List ℕ) → t ≤ clock → never_fall t rs ≡ true → every (is_not_after clock) rs ≡ true → accepted e ≡ clock → never_fall t (rs ++ (e ∷ [])) ≡ true
unfolding never_fall every
never_fall_last t clock [] e k h p q = both_intro (leb t (accepted e)) true (le-leb t (accepted e) (rw q k)) refl
never_fall_last t clock (r ∷ rs) e k h p q =
    both_intro (leb t (accepted r)) (never_fall (accepted r) (rs ++ (e ∷ [])))
    (both_left (leb t (accepted r)) (never_fall (accepted r) rs) h)
    (never_fall_last (accepted r) clock rs e (leb-true (accepted r) clock (both_left (is_not_after clock r) (every (is_not_after clock) rs) p))
    (both_right (leb t (accepted r)) (never_fall (accepted r) rs) h)
    (both_right (is_not_after clock r) (every (is_not_after clock) rs) p)
    q)

-- ---- what the operations leave

pub contents_opened : (sh : Shape) (C : ℕ) → 1 ≤ C → C ≤ sh.most → Contents sh (head_opened C) []
unfolding every never_fall
contents_opened sh C h k =
    record { some = h; most = k; enough = zero-le; wide = tt; kinds = refl; order = refl; past = refl; early = zero-le; summed = refl }

pub contents_drop : (sh : Shape) (h : Head) (clock g : ℕ) (rs : List (List ℕ)) → h.clock ≤ clock → clock ≤ last_clock → g ≤ length rs → Contents sh h rs
    → Contents sh (head_expired clock g h) (drop g rs)
contents_drop sh h clock g rs k l m c =
    record {
      some = c.some;
      most = c.most;
      enough = rw length-drop (omega (arith, c.enough));
      wide = each_drop (Wide (width sh)) g rs c.wide;
      kinds = every_drop (is_entry sh) g rs c.kinds;
      order = never_fall_drop 0 g rs c.order;
      past = every_drop (is_not_after clock) g rs (later_still h.clock clock rs k c.past);
      early = l;
      summed = rw length-drop (omega (arith, c.summed));
    }

pub contents_live : (sh : Shape) (h : Head) (clock : ℕ) (rs : List (List ℕ)) → h.clock ≤ clock → clock ≤ last_clock → Contents sh h rs
    → Contents sh (head_expired clock (expired_in clock rs) h) (keep (live clock) rs)
contents_live sh h clock rs k l c =
    rw (expired_gone clock 0 rs c.order, expired_first clock 0 rs c.order) (contents_drop sh h clock (gone clock rs) rs k l (gone_le clock rs) c)

pub contents_append : (sh : Shape) (h : Head) (clock : ℕ) (rs : List (List ℕ)) (e : List ℕ) → h.clock ≤ clock → clock ≤ last_clock → length rs < h.capacity
    → length e ≡ width sh → is_entry sh e ≡ true → accepted e ≡ clock → Contents sh h rs → Contents sh (head_confirmed clock h) (rs ++ (e ∷ []))
unfolding every
contents_append sh h clock rs e k l m w x a c =
    let past = later_still h.clock clock rs k c.past in
    let more : length (rs ++ (e ∷ [])) ≡ length rs + 1 = length-append rs (e ∷ []) in
    record {
      some = c.some;
      most = c.most;
      enough = omega arith;
      wide = each_append (Wide (width sh)) rs (e ∷ []) c.wide (w, tt);
      kinds = every_append (is_entry sh) rs (e ∷ []) c.kinds (both_intro (is_entry sh e) true x refl);
      order = never_fall_last 0 clock rs e zero-le c.order past a;
      past = every_append (is_not_after clock) rs (e ∷ []) past (both_intro (is_not_after clock e) true (le-leb (accepted e) clock (rw a (omega arith))) refl);
      early = l;
      summed = omega (arith, c.summed);
    }

-- what an operation leaves is a cache again: well formed, and with this head and these entries
pub record Left (sh : Shape) (h : Head) (rs : List (List ℕ)) (cache : List ℕ) : Type 0 where
  pub well : well_formed sh cache ≡ true
  pub reads : Reads sh h rs cache
  pub contents : Contents sh h rs

pub left : (sh : Shape) (h : Head) (rs : List (List ℕ)) → Sound sh → h.expired < 2 ^ 64 → Contents sh h rs → Left sh h rs (cache_of sh h rs)
left sh h rs sound small c = record { well = built_well sh h rs sound small c; reads = reads_back sh h rs sound small c; contents = c }

pub expired_left : (sh : Shape) (clock : ℕ) (cache : List ℕ) → Sound sh → well_formed sh cache ≡ true → clock_of cache ≤ clock → clock ≤ last_clock
    → Left sh (head_live sh clock cache) (keep (live clock) (entries sh cache)) (cleared sh clock cache)
unfolding cleared
expired_left sh clock cache sound h k l =
    left sh (head_live sh clock cache) (keep (live clock) (entries sh cache)) sound (omega arith)
    (contents_live sh (head_in cache) clock (entries sh cache) k l (well_formed_lem sh cache h).contents)

pub appended_left : (sh : Shape) (clock : ℕ) (e cache : List ℕ) → Sound sh → well_formed sh cache ≡ true → clock_of cache ≤ clock → clock ≤ last_clock
    → length (entries sh cache) < capacity_of cache → expired_of cache < 2 ^ 64 → length e ≡ width sh → is_entry sh e ≡ true → accepted e ≡ clock
    → Left sh (head_confirmed clock (head_in cache)) (entries sh cache ++ (e ∷ [])) (appended sh clock e cache)
unfolding appended
appended_left sh clock e cache sound h k l m small w x a =
    left sh (head_confirmed clock (head_in cache)) (entries sh cache ++ (e ∷ [])) sound small
    (contents_append sh (head_in cache) clock (entries sh cache) e k l m w x a (well_formed_lem sh cache h).contents)

-- what is opened is well formed, and has no entries
pub opened_well : (sh : Shape) (cache : List ℕ) → Sound sh → opens sh (length cache) ≡ true
    → Left sh (head_opened (capacity_for sh (length cache))) [] (opened sh cache)
unfolding opened
opened_well sh cache sound h =
    let C = capacity_for sh (length cache) in
    let sized = all_true (leb 1 C ∷ leb C sh.most ∷ eqb (length cache) (size_of sh C) ∷ []) h in
    left sh (head_opened C) [] sound (omega arith) (contents_opened sh C (leb-true 1 C sized.0) (leb-true C sh.most sized.1.0))

-- whatever C fits a length is the one that opening takes
pub fits_one : (sh : Shape) (n C : ℕ) → fits sh n C ≡ true → capacity_for sh n ≡ C
fits_one sh n C h =
    let sized = all_true (leb 1 C ∷ leb C sh.most ∷ eqb n (size_of sh C) ∷ []) h in
    let e = eqb-true n (size_of sh C) sized.1.1.0 in
    let w : 0 < width sh = omega arith in
    let d : n - head_size ≡ width sh * C = omega arith in
    rw d (mul-div_right C w)

-- ---- what is gone

-- no more than there are
pub gone_few : (sh : Shape) (cache : List ℕ) (clock : ℕ) → gone clock (entries sh cache) ≤ count_of cache
gone_few sh cache clock = rw (← length_entries sh cache) (gone_le clock (entries sh cache))

-- the entries behind those that are gone are the live ones
pub live_behind : (sh : Shape) (cache : List ℕ) (clock : ℕ) → well_formed sh cache ≡ true → drop (gone clock (entries sh cache)) (entries sh cache) ≡ keep (live clock) (entries sh cache)
live_behind sh cache clock well = sym (expired_first clock 0 (entries sh cache) (well_formed_lem sh cache well).contents.order)
