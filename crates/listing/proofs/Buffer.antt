-- What GET_ADS leaves in the buffer (specs/Listing.antt), in a searcher's words: who is found there, at which index and as which bytes; and what stands behind stays.
use mathlib.Core.Path.{◌≡◌, refl, sym, ap, ◌∙◌}
use mathlib.Core.Bool.{Bool, true}
use mathlib.Core.List.{List, [], ◌∷◌, ◌++◌, append_assoc}
use Prim.Native.Nat.{ℕ, zero, suc, ◌+◌, ◌-◌, ◌*◌, ◌≤◌, ◌<◌, zero-le}
use native.Mathlib.Omega.{arith}
use native.Mathlib.Nat.{zero-add}
use lib.ListN.{length, take, drop, get_or, length-append}
use lib.Seq.{length-take-le, split_at, take-append-add}
use Rattle.octets.specs.Runs.{part, put}
use Rattle.octets.proofs.Runs.{part_part, part_first, part_past, put_back}
use Rattle.settings.specs.Settings.{lifetime}
use Rattle.record.specs.Layout.{time_size, ad_size, kind_of, accepted, entry_body, service}
use Rattle.record.specs.Refusals.{refusal}
use Rattle.record.specs.Entries.{listed}
use Rattle.cache.specs.declared.Shape.{Shape}
use Rattle.cache.specs.Chunks.{joined, keep}
use Rattle.cache.specs.Cache.{width, entries, well_formed}
use Rattle.cache.proofs.Chunks.{Each, Wide, keep_append}
use Rattle.cache.proofs.Cache.{well_formed_lem}
use Rattle.listing.specs.Listed.{Listed, Ads}
use Rattle.listing.specs.Listing.{refusal_of, number_of, most_listed, rows, wanted, chosen, as_ads, answer_of, buffer_of, listing_answer, listing_buffer, Got}
use Rattle.listing.proofs.Order.{each_keep, each_take, listed_long, ads_long}
use Rattle.listing.proofs.Promises.{Clear, clear, clear_passes, is_wanted}

-- ---- who is found

-- GET_ADS at a clock is not refused, tells more ads than i, and its record at the index i is this ad, byte for byte
pub record ListsAt (sh : Shape) (cache : List ℕ) (clock : ℕ) (s list : List ℕ) (i : ℕ) (ad : List ℕ) : Type 0 where
  pub passes : refusal_of (listing_answer sh cache clock s list) ≡ 0
  pub told : i < number_of (listing_answer sh cache clock s list)
  pub written : part (i * ad_size sh.address) (ad_size sh.address) (listing_buffer sh cache clock s list) ≡ ad

-- the record at an index of a list buffer
abbrev pub record_at : Shape → ℕ → List ℕ → List ℕ
record_at sh i list = part (i * ad_size sh.address) (ad_size sh.address) list

-- how many of some entries a listing wants
abbrev pub wanted_in : Shape → ℕ → List ℕ → List (List ℕ) → ℕ
wanted_in sh clock s es = length (keep (wanted sh.kinds clock s) es)

-- those before it, itself, and as many behind it as there is room for
chosen_at : (p : List ℕ → Bool) (before behind : List (List ℕ)) (e : List ℕ) → p e ≡ true → let front = keep p before in length front < most_listed
    → take most_listed (keep p (before ++ (e ∷ behind))) ≡ front ++ (e ∷ take (most_listed - suc (length front)) (keep p behind))
unfolding keep
chosen_at p before behind e h few =
    let front = keep p before in
    let room : most_listed ≡ length front + suc (most_listed - suc (length front)) = omega arith in
    rw (keep_append p before (e ∷ behind), h)
    (ap (λ (n : ℕ). take n (front ++ (e ∷ keep p behind))) room ∙ take-append-add front (e ∷ keep p behind) (suc (most_listed - suc (length front))))

ads_at : (kind : ℕ) (es fs : List (List ℕ)) (e : List ℕ) → as_ads kind (es ++ (e ∷ fs)) ≡ as_ads kind es ++ (listed kind e ++ as_ads kind fs)
unfolding as_ads joined
ads_at kind [] fs e = refl
ads_at kind (d ∷ es) fs e =
    ap (λ (l : List ℕ). listed kind d ++ l) (ads_at kind es fs e) ∙ sym (append_assoc (listed kind d) (as_ads kind es) (listed kind e ++ as_ads kind fs))

each_at : (P : List ℕ → Type 0) (es fs : List (List ℕ)) (e : List ℕ) → Each P (es ++ (e ∷ fs)) → Each P es × P e
each_at P [] fs e (h, hs) = (tt, h)
each_at P (d ∷ es) fs e (h, hs) = let i = each_at P es fs e hs in ((h, i.0), i.1)

-- the record that stands behind others
part_behind : (i n : ℕ) (p q r : List ℕ) → length p ≡ i → length q ≡ n → part i n (p ++ (q ++ r)) ≡ q
part_behind i n p q r h k = part_past i 0 n p (q ++ r) (omega arith) ∙ part_first n q r k

-- a part of what a buffer starts with
part_within : (i n : ℕ) (s t : List ℕ) → part 0 (length t) s ≡ t → i + n ≤ length t → part i n s ≡ part i n t
part_within i n s t e h = sym (rw zero-add at (part_part i n 0 (length t) s h)) ∙ ap (part i n) e

-- the record at the index of an entry that is listed is its ad
behind_written : (sh : Shape) (list : List ℕ) (front back : List (List ℕ)) (e : List ℕ) → Each (Wide (width sh)) (front ++ (e ∷ back))
    → record_at sh (length front) (put 0 (as_ads sh.kinds.ad (front ++ (e ∷ back))) list) ≡ listed sh.kinds.ad e
unfolding put
behind_written sh list front back e wide =
    let kind = sh.kinds.ad in
    let each = each_at (Wide (width sh)) front back e wide in
    let size : width sh - time_size ≡ ad_size sh.address = omega arith in
    let long : length (as_ads kind front) ≡ length front * ad_size sh.address = ads_long kind (width sh) front (omega arith) each.0 ∙ rw size in
    let own : length (listed kind e) ≡ ad_size sh.address = listed_long kind (width sh) e (omega arith) each.1 ∙ size in
    let ads = as_ads kind (front ++ (e ∷ back)) in
    let laid : ads ≡ as_ads kind front ++ (listed kind e ++ as_ads kind back) = ads_at kind front back e in
    let starts : part 0 (length ads) (put 0 ads list) ≡ ads = part_first (length ads) ads _ refl in
    let fits : length front * ad_size sh.address + ad_size sh.address ≤ length ads = rw laid (simp length-append (omega arith)) in
    part_within _ _ _ ads starts fits ∙ rw laid (part_behind _ _ (as_ads kind front) (listed kind e) (as_ads kind back) long own)

pub written_at : (sh : Shape) (list : List ℕ) (es : List (List ℕ)) → Each (Wide (width sh)) es → (i : ℕ) → i < length es
    → record_at sh i (put 0 (as_ads sh.kinds.ad es) list) ≡ listed sh.kinds.ad (get_or es i [])
written_at sh list es wide i h =
    let split = split_at es i [] h in
    let l = length-take-le i es (omega arith) in
    ap (λ (fs : List (List ℕ)). record_at sh i (put 0 (as_ads sh.kinds.ad fs) list)) split
    ∙ rw l at (behind_written sh list (take i es) (drop (suc i) es) (get_or es i []) (rw split at wide))

-- those that a listing chooses of a well-formed cache have the width of entries
pub chosen_wide : (sh : Shape) (cache : List ℕ) (p : List ℕ → Bool) → well_formed sh cache ≡ true → Each (Wide (width sh)) (take most_listed (keep p (entries sh cache)))
chosen_wide sh cache p well =
    each_take (Wide (width sh)) most_listed (keep p (entries sh cache)) (each_keep (Wide (width sh)) p (entries sh cache) (well_formed_lem sh cache well).contents.wide)

-- "An ad is held, and nobody finds it." A live entry of the service that is not withdrawn is listed, where fewer than ten such stand before it: at the index that is
-- their number, with its body as it was brought
pub standing_listed : (sh : Shape) (cache : List ℕ) (clock : ℕ) (s list : List ℕ) → Clear sh cache clock s (length list)
    → (before behind : List (List ℕ)) (e : List ℕ) → entries sh cache ≡ before ++ (e ∷ behind)
    → clock - accepted e < lifetime → service (entry_body e) ≡ s → (kind_of e ≡ sh.kinds.withdrawn → ⊥) → wanted_in sh clock s before < most_listed
    → ListsAt sh cache clock s list (wanted_in sh clock s before) (listed sh.kinds.ad e)
unfolding answer_of buffer_of chosen
standing_listed sh cache clock s list clear before behind e there young serves stands few =
    let p = wanted sh.kinds clock s in
    let front = keep p before in
    let back = take (most_listed - suc (length front)) (keep p behind) in
    let none = clear_passes sh cache clock s (length list) clear in
    let all : take most_listed (keep p (entries sh cache)) ≡ front ++ (e ∷ back) = rw there (chosen_at p before behind e (is_wanted sh.kinds clock s e young serves stands) few) in
    record {
      passes = rw none;
      told = rw (none, all) (omega (arith, length-append front (e ∷ back)));
      written = rw (none, all) (behind_written sh list front back e (rw all at (chosen_wide sh cache p clear.well)));
    }

-- ---- what stands behind

-- "What stood in the buffer behind the listing is cleared." It is not: behind as many records as were told, every byte is as it was
pub later_bytes_stay : (sh : Shape) (cache : List ℕ) (clock : ℕ) (s list : List ℕ) (answer : Listed) (left : List ℕ) → Got sh cache clock s list answer left
    → drop (number_of answer * ad_size sh.address) left ≡ drop (number_of answer * ad_size sh.address) list
unfolding chosen answer_of buffer_of
later_bytes_stay sh cache clock s list answer left g = go (refusal (rows sh cache clock s (length list))) refl
  where
    es : List (List ℕ)
    es = chosen sh.kinds clock s (entries sh cache)

    go : (n : ℕ) → refusal (rows sh cache clock s (length list)) ≡ n
        → drop (number_of answer * ad_size sh.address) left ≡ drop (number_of answer * ad_size sh.address) list
    go zero e =
        let a : answer ≡ Ads (length es) = g.answered ∙ rw e in
        let l : left ≡ put 0 (as_ads sh.kinds.ad es) list = g.leaves ∙ rw e in
        let well = (clear sh cache clock s (length list) e).well in
        let wide : Each (Wide (width sh)) es = chosen_wide sh cache (wanted sh.kinds clock s) well in
        let size : width sh - time_size ≡ ad_size sh.address = omega arith in
        let k : length (as_ads sh.kinds.ad es) ≡ length es * ad_size sh.address = ads_long sh.kinds.ad (width sh) es (omega arith) wide ∙ rw size in
        let b : drop (length (as_ads sh.kinds.ad es)) (put 0 (as_ads sh.kinds.ad es) list) ≡ drop (length (as_ads sh.kinds.ad es)) list = rw zero-add at (put_back 0 list zero-le (as_ads sh.kinds.ad es)) in
        rw (a, l) (rw k at b)
    go (suc n) e = let l : left ≡ list = g.leaves ∙ rw e in rw l
