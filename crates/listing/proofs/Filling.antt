-- Laws of a list that is being written (specs/Listing.antt): the entries found so far stand at its front, as advertisements; and what the call has then answered.
use mathlib.Core.Path.{◌≡◌, refl, sym, ap, ap₂, ◌∙◌}
use mathlib.Core.Bool.{Bool, true, false}
use mathlib.Core.List.{List, [], ◌∷◌, ◌++◌, map, append_assoc, append-nil}
use Prim.Native.Nat.{ℕ, zero, suc, ◌+◌, ◌-◌, ◌*◌, ◌≤◌, ◌<◌, zero-le}
use native.Mathlib.Omega.{arith}
use native.Mathlib.Nat.{mul-suc, mul-zero, mul-le-mul_left, mul_comm, le_refl}
use native.Mathlib.Numerals.{add-one}
use lib.ListN.{length, take, length-append}
use lib.Seq.{length-take-le, take_all, take_at, drop_at}
use borrow.Rule.Slice.PartMut.{put_mid}
use Rattle.octets.specs.Runs.{put, both}
use Rattle.octets.proofs.Runs.{put_none, put_behind, length_put, lent_back, both_false}
use Rattle.record.specs.Layout.{time_size, entry_body_at}
use Rattle.record.specs.Refusals.{refusal}
use Rattle.record.specs.Entries.{listed}
use Rattle.record.proofs.Refusals.{at_number}
use Rattle.cache.specs.Chunks.{chunks, joined, keep}
use Rattle.cache.specs.declared.Kinds.{Kinds}
use Rattle.cache.specs.declared.Shape.{Shape}
use Rattle.cache.specs.Cache.{entries}
use Rattle.times.specs.Times.{live_from}
use Rattle.cache.proofs.Chunks.{chunks_take}
use Rattle.cache.proofs.Expiry.{live_from_lem}
use Rattle.listing.specs.Listed.{Refused, Ads}
use Rattle.listing.specs.Listing.{most_listed, rows, wanted, wanted_from, chosen_since, as_ads, answer_of, buffer_of, GotSince, AdsWritten}
use Rattle.listing.proofs.Order.{listed_long}

-- one more advertisement behind the others
ads_more : (kind : ℕ) (es : List (List ℕ)) (e : List ℕ) → as_ads kind (es ++ (e ∷ [])) ≡ as_ads kind es ++ listed kind e
unfolding as_ads joined
ads_more kind [] e = append-nil (listed kind e)
ads_more kind (f ∷ es) e = ap (λ (l : List ℕ). listed kind f ++ l) (ads_more kind es e) ∙ sym (append_assoc (listed kind f) (joined (map (listed kind) es)) (listed kind e))

-- an entry that comes off the front of the rest: as many entries are left but one
record Taken (w left : ℕ) (rest e after : List ℕ) : Type 0 where
  pub ends : length after ≡ w * (left - 1)
  pub cut : chunks w left rest ≡ e ∷ chunks w (left - 1) after

taken : (w left : ℕ) (rest e after : List ℕ) → 0 < w → length rest ≡ w * left → rest ≡ e ++ after → length e ≡ w → Taken w left rest e after
unfolding chunks
taken w zero rest e after k h o l =
    let z = mul-zero w in
    let m = ap length o ∙ length-append e after in
    absurd (omega arith)
taken w (suc left) rest e after k h o l =
    let f : suc left - 1 ≡ left = omega arith in
    let m = ap length o ∙ length-append e after in
    let s = mul-suc w left in
    record {
      ends = rw f (omega arith);
      cut = rw (f, o) (ap₂ (λ (x : List ℕ) (y : List (List ℕ)). x ∷ y) (take_at e after w l) (ap (chunks w left) (drop_at e after w l)));
    }

-- with `rest` left of the entries: those before it that pass a test stand at the front of the list
pub record Filled (p : List ℕ → Bool) (kind w n : ℕ) (stored before rest : List ℕ) (found : ℕ) (list : List ℕ) : Type 0 where
  pub wide : entry_body_at ≤ w
  pub sized : length before ≡ most_listed * (w - time_size)
  pub left : ℕ
  pub ends : length rest ≡ w * left
  pub done : List (List ℕ)
  pub split : keep p (chunks w n stored) ≡ done ++ keep p (chunks w left rest)
  pub counted : length done ≡ found
  pub few : found ≤ most_listed
  pub long : length (as_ads kind done) ≡ (w - time_size) * found
  pub wrote : list ≡ put 0 (as_ads kind done) before

pub fill_start : {p : List ℕ → Bool} {kind w n : ℕ} {stored before rest : List ℕ} → entry_body_at ≤ w → length before ≡ most_listed * (w - time_size) → w * n ≤ length stored
    → rest ≡ take (w * n) stored → Filled p kind w n stored before rest 0 before
unfolding as_ads joined
fill_start {p} {kind} {w} {n} {stored} {before} {rest} wide sized h o =
    record {
      wide = wide;
      sized = sized;
      left = n;
      ends = rw o (length-take-le (w * n) stored h);
      done = [];
      split = rw (o, chunks_take w n (w * n) stored (le_refl (w * n)) h);
      counted = refl;
      few = zero-le;
      long = sym (mul-zero (w - time_size));
      wrote = sym (put_none 0 before);
    }

module _ {p : List ℕ → Bool} {kind w n : ℕ} {stored before rest : List ℕ} {found : ℕ} {list : List ℕ} (f : Filled p kind w n stored before rest found list) where
  -- the list keeps its length
  pub fill_length : length list ≡ length before
  fill_length =
      let k = mul-le-mul_left (w - time_size) f.few in
      let e = mul_comm most_listed (w - time_size) in
      rw f.wrote (length_put 0 (as_ads kind f.done) before (omega (arith, f.long, f.sized)))

  -- there is room for one more
  pub fill_room : found < most_listed → (w - time_size) * found + (w - time_size) ≤ length list
  fill_room h =
      let k = mul-le-mul_left (w - time_size) h in
      let e = mul-suc (w - time_size) found in
      let m = mul_comm most_listed (w - time_size) in
      omega (arith, f.sized, fill_length)

  -- the next one
  next_one : {e after : List ℕ} → rest ≡ e ++ after → length e ≡ w → Taken w f.left rest e after
  next_one o l = taken w f.left rest _ _ (omega (arith, f.wide)) f.ends o l

  -- the next entry does not pass
  pub fill_over : {e after : List ℕ} → rest ≡ e ++ after → length e ≡ w → p e ≡ false → Filled p kind w n stored before after found list
  unfolding keep
  fill_over o l h =
      let t = next_one o l in
      record {
        wide = f.wide;
        sized = f.sized;
        left = f.left - 1;
        ends = t.ends;
        done = f.done;
        split = f.split ∙ rw (t.cut, h);
        counted = f.counted;
        few = f.few;
        long = f.long;
        wrote = f.wrote;
      }

  -- the next entry passes, and is written behind the others
  pub fill_in : {e after : List ℕ} → rest ≡ e ++ after → length e ≡ w → p e ≡ true → found < most_listed
      → let at = (w - time_size) * found in Filled p kind w n stored before after (found + 1) (put_mid at (at + (w - time_size) - at) list (listed kind e))
  unfolding keep
  fill_in {e} {after} o h t m =
      let k = next_one o h in
      let at = (w - time_size) * found in
      let l = listed_long kind w e f.wide h in
      record {
        wide = f.wide;
        sized = f.sized;
        left = f.left - 1;
        ends = k.ends;
        done = f.done ++ (e ∷ []);
        split = f.split ∙ rw (k.cut, t) (sym (append_assoc f.done (e ∷ []) (keep p (chunks w (f.left - 1) after))));
        counted = length-append f.done (e ∷ []) ∙ rw f.counted;
        few = omega arith;
        long = rw (ads_more, add-one, mul-suc) (length-append (as_ads kind f.done) (listed kind e) ∙ rw (f.long, l));
        wrote = lent_back at (w - time_size) list (listed kind e) l ∙ rw (f.wrote, ads_more) (put_behind at (as_ads kind f.done) (listed kind e) before f.long);
      }

  -- ten are found, or none is left
  pub fill_full : {v : ℕ} → w ≡ v → found ≡ most_listed → AdsWritten kind (take most_listed (keep p (chunks v n stored))) before found list
  fill_full q m =
      let e : take most_listed (keep p (chunks w n stored)) ≡ f.done =
      rw f.split (take_at f.done (keep p (chunks w f.left rest)) most_listed (f.counted ∙ m)) in
      rw (← q) (record { counted = rw (e, f.counted); leaves = rw (e, f.wrote) })

  none_left : length rest < w → f.left ≡ 0
  none_left h = go f.left f.ends
    where
      go : (m : ℕ) → length rest ≡ w * m → m ≡ 0
      go zero e = refl
      go (suc m) e = let s = mul-suc w m in absurd (omega arith)

  pub fill_end : {v : ℕ} → w ≡ v → length rest < w → AdsWritten kind (take most_listed (keep p (chunks v n stored))) before found list
  unfolding chunks keep
  fill_end q h =
      let z = none_left h in
      let whole : keep p (chunks w n stored) ≡ f.done = f.split ∙ rw z (append-nil f.done) in
      let e : take most_listed (keep p (chunks w n stored)) ≡ f.done = rw whole (take_all most_listed f.done (rw f.counted f.few)) in
      rw (← q) (record { counted = rw (e, f.counted); leaves = rw (e, f.wrote) })

-- an entry is wanted where it is live, of the service and not withdrawn
pub wanted_of : (ks : Kinds) (clock from : ℕ) (s e : List ℕ) → from ≡ live_from clock → wanted_from ks from s e ≡ wanted ks clock s e
wanted_of ks clock from s e h = rw (h, live_from_lem)

-- one of the two tests fails, whatever the other says
pub not_wanted : {a : Bool} (b : Bool) → a ≡ false → both a b ≡ false
not_wanted b h = rw h

pub is_older : (a : Bool) {b : Bool} → b ≡ false → both a b ≡ false
is_older a h = rw h (both_false a)

-- ---- the answer and the buffer

pub refused_got : (sh : Shape) (oldest : ℕ) (cache : List ℕ) (clock : ℕ) (s list : List ℕ) (n : ℕ) → n ≡ refusal (rows sh cache clock s (length list)) → (n ≡ 0 → ⊥)
    → GotSince sh oldest cache clock s list (Refused n) list
unfolding answer_of buffer_of
refused_got sh oldest cache clock s list n e h =
    let es = chosen_since sh.address oldest sh.kinds clock s (entries sh cache) in
    record {
      answered = at_number (λ m. answer_of m (length es)) (λ m. Refused m) (λ m. refl) n _ e h;
      refused = e;
      told = λ z. absurd (h z);
      leaves = at_number (λ m. buffer_of m (as_ads sh.kinds.ad es) list) (λ m. list) (λ m. refl) n _ e h;
    }

pub listed_got : (sh : Shape) (oldest : ℕ) (cache : List ℕ) (clock : ℕ) (s list : List ℕ) (found : ℕ) (left : List ℕ) → refusal (rows sh cache clock s (length list)) ≡ 0
    → AdsWritten sh.kinds.ad (chosen_since sh.address oldest sh.kinds clock s (entries sh cache)) list found left → GotSince sh oldest cache clock s list (Ads found) left
unfolding answer_of buffer_of
listed_got sh oldest cache clock s list found left e w =
    record { answered = rw (e, w.counted); refused = sym e; told = λ z. w.counted; leaves = rw (e, w.leaves) }
