-- The order of a listing (specs/Listing.antt), whatever is asked for; and its length.
use mathlib.Core.Path.{◌≡◌, refl, sym, ◌∙◌}
use mathlib.Core.Bool.{Bool, true, false, cond}
use mathlib.Core.List.{List, [], ◌∷◌, ◌++◌, map}
use Prim.Native.Nat.{ℕ, zero, suc, ◌-◌, ◌*◌, ◌≤◌, zero-le}
use native.Mathlib.Omega.{arith}
use native.Mathlib.Nat.{zero-mul, suc-mul, le_refl, le_trans}
use lib.Dec.{leb}
use lib.ListN.{length, take, drop, take-append-drop, length-append, length-drop}
use borrow.Author.Tests.{leb-true, le-leb}
use Rattle.record.specs.Layout.{time_size, entry_body_at, accepted}
use Rattle.record.specs.Entries.{listed}
use Rattle.cache.specs.declared.Kinds.{Kinds}
use Rattle.cache.specs.declared.Shape.{Shape}
use Rattle.cache.specs.Chunks.{joined, keep}
use Rattle.cache.specs.Cache.{entries, never_fall, well_formed}
use Rattle.cache.proofs.Chunks.{Each, Wide, both_left, both_right, both_intro}
use Rattle.cache.proofs.Cache.{well_formed_lem}
use Rattle.listing.specs.Listing.{most_listed, wanted, chosen, as_ads}

-- ---- oldest first

keep_order : (p : List ℕ → Bool) (t u : ℕ) (es : List (List ℕ)) → t ≤ u → never_fall u es ≡ true → never_fall t (keep p es) ≡ true
unfolding keep never_fall
keep_order p t u [] k h = refl
keep_order p t u (e ∷ es) k h =
    let l : t ≤ accepted e = le_trans k (leb-true u (accepted e) (both_left (leb u (accepted e)) (never_fall (accepted e) es) h)) in
    let r = both_right (leb u (accepted e)) (never_fall (accepted e) es) h in
    go (p e) (le-leb t (accepted e) l) (keep_order p (accepted e) (accepted e) es (le_refl (accepted e)) r) (keep_order p t (accepted e) es l r)
  where
    go : (b : Bool) → leb t (accepted e) ≡ true → never_fall (accepted e) (keep p es) ≡ true → never_fall t (keep p es) ≡ true
        → never_fall t (cond b (e ∷ keep p es) (keep p es)) ≡ true
    go true l i j = both_intro (leb t (accepted e)) (never_fall (accepted e) (keep p es)) l i
    go false l i j = j

front_order : (t : ℕ) (es fs : List (List ℕ)) → never_fall t (es ++ fs) ≡ true → never_fall t es ≡ true
unfolding never_fall
front_order t [] fs h = refl
front_order t (e ∷ es) fs h =
    both_intro (leb t (accepted e)) (never_fall (accepted e) es) (both_left (leb t (accepted e)) (never_fall (accepted e) (es ++ fs)) h)
    (front_order (accepted e) es fs (both_right (leb t (accepted e)) (never_fall (accepted e) (es ++ fs)) h))

-- those that are wanted, but for the listed ones
abbrev pub left_out : Kinds → ℕ → List ℕ → List (List ℕ) → List (List ℕ)
left_out ks clock s es = drop most_listed (keep (wanted ks clock s) es)

module _ (sh : Shape) (cache : List ℕ) (clock : ℕ) (s : List ℕ) (well : well_formed sh cache ≡ true) where
  -- "Of more than ten the newest are listed." They are not: those that are left out were accepted no earlier than those that are listed
  pub oldest_listed : never_fall 0 (chosen sh.kinds clock s (entries sh cache) ++ left_out sh.kinds clock s (entries sh cache)) ≡ true
  unfolding chosen
  oldest_listed =
      let all : chosen sh.kinds clock s (entries sh cache) ++ left_out sh.kinds clock s (entries sh cache) ≡ keep (wanted sh.kinds clock s) (entries sh cache) =
      take-append-drop most_listed (keep (wanted sh.kinds clock s) (entries sh cache)) in
      rw all
      (keep_order (wanted sh.kinds clock s) 0 0 (entries sh cache) zero-le (well_formed_lem sh cache well).contents.order)

  -- "The newest is listed first." It is not: accepted times never fall from one listed record to the next
  pub oldest_first : never_fall 0 (chosen sh.kinds clock s (entries sh cache)) ≡ true
  oldest_first = front_order 0 (chosen sh.kinds clock s (entries sh cache)) (left_out sh.kinds clock s (entries sh cache)) oldest_listed

-- ---- lengths, of all that are listed

pub each_keep : (P : List ℕ → Type 0) (p : List ℕ → Bool) (es : List (List ℕ)) → Each P es → Each P (keep p es)
unfolding keep
each_keep P p [] h = h
each_keep P p (e ∷ es) (h, hs) = go (p e) (each_keep P p es hs)
  where
    go : (b : Bool) → Each P (keep p es) → Each P (cond b (e ∷ keep p es) (keep p es))
    go true k = (h, k)
    go false k = k

pub each_take : (P : List ℕ → Type 0) (n : ℕ) (es : List (List ℕ)) → Each P es → Each P (take n es)
each_take P zero es h = tt
each_take P (suc n) [] h = h
each_take P (suc n) (e ∷ es) (h, hs) = (h, each_take P n es hs)

pub listed_long : (kind w : ℕ) (e : List ℕ) → entry_body_at ≤ w → length e ≡ w → length (listed kind e) ≡ w - time_size
unfolding listed
listed_long kind w e h l = rw length-drop (omega arith)

pub ads_long : (kind w : ℕ) (es : List (List ℕ)) → entry_body_at ≤ w → Each (Wide w) es → length (as_ads kind es) ≡ length es * (w - time_size)
unfolding as_ads joined
ads_long kind w [] h k = sym (zero-mul (w - time_size))
ads_long kind w (e ∷ es) h (k, ks) =
    length-append (listed kind e) (joined (map (listed kind) es)) ∙ rw (listed_long kind w e h k, ads_long kind w es h ks, suc-mul) (omega arith)
