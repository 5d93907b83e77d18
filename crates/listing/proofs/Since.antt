-- Listings with the oldest stamp that is listed (specs/Listing.antt): at 0 they list what is listed where no stamp is judged, and otherwise those alone that have not grown older.
use mathlib.Core.Path.{◌≡◌, refl, ap}
use mathlib.Core.Bool.{Bool, true, false, cond}
use mathlib.Core.List.{List, [], ◌∷◌}
use Prim.Native.Nat.{ℕ, zero, suc, ◌≤◌}
use native.Mathlib.Omega.{arith}
use lib.Dec.{leb-zero}
use lib.ListN.{length, take, length-take}
use Rattle.octets.specs.Runs.{both}
use Rattle.octets.proofs.Runs.{both_one}
use Rattle.record.specs.Refusals.{refusal}
use Rattle.cache.specs.declared.Kinds.{Kinds}
use Rattle.cache.specs.declared.Shape.{Shape}
use Rattle.cache.specs.Chunks.{keep}
use Rattle.cache.specs.Cache.{entries}
use Rattle.listing.specs.Listed.{Listed}
use Rattle.listing.specs.Listing.{refusal_of, number_of, most_listed, rows, wanted, chosen, not_older, wanted_since, chosen_since, answer_of, Got, answer_since, buffer_since, GotSince}

-- ---- those of the wanted that have not grown older

keep_both : (p q : List ℕ → Bool) (rs : List (List ℕ)) → keep (λ r. both (p r) (q r)) rs ≡ keep q (keep p rs)
unfolding keep
keep_both p q [] = refl
keep_both p q (r ∷ rs) = go (p r) (keep_both p q rs)
  where
    go : (b : Bool) → keep (λ x. both (p x) (q x)) rs ≡ keep q (keep p rs)
        → cond (both b (q r)) (r ∷ keep (λ x. both (p x) (q x)) rs) (keep (λ x. both (p x) (q x)) rs) ≡ keep q (cond b (r ∷ keep p rs) (keep p rs))
    go true h = ap (λ (l : List (List ℕ)). cond (q r) (r ∷ l) l) h
    go false h = h

pub since_wanted : (a oldest : ℕ) (ks : Kinds) (clock : ℕ) (s : List ℕ) (es : List (List ℕ))
    → keep (wanted_since a oldest ks clock s) es ≡ keep (not_older a oldest) (keep (wanted ks clock s) es)
since_wanted a oldest ks clock s es = keep_both (wanted ks clock s) (not_older a oldest) es

-- older ones use up none of the ten
pub first_not_older : (a oldest : ℕ) (ks : Kinds) (clock : ℕ) (s : List ℕ) (es : List (List ℕ))
    → chosen_since a oldest ks clock s es ≡ take most_listed (keep (not_older a oldest) (keep (wanted ks clock s) es))
unfolding chosen_since
first_not_older a oldest ks clock s es = ap (take most_listed) (since_wanted a oldest ks clock s es)

-- ---- 0 is above no stamp

pub since_none : (a : ℕ) (ks : Kinds) (clock : ℕ) (s : List ℕ) → wanted_since a 0 ks clock s ≡ wanted ks clock s
since_none a ks clock s = λ i e. one e i
  where
    one : (e : List ℕ) → wanted_since a 0 ks clock s e ≡ wanted ks clock s e
    one e = rw leb-zero (both_one (wanted ks clock s e))

pub chosen_all : (a : ℕ) (ks : Kinds) (clock : ℕ) (s : List ℕ) (es : List (List ℕ)) → chosen_since a 0 ks clock s es ≡ chosen ks clock s es
unfolding chosen chosen_since
chosen_all a ks clock s es = ap (λ (p : List ℕ → Bool). take most_listed (keep p es)) (since_none a ks clock s)

pub got_all : (sh : Shape) (cache : List ℕ) (clock : ℕ) (s list : List ℕ) (answer : Listed) (left : List ℕ) → GotSince sh 0 cache clock s list answer left
    → Got sh cache clock s list answer left
got_all sh cache clock s list answer left g =
    let c = chosen_all sh.address sh.kinds clock s (entries sh cache) in
    record { answered = rw c at g.answered; refused = g.refused; told = λ z. rw c at (g.told z); leaves = rw c at g.leaves }

-- the answer and the buffer that are defined are a call's
pub defined_got : (sh : Shape) (oldest : ℕ) (cache : List ℕ) (clock : ℕ) (s list : List ℕ)
    → GotSince sh oldest cache clock s list (answer_since sh oldest cache clock s list) (buffer_since sh oldest cache clock s list)
unfolding answer_of
defined_got sh oldest cache clock s list =
    record { answered = refl; refused = number (refusal (rows sh cache clock s (length list))); told = λ z. told (refusal (rows sh cache clock s (length list))) z; leaves = refl }
  where
    number : (n : ℕ) → refusal_of (answer_of n (length (chosen_since sh.address oldest sh.kinds clock s (entries sh cache)))) ≡ n
    number zero = refl
    number (suc n) = refl

    told : (n : ℕ) → refusal_of (answer_of n (length (chosen_since sh.address oldest sh.kinds clock s (entries sh cache)))) ≡ 0
        → number_of (answer_of n (length (chosen_since sh.address oldest sh.kinds clock s (entries sh cache)))) ≡ length (chosen_since sh.address oldest sh.kinds clock s (entries sh cache))
    told zero z = refl
    told (suc n) z = absurd (omega (arith, z))

-- never more than ten
pub few_since : (a oldest : ℕ) (ks : Kinds) (clock : ℕ) (s : List ℕ) (es : List (List ℕ)) → length (chosen_since a oldest ks clock s es) ≤ most_listed
unfolding chosen_since
few_since a oldest ks clock s es = rw length-take (omega arith)
