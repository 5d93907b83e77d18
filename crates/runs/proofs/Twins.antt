-- Laws of entries that differ in nothing but which of them are withdrawn (specs/Alike.antt): nothing that does not look at kinds tells them apart.
use mathlib.Core.Path.{◌≡◌, refl, sym, ap, ap₂, ◌∙◌}
use mathlib.Core.Bool.{Bool, true, false, cond}
use mathlib.Core.Logic.{inl, inr, ⊎_elim}
use mathlib.Core.List.{List, [], ◌∷◌, ◌++◌}
use Prim.Native.Nat.{ℕ, suc}
use native.Mathlib.Omega.{arith}
use lib.Dec.{leb}
use lib.ListN.{length, take, drop}
use lib.Seq.{drop-drop}
use Rattle.octets.specs.Numbers.{number}
use Rattle.octets.specs.Runs.{part}
use Rattle.record.specs.Layout.{kind_size, time_size, accepted, entry_body}
use Rattle.record.specs.Entries.{with_kind}
use Rattle.record.proofs.Entries.{with_length}
use Rattle.cache.specs.declared.Shape.{Shape}
use Rattle.cache.specs.Chunks.{keep, every}
use Rattle.cache.specs.Cache.{width, held_kind, is_entry, never_fall, is_not_after}
use Rattle.cache.specs.Expiry.{live}
use Rattle.cache.proofs.Chunks.{Each, Wide, both_left, both_right}
use Rattle.load.specs.Counts.{entry_of_pair, counts}
use Rattle.load.proofs.Counted.{behind_kinds, withdrawn_counts}
use Rattle.withdrawal.specs.Marking.{marked}
use Rattle.withdrawal.proofs.Marking.{withdrawn_held}
use Rattle.runs.specs.Alike.{Twin, Twins}
use Rattle.runs.specs.Alike.Twins.{none, more}

-- ---- what does not look at the kind

abbrev pub Blind : (List ℕ → Bool) → Type 0
Blind f = (e g : List ℕ) → drop kind_size e ≡ drop kind_size g → f e ≡ f g

accepted_blind : (e g : List ℕ) → drop kind_size e ≡ drop kind_size g → accepted e ≡ accepted g
unfolding part
accepted_blind e g h = ap (λ (l : List ℕ). number (take time_size l)) h

pub live_blind : (clock : ℕ) → Blind (live clock)
unfolding live
live_blind clock e g h = rw (accepted_blind e g h)

pub past_blind : (clock : ℕ) → Blind (is_not_after clock)
past_blind clock e g h = ap (λ (t : ℕ). leb t clock) (accepted_blind e g h)

pub pair_blind : (s p : List ℕ) → Blind (entry_of_pair s p)
pair_blind s p e g h = let b : entry_body e ≡ entry_body g = sym (drop-drop time_size kind_size e) ∙ ap (drop time_size) h ∙ drop-drop time_size kind_size g in rw b

-- ---- lists of such entries

module _ (sh : Shape) where
  twin_refl : (e : List ℕ) → Twin sh e e
  twin_refl e = record { long = refl; behind = refl; kinds = inl refl }

  pub twins_refl : (es : List (List ℕ)) → Twins sh es es
  twins_refl [] = none
  twins_refl (e ∷ es) = more (twin_refl e) (twins_refl es)

  -- one of them is withdrawn
  pub marked_twins : (p : List ℕ → Bool) (es : List (List ℕ)) → Each (Wide (width sh)) es → every (is_entry sh) es ≡ true → Twins sh (marked p sh.kinds.withdrawn es) es
  unfolding marked every with_kind
  marked_twins p [] wide h = none
  marked_twins p (e ∷ es) (w, ws) h = go (p e) (marked_twins p es ws (both_right (is_entry sh e) (every (is_entry sh) es) h))
    where
      k : ℕ
      k = sh.kinds.withdrawn

      go : (b : Bool) → Twins sh (marked p k es) es → Twins sh (cond b (with_kind k e ∷ es) (e ∷ marked p k es)) (e ∷ es)
      go true i =
          let held = both_left (is_entry sh e) (every (is_entry sh) es) h in
          more (record { long = with_length k e (omega arith); behind = refl; kinds = inr (withdrawn_held sh e, held) }) (twins_refl es)
      go false i = more (twin_refl e) i

module _ {sh : Shape} where
  pub length_twins : {es fs : List (List ℕ)} → Twins sh es fs → length es ≡ length fs
  length_twins none = refl
  length_twins (more t ts) = ap suc (length_twins ts)

  behind_twins : {es fs : List (List ℕ)} → Twins sh es fs → behind_kinds es ≡ behind_kinds fs
  behind_twins none = refl
  behind_twins (more t ts) = ap₂ (λ (b : List ℕ) (bs : List (List ℕ)). b ∷ bs) t.behind (behind_twins ts)

  pub every_twins : (p : List ℕ → Bool) → Blind p → {es fs : List (List ℕ)} → Twins sh es fs → every p es ≡ every p fs
  unfolding every
  every_twins p b none = refl
  every_twins p b (more {e} {f} t ts) = rw (b e f t.behind, every_twins p b ts)

  pub kinds_twins : {es fs : List (List ℕ)} → Twins sh es fs → every (is_entry sh) es ≡ every (is_entry sh) fs
  unfolding every
  kinds_twins none = refl
  kinds_twins (more {e} {f} t ts) =
      let k : is_entry sh e ≡ is_entry sh f = ⊎_elim (λ k. ap (held_kind sh.kinds) k) (λ k. k.0 ∙ sym k.1) t.kinds in
      rw (k, kinds_twins ts)

  pub order_twins : (at : ℕ) {es fs : List (List ℕ)} → Twins sh es fs → never_fall at es ≡ never_fall at fs
  unfolding never_fall
  order_twins at none = refl
  order_twins at (more {e} {f} t ts) = rw (accepted_blind e f t.behind, order_twins (accepted f) ts)

  pub keep_twins : (p : List ℕ → Bool) → Blind p → {es fs : List (List ℕ)} → Twins sh es fs → Twins sh (keep p es) (keep p fs)
  unfolding keep
  keep_twins p b none = none
  keep_twins p b (more {e} {f} {es} {fs} t ts) = rw (b e f t.behind) (go (p f) (keep_twins p b ts))
    where
      go : (c : Bool) → Twins sh (keep p es) (keep p fs) → Twins sh (cond c (e ∷ keep p es) (keep p es)) (cond c (f ∷ keep p fs) (keep p fs))
      go true i = more t i
      go false i = i

  pub append_twins : {es fs : List (List ℕ)} (more-es : List (List ℕ)) → Twins sh es fs → Twins sh (es ++ more-es) (fs ++ more-es)
  append_twins ns none = twins_refl sh ns
  append_twins ns (more t ts) = more t (append_twins ns ts)

  -- c, s, the points, and how many are of the pair
  pub counts_twins : (a : ℕ) (s p x : List ℕ) {es fs : List (List ℕ)} → Twins sh es fs → counts a s p x es ≡ counts a s p x fs
  counts_twins a s p x {es} {fs} t = withdrawn_counts es fs (behind_twins t) a s p x
