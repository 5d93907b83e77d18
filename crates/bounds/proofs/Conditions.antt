-- Laws of the conditions on the records (specs/Bounds.antt), record by record: no until is too large, and each pair stands once.
use Rattle.std.proofs.Common.{◌≡◌, ℕ, zero, suc, ◌+◌, ◌-◌, ◌*◌, ◌≤◌, Bool, true, false, not, ◌||◌, eqb, leb, List, [], ◌∷◌, ◌++◌, length, drop, sym, refl, ap, ◌∙◌, ⊎_elim, add-zero, add-suc, eq-or-lt_of_le, arith, eqb-true, leb-true}
use Rattle.octets.specs.Runs.{part, both, same, zeros}
use Rattle.octets.proofs.Runs.{same_true, same_refl, same_differ, both_false, both_one, both_assoc}
use Rattle.record.specs.Layout.{bound_size, pair}
use Rattle.cache.specs.Chunks.{chunks, every}
use Rattle.cache.proofs.Chunks.{all_true}
use Rattle.bounds.specs.Bounds.{most_bounds, is_of, places, in_use, bounds_in, among, is_not_late, each_once, fits, well_bounded}
use Rattle.bounds.specs.Chains.{pair_of, Met}
use Rattle.bounds.proofs.Records.{chunks_suc, pair_at_lem}

pub same_comm : (x y : List ℕ) → same x y ≡ same y x
same_comm x y = go (same y x) refl
  where
    go : (b : Bool) → same y x ≡ b → same x y ≡ b
    go true e = rw (same_true y x e) (same_refl x)
    go false e = same_differ x y (λ d. let z : true ≡ false = sym (same_refl x) ∙ (ap (λ (l : List ℕ). same l x) d ∙ e) in let n : ◌≡◌ {A = ℕ} 0 1 = cc in omega arith)

pub among_next : (a : ℕ) (k : List ℕ) (rs : List (List ℕ)) (r : List ℕ) → among a k (rs ++ (r ∷ [])) ≡ (among a k rs || is_of a k r)
unfolding among
among_next a k [] r = go (is_of a k r)
  where
    go : (b : Bool) → (b || false) ≡ b
    go true = refl
    go false = refl
among_next a k (x ∷ rs) r = go (is_of a k x) (among_next a k rs r)
  where
    go : (b : Bool) → among a k (rs ++ (r ∷ [])) ≡ (among a k rs || is_of a k r) → (b || among a k (rs ++ (r ∷ []))) ≡ ((b || among a k rs) || is_of a k r)
    go true i = refl
    go false i = i

pub every_next : (p : List ℕ → Bool) (rs : List (List ℕ)) (r : List ℕ) → every p (rs ++ (r ∷ [])) ≡ both (every p rs) (p r)
unfolding every
every_next p [] r = both_one (p r)
every_next p (x ∷ rs) r = rw (every_next p rs r) (sym (both_assoc (p x) (every p rs) (p r)))

-- a pair stands once more exactly where it is not among those before it
pub once_next : (a : ℕ) (rs : List (List ℕ)) (r : List ℕ) → each_once a (rs ++ (r ∷ [])) ≡ both (each_once a rs) (not (among a (pair a r) rs))
unfolding each_once among
once_next a [] r = refl
once_next a (x ∷ rs) r =
    rw (among_next a (pair a x) rs r, once_next a rs r, same_comm (pair a r) (pair a x))
    (go (among a (pair a x) rs) (same (pair a x) (pair a r)) (each_once a rs) (among a (pair a r) rs))
  where
    go : (m s o n : Bool) → both (not (m || s)) (both o (not n)) ≡ both (both (not m) o) (not (s || n))
    go true s o n = refl
    go false true o n = sym (both_false o)
    go false false o n = refl

-- ---- the first i records of a buffer

module _ (a : ℕ) (s : List ℕ) where
  -- the pair of the record behind the first i
  pub pair_of_lem : (i : ℕ) → pair a (part (bound_size a * i) (bound_size a) s) ≡ pair_of a s (i + 1)
  unfolding pair_of
  pair_of_lem i = pair_at_lem a (bound_size a * i) s ∙ ap (λ (j : ℕ). part (bound_size a * j + 1) (32 + a) s) (let e : i ≡ i + 1 - 1 = omega arith in e)

  among_suc : (i : ℕ) (own : List ℕ) → among a own (chunks (bound_size a) (suc i) s) ≡ (among a own (chunks (bound_size a) i s) || is_of a own (part (bound_size a * i) (bound_size a) s))
  among_suc i own = rw chunks_suc (among_next a own (chunks (bound_size a) i s) (part (bound_size a * i) (bound_size a) s))

  -- one of them has a pair, or none has
  pub met_among : (i : ℕ) (own : List ℕ) (b : Bool) → Met (pair_of a s) i own b → among a own (chunks (bound_size a) i s) ≡ b
  unfolding among chunks
  met_among zero own true (p, l, m, e) = absurd (omega arith)
  met_among zero own false none = refl
  met_among (suc i) own true (p, l, m, e) =
      among_suc i own ∙ ⊎_elim here (λ d. rw (met_among i own true (p, l, omega arith, e))) (eq-or-lt_of_le m)
    where
      last : (b : Bool) → (b || true) ≡ true
      last true = refl
      last false = refl

      here : p ≡ suc i → (among a own (chunks (bound_size a) i s) || is_of a own (part (bound_size a * i) (bound_size a) s)) ≡ true
      here d =
          let q : pair a (part (bound_size a * i) (bound_size a) s) ≡ own = pair_of_lem i ∙ ap (pair_of a s) (let f : i + 1 ≡ p = omega arith in f) ∙ e in
          rw (q, same_refl own) (last (among a own (chunks (bound_size a) i s)))
  met_among (suc i) own false none =
      let q : is_of a own (part (bound_size a * i) (bound_size a) s) ≡ false =
      same_differ _ own (λ d. none (i + 1) (omega arith) (omega arith) (sym (pair_of_lem i) ∙ d)) in
      let r : among a own (chunks (bound_size a) i s) ≡ false = met_among i own false (λ p l m e. none p l (omega arith) e) in
      among_suc i own ∙ rw (r, q)

  -- what fails of the first i fails of all
  module _ (p : List (List ℕ) → Bool) (q : List (List ℕ) → List ℕ → Bool) (next : (rs : List (List ℕ)) (r : List ℕ) → p (rs ++ (r ∷ [])) ≡ both (p rs) (q rs r)) where
    fails_on : (i d : ℕ) → p (chunks (bound_size a) i s) ≡ false → p (chunks (bound_size a) (i + d) s) ≡ false
    fails_on i zero h = rw add-zero h
    fails_on i (suc d) h = rw (add-suc i d, chunks_suc (bound_size a) (i + d) s, next, fails_on i d h)

    pub fails : (i n : ℕ) → i ≤ n → p (chunks (bound_size a) i s) ≡ false → p (chunks (bound_size a) n s) ≡ false
    fails i n l h = let e : i + (n - i) ≡ n = omega arith in rw (← e) (fails_on i (n - i) h)

-- ---- the form

-- its parts, as the code asks for them
pub form_parts : (a : ℕ) (b : List ℕ) → well_bounded a b ≡ both (fits a b) (both (both (every (is_not_late a) (bounds_in a b)) (each_once a (bounds_in a b))) (zeros (drop (bound_size a * in_use a b) b)))
unfolding well_bounded
form_parts a b = ap (both (fits a b)) (go (every (is_not_late a) (bounds_in a b)) (each_once a (bounds_in a b)) (zeros (drop (bound_size a * in_use a b) b)))
  where
    go : (x y z : Bool) → both x (both y (both z true)) ≡ both (both x y) z
    go x y z = rw both_one (sym (both_assoc x y z))

-- a buffer of a fitting length
pub record Fitting (a : ℕ) (b : List ℕ) : Type 0 where
  pub some : 1 ≤ places a b
  pub most : places a b ≤ most_bounds
  pub size : length b ≡ bound_size a * places a b

pub fitting : (a : ℕ) (b : List ℕ) → fits a b ≡ true → Fitting a b
fitting a b h =
    let n = places a b in
    let t = all_true (leb 1 n ∷ leb n most_bounds ∷ eqb (length b) (bound_size a * n) ∷ []) h in
    record { some = leb-true 1 n t.0; most = leb-true n most_bounds t.1.0; size = eqb-true (length b) (bound_size a * n) t.1.1.0 }
