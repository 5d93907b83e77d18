-- What the walk notes beside its check: a time that no until of the records passed is before, and the index of the first of a pair, n where none of them is of it.
-- Its start, one record more, and its end.
use Rattle.std.proofs.Common.{◌≡◌, ℕ, suc, ◌+◌, ◌-◌, ◌*◌, ◌<◌, ◌≤◌, min, Bool, true, false, cond, ltb, List, [], ◌∷◌, ◌++◌, length, take, drop, sym, refl, ap, ◌∙◌, arith, ltb-false, ltb-true, le-leb, leb-true, Some, None}
use Rattle.octets.specs.Runs.{part, same}
use Rattle.octets.proofs.Runs.{lent_part}
use Rattle.record.specs.Layout.{bound_size, pair_at, pair_size, until}
use Rattle.cache.specs.Chunks.{chunks, first_of, every}
use Rattle.cache.proofs.Chunks.{both_left, both_right, both_intro, length_chunks}
use Rattle.bounds.specs.declared.Form.{Form}
use Rattle.bounds.specs.Bounds.{is_of}
use Rattle.bounds.specs.Told.{sound, not_before, Told}
use Rattle.bounds.proofs.Records.{chunks_next, pair_at_lem}
use Rattle.bounds.proofs.Conditions.{every_next}

-- ---- of lists of records

every_weaker : (p q : List ℕ → Bool) → ((r : List ℕ) → p r ≡ true → q r ≡ true) → (rs : List (List ℕ)) → every p rs ≡ true → every q rs ≡ true
unfolding every
every_weaker p q w [] h = refl
every_weaker p q w (r ∷ rs) h =
    both_intro (q r) (every q rs) (w r (both_left (p r) (every p rs) h)) (every_weaker p q w rs (both_right (p r) (every p rs) h))

module _ (p : List ℕ → Bool) where
  -- the first stays the first
  first_stays : (rs ss : List (List ℕ)) → first_of p rs < length rs → first_of p (rs ++ ss) ≡ first_of p rs
  unfolding first_of
  first_stays [] ss h = absurd (omega arith)
  first_stays (x ∷ rs) ss h = go (p x) h (first_stays rs ss)
    where
      go : (b : Bool) → cond b 0 (suc (first_of p rs)) < suc (length rs) → (first_of p rs < length rs → first_of p (rs ++ ss) ≡ first_of p rs) → cond b 0 (suc (first_of p (rs ++ ss))) ≡ cond b 0 (suc (first_of p rs))
      go true h i = refl
      go false h i = ap suc (i (omega arith))

  -- none before the next one
  first_behind : (rs : List (List ℕ)) (r : List ℕ) → first_of p rs ≡ length rs → first_of p (rs ++ (r ∷ [])) ≡ length rs + cond (p r) 0 1
  unfolding first_of
  first_behind [] r h = go (p r)
    where
      go : (b : Bool) → ◌≡◌ {A = ℕ} (cond b 0 1) (0 + cond b 0 1)
      go true = refl
      go false = refl
  first_behind (x ∷ rs) r h = go (p x) h (first_behind rs r)
    where
      go : (b : Bool) → cond b 0 (suc (first_of p rs)) ≡ suc (length rs) → (first_of p rs ≡ length rs → first_of p (rs ++ (r ∷ [])) ≡ length rs + cond (p r) 0 1)
          → cond b 0 (suc (first_of p (rs ++ (r ∷ [])))) ≡ suc (length rs) + cond (p r) 0 1
      go true h i = absurd (omega arith)
      go false h i = let e = i (omega arith) in omega (arith, e)

-- ---- what is told

-- something is not right
pub told_wrong : (a : ℕ) (k : List ℕ) (rs : List (List ℕ)) (right : Bool) → right ≡ false → Told a k rs right None
told_wrong a k rs right e = record { formed_is = sym e; least_is = λ f h. absurd (cc); index_is = λ f h. absurd (cc) }

-- everything is: what is told of the records
pub told_form : {a : ℕ} {k : List ℕ} {rs : List (List ℕ)} {right : Bool} (f : Form) → true ≡ right → every (not_before a f.least) rs ≡ true → f.index ≡ first_of (is_of a k) rs
    → Told a k rs right (Some f)
told_form f o l i = record { formed_is = o; least_is = λ g h. cc; index_is = λ g h. cc }

-- the pair of the next record, compared as it is lent
pub lent_pair : (a i : ℕ) (k s : List ℕ) → same (take (bound_size a * i + pair_at + pair_size a - (bound_size a * i + pair_at)) (drop (bound_size a * i + pair_at) s)) k ≡ is_of a k (part (bound_size a * i) (bound_size a) s)
lent_pair a i k s = rw (lent_part, pair_at_lem) refl

-- ---- of the first i records

pub record Noted (a : ℕ) (k s : List ℕ) (n i least index : ℕ) : Type 0 where
  pub least_is : every (not_before a least) (chunks (bound_size a) i s) ≡ true
  pub found : index < i → first_of (is_of a k) (chunks (bound_size a) i s) ≡ index
  pub none : i ≤ index → (index ≡ n) × (first_of (is_of a k) (chunks (bound_size a) i s) ≡ i)

module _ (a : ℕ) (k s : List ℕ) (n : ℕ) where
  pub noted_start : (least : ℕ) → Noted a k s n 0 least n
  unfolding chunks every first_of
  noted_start least = record { least_is = refl; found = λ h. absurd (omega arith); none = λ h. (refl, refl) }

  -- all are passed
  pub noted_all : (i least index : ℕ) → Noted a k s n i least index → i ≡ n → index ≡ first_of (is_of a k) (chunks (bound_size a) n s)
  noted_all i least index t e = rw (← e) (go (ltb index i) refl)
    where
      go : (b : Bool) → ltb index i ≡ b → index ≡ first_of (is_of a k) (chunks (bound_size a) i s)
      go true h = sym (t.found (ltb-true index i h))
      go false h = let f = t.none (ltb-false index i h) in f.0 ∙ sym e ∙ sym f.1

  pub told_all : (i least index : ℕ) → Noted a k s n i least index → i ≡ n → true ≡ sound a (chunks (bound_size a) n s)
      → Told a k (chunks (bound_size a) n s) (sound a (chunks (bound_size a) n s)) (Some record { least = least; index = index })
  told_all i least index t e o = told_form (record { least = least; index = index }) o (rw (← e) t.least_is) (noted_all i least index t e)

  -- the next record
  module _ (i least index : ℕ) (t : Noted a k s n i least index) (more : i < n) where
    abbrev next : List ℕ
    next = part (bound_size a * i) (bound_size a) s

    abbrev before : List (List ℕ)
    before = chunks (bound_size a) i s

    no_less : (u : ℕ) → u ≡ until a next → every (not_before a (min least u)) (chunks (bound_size a) (i + 1) s) ≡ true
    no_less u e =
        rw (chunks_next, every_next)
        (both_intro _ _ (every_weaker (not_before a least) (not_before a (min least u)) (λ r h. let l = leb-true least (until a r) h in le-leb (min least u) (until a r) (omega arith)) before t.least_is)
        (le-leb (min least u) (until a next) (omega (arith, e))))

    stays : index < i → first_of (is_of a k) (chunks (bound_size a) (i + 1) s) ≡ index
    stays h =
        let f = t.found h in
        rw chunks_next (first_stays (is_of a k) before (next ∷ []) (omega (arith, length_chunks (bound_size a) i s)) ∙ f)

    behind : i ≤ index → first_of (is_of a k) (chunks (bound_size a) (i + 1) s) ≡ i + cond (is_of a k next) 0 1
    behind h =
        let f = (t.none h).1 in
        let l = length_chunks (bound_size a) i s in
        rw chunks_next (first_behind (is_of a k) before next (f ∙ sym l) ∙ rw l)

    noted_by : (u : ℕ) → u ≡ until a next → (b : Bool) → b ≡ is_of a k next → Noted a k s n (i + 1) (min least u) (cond b (min index i) index)
    noted_by u e true d =
        record { least_is = no_less u e; found = λ h. here (ltb index i) refl; none = λ h. absurd (omega arith) }
      where
        here : (c : Bool) → ltb index i ≡ c → first_of (is_of a k) (chunks (bound_size a) (i + 1) s) ≡ min index i
        here true h = let l = ltb-true index i h in stays l ∙ omega arith
        here false h = let l = ltb-false index i h in behind l ∙ rw (← d) (omega arith)
    noted_by u e false d =
        record { least_is = no_less u e; found = λ h. here h (ltb index i) refl; none = λ h. ((t.none (omega arith)).0, behind (omega arith) ∙ rw (← d)) }
      where
        here : index < i + 1 → (c : Bool) → ltb index i ≡ c → first_of (is_of a k) (chunks (bound_size a) (i + 1) s) ≡ index
        here m true h = stays (ltb-true index i h)
        here m false h = let l = ltb-false index i h in absurd (omega (arith, (t.none l).0))

    pub noted_next : (u : ℕ) → u ≡ until a next → (b : Bool) → b ≡ is_of a k next → (l m : ℕ) → l ≡ min least u → m ≡ cond b (min index i) index → Noted a k s n (i + 1) l m
    noted_next u e b d l m el em = rw (el, em) (noted_by u e b d)
