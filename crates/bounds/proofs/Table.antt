-- Laws of the table (specs/Chains.antt), over any slots: it begins empty, one record more is entered, and a chain is walked.
use Rattle.std.proofs.Common.{◌≡◌, ℕ, ◌+◌, ◌-◌, ◌<◌, ◌≤◌, Bool, true, false, eqb, ltb, List, length, get_or, set, replicate, sym, refl, ap, ◌∙◌, ⊎_elim, le_refl, eq-or-lt_of_le, arith, length-set, get_or-set_other, get_or-set_same, ltb-false, ltb-true, eqb-true}
use borrow.Author.Tests.{eqb-false}
use lib.ListN.{get_or-replicate, length-replicate}
use Rattle.bounds.specs.Bounds.{most_bounds}
use Rattle.bounds.specs.Hashing.{slots}
use Rattle.bounds.specs.Chains.{LastIn, Linked, Chained}

-- ---- what is left of a chain from p on

pub record Rest (k : ℕ → List ℕ) (n : ℕ) (own : List ℕ) (nexts : List ℕ) (p : ℕ) : Type 0 where
  pub slot : List ℕ → ℕ
  pub few : p ≤ n
  pub here : 1 ≤ p → slot (k p) ≡ slot own
  pub none : (q : ℕ) → p < q → q ≤ n → k q ≡ own → ⊥
  pub linked : Linked (λ j. slot (k j)) n nexts

module _ {k : ℕ → List ℕ} {n : ℕ} {own : List ℕ} {nexts : List ℕ} where
  pub rest_start : (first : ℕ) → Chained k n own first nexts → Rest k n own nexts first
  rest_start first c =
      record { slot = c.slot; few = c.last.few; here = c.last.here; none = λ q l m e. c.last.none q l m (ap c.slot e); linked = c.linked }

  -- the record at p has another pair
  pub rest_next : (p : ℕ) → Rest k n own nexts p → 1 ≤ p → (k p ≡ own → ⊥) → Rest k n own nexts (get_or nexts p 0)
  rest_next p r l other =
      record { slot = r.slot; few = omega (arith, last.few, r.few); here = λ m. last.here m ∙ r.here l; none = λ q m f e. go q m f e (ltb p q) refl; linked = r.linked }
    where
      last : LastIn (λ j. r.slot (k j)) (p - 1) (r.slot (k p)) (get_or nexts p 0)
      last = r.linked p l r.few

      go : (q : ℕ) → get_or nexts p 0 < q → q ≤ n → k q ≡ own → (b : Bool) → ltb p q ≡ b → ⊥
      go q m f e true t = r.none q (ltb-true p q t) f e
      go q m f e false t =
          ⊎_elim (λ d. other (sym (ap k d) ∙ e)) (λ d. last.none q m (omega arith) (ap r.slot e ∙ sym (r.here l))) (eq-or-lt_of_le (ltb-false p q t))

  pub rest_falls : (p : ℕ) → Rest k n own nexts p → 1 ≤ p → get_or nexts p 0 < p
  rest_falls p r l = omega (arith, (r.linked p l r.few).few)

-- ---- the whole table

pub record Table (f : ℕ → ℕ) (n : ℕ) (heads nexts : List ℕ) : Type 0 where
  pub heads_long : length heads ≡ slots
  pub nexts_long : length nexts ≡ most_bounds + 1
  pub lasts : (h : ℕ) → h < slots → LastIn f n h (get_or heads h 0)
  pub linked : Linked f n nexts

module _ (f : ℕ → ℕ) where
  pub table_start : Table f 0 (replicate slots 0) (replicate (most_bounds + 1) 0)
  table_start =
      record {
        heads_long = length-replicate {A = ℕ} slots 0;
        nexts_long = length-replicate {A = ℕ} (most_bounds + 1) 0;
        lasts = λ h l. let e : ◌≡◌ {A = ℕ} (get_or (replicate slots 0) h 0) 0 = get_or-replicate {A = ℕ} slots h 0 0 l in
            record { few = omega arith; here = λ m. absurd (omega arith); none = λ q m o d. absurd (omega arith) };
        linked = λ p l m. absurd (omega arith);
      }

  -- one record more, in its slot
  pub table_next : (n : ℕ) (heads nexts : List ℕ) (h : ℕ) → Table f n heads nexts → n < most_bounds → f (n + 1) ≡ h → h < slots
      → Table f (n + 1) (set heads h (n + 1)) (set nexts (n + 1) (get_or heads h 0))
  table_next n heads nexts h t few e l =
      record {
        heads_long = length-set heads h (n + 1) ∙ t.heads_long;
        nexts_long = length-set nexts (n + 1) (get_or heads h 0) ∙ t.nexts_long;
        lasts = λ j m. at_slot j m (eqb j h) refl;
        linked = λ p m o. at_record p m o (eqb p (n + 1)) refl;
      }
    where
      at_slot : (j : ℕ) → j < slots → (b : Bool) → eqb j h ≡ b → LastIn f (n + 1) j (get_or (set heads h (n + 1)) j 0)
      at_slot j m true d =
          let k = eqb-true j h d in
          let g : get_or (set heads h (n + 1)) j 0 ≡ n + 1 = rw k (get_or-set_same heads h (n + 1) 0 (omega (arith, t.heads_long))) in
          rw g (record { few = le_refl (n + 1); here = λ _. e ∙ sym k; none = λ q x y z. omega arith })
      at_slot j m false d =
          let g = get_or-set_other heads h j (n + 1) 0 (eqb-false j h d) in
          let old = t.lasts j m in
          rw g
          (record {
            few = omega (arith, old.few);
            here = old.here;
            none = λ q x y z. ⊎_elim (λ i. eqb-false j h d (sym z ∙ ap f i ∙ e)) (λ i. old.none q x (omega arith) z) (eq-or-lt_of_le y);
          })

      at_record : (p : ℕ) → 1 ≤ p → p ≤ n + 1 → (b : Bool) → eqb p (n + 1) ≡ b → LastIn f (p - 1) (f p) (get_or (set nexts (n + 1) (get_or heads h 0)) p 0)
      at_record p m o true d =
          let k = eqb-true p (n + 1) d in
          let g : get_or (set nexts (n + 1) (get_or heads h 0)) (n + 1) 0 ≡ get_or heads h 0 = get_or-set_same nexts (n + 1) (get_or heads h 0) 0 (omega (arith, t.nexts_long)) in
          let i : n + 1 - 1 ≡ n = omega arith in
          rw (k, g, i, e) (t.lasts h l)
      at_record p m o false d =
          let g = get_or-set_other nexts (n + 1) p (get_or heads h 0) 0 (eqb-false p (n + 1) d) in
          let k = eqb-false p (n + 1) d in
          rw g (t.linked p m (⊎_elim (λ i. absurd (k i)) (λ i. omega arith) (eq-or-lt_of_le o)))
