-- What every step of a reader (specs/Chunks.antt) keeps holds of what was read.
use mathlib.Core.Path.{◌≡◌, refl}
use mathlib.Core.Bool.{true, false}
use mathlib.Core.List.{List, [], ◌++◌}
use Prim.Native.Nat.{ℕ, zero, suc}
use lib.ListN.{take, drop}
use Rattle.reader.specs.Chunks.{Front, Nothing, Unknown, Cut, Whole, front, on_front, Next, Stop, Goes, on_next, reading, chunks_in}

module _ {S : Type 0} (size : S → ℕ → ℕ) (step : S → List ℕ → Next S) (P : S → List ℕ → Type 0)
    (keeps : (s t : S) (o chunk l : List ℕ) → P s o → step s chunk ≡ Goes t l → P t (o ++ l)) where
  pub chunks_keep : (n : ℕ) (s : S) (o bs : List ℕ) → P s o → P (chunks_in size step n s o bs).state (chunks_in size step n s o bs).output
  unfolding chunks_in
  chunks_keep zero s o bs p = p
  chunks_keep (suc n) s o bs p =
      by (front (size s) bs) (λ k t l e. chunks_keep n t (o ++ l) (drop k bs) (keeps s t o (take k bs) l p e))
    where
      goes : (k : ℕ) (x : Next S) → step s (take k bs) ≡ x
          → ((t : S) (l : List ℕ) → step s (take k bs) ≡ Goes t l → P (chunks_in size step n t (o ++ l) (drop k bs)).state (chunks_in size step n t (o ++ l) (drop k bs)).output)
          → P (on_next x (reading s o [] true) (λ u l. chunks_in size step n u (o ++ l) (drop k bs))).state (on_next x (reading s o [] true) (λ u l. chunks_in size step n u (o ++ l) (drop k bs))).output
      goes k Stop e i = p
      goes k (Goes t l) e i = i t l e

      by : (f : Front)
          → ((k : ℕ) (t : S) (l : List ℕ) → step s (take k bs) ≡ Goes t l → P (chunks_in size step n t (o ++ l) (drop k bs)).state (chunks_in size step n t (o ++ l) (drop k bs)).output)
          → P
          (on_front f (reading s o [] false) (reading s o [] true) (reading s o bs false) (λ k. on_next (step s (take k bs)) (reading s o [] true) (λ u l. chunks_in size step n u (o ++ l) (drop k bs)))).state
          (on_front f (reading s o [] false) (reading s o [] true) (reading s o bs false) (λ k. on_next (step s (take k bs)) (reading s o [] true) (λ u l. chunks_in size step n u (o ++ l) (drop k bs)))).output
      by Nothing i = p
      by Unknown i = p
      by Cut i = p
      by (Whole k) i = goes k (step s (take k bs)) refl (i k)
