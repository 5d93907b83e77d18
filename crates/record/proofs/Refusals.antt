-- Laws of a table of refusals (specs/Refusals.antt).
use mathlib.Core.Path.{◌≡◌, refl, ap, ◌∙◌}
use mathlib.Core.Bool.{Bool, true, false, not}
use mathlib.Core.List.{List, [], ◌∷◌}
use Prim.Native.Nat.{ℕ, zero, suc}
use native.Mathlib.Omega.{arith}
use lib.Dec.{eqb}
use borrow.Author.Tests.{eq-eqb, ne_eqb, eqb-true, not-false}
use Rattle.std.specs.Prelude.{Result, Ok, Err}
use Rattle.std.specs.Result.{IsErrAnd, is_err}
use Rattle.record.specs.declared.reasons.Refusal.{Refusal}
use Rattle.record.specs.declared.reasons.Refusal.TheVariants.{Cache, Length, Clock, AdLength, Unvouched, AlreadyHeld, TicketForm, TicketTag, TicketTimes, OtherAd, OutsideWindow, ProtocolLength, AdKind, PortZero, MessageForm, NoMessage, NotHeld, Bounds, BoundsFull, Stamp}
use Rattle.record.specs.Refusals.{number_of, code, Row, row, refusal, beside, Reply, reply, replied}

-- the first row's condition is true: its number; it is not: the rows behind it
pub refused : (n : ℕ) {t : Bool} (rs : List Row) → t ≡ true → refusal (row n t ∷ rs) ≡ n
unfolding refusal
refused n rs e = rw e

pub passed : (n : ℕ) {t : Bool} (rs : List Row) → t ≡ false → refusal (row n t ∷ rs) ≡ refusal rs
unfolding refusal
passed n rs e = rw e

-- a last row whose condition is false gives none
pub last_passed : (n : ℕ) {t : Bool} → t ≡ false → refusal (row n t ∷ []) ≡ 0
unfolding refusal
last_passed n e = rw e

-- no refusal: no row's condition is true
pub record NoneRefused (t : Bool) (rs : List Row) : Type 0 where
  pub here : t ≡ false
  pub behind : refusal rs ≡ 0

pub none_refused : (n : ℕ) (t : Bool) (rs : List Row) → refusal (row (suc n) t ∷ rs) ≡ 0 → NoneRefused t rs
unfolding refusal
none_refused n true rs e = let z : suc n ≡ 0 = e in absurd (omega arith)
none_refused n false rs e = record { here = refl; behind = e }

-- a condition that two numbers differ, and what makes it true or false
pub differ : (m n : ℕ) → (m ≡ n → ⊥) → not (eqb m n) ≡ true
differ m n h = rw (ne_eqb m n h)

pub agree : (m n : ℕ) → m ≡ n → not (eqb m n) ≡ false
agree m n h = rw (eq-eqb m n h)

pub not_differ : (m n : ℕ) → not (eqb m n) ≡ false → m ≡ n
not_differ m n e = eqb-true m n (not-false (eqb m n) e)

-- a definition with a clause for no refusal and one for a number, at a number
pub at_number : {A : Type 0} (of clause : ℕ → A) → ((m : ℕ) → clause (suc m) ≡ of (suc m)) → (r n : ℕ) → r ≡ n → (r ≡ 0 → ⊥) → clause r ≡ of n
at_number of clause s r zero e h = absurd (h e)
at_number of clause s r (suc n) e h = ap clause e ∙ s n

-- what reading answers, with a refusal and without, and its number
module _ {F R : Type 0} (give : ℕ → F → R) (none : F) where
  pub beside_refused : (r n : ℕ) (f : F) → r ≡ n → (r ≡ 0 → ⊥) → give r none ≡ beside give none n f
  unfolding beside
  beside_refused r n f e h = at_number (λ m. beside give none m f) (λ m. give m none) (λ m. refl) r n e h

  pub beside_none : (r n : ℕ) (f : F) → r ≡ n → r ≡ 0 → give r f ≡ beside give none n f
  unfolding beside
  beside_none r n f e h = rw (← e, h)

  pub beside_number : (number : R → ℕ) → ((m : ℕ) (g : F) → number (give m g) ≡ m) → (n : ℕ) (f : F) → number (beside give none n f) ≡ n
  unfolding beside
  beside_number number h zero f = h 0 f
  beside_number number h (suc n) f = h (suc n) none

-- a call that gives a number leaves the buffer, and one that gives none has written it
pub replied_refused : (r n : ℕ) (full before : List ℕ) → r ≡ n → (r ≡ 0 → ⊥) → reply r before ≡ replied n full before
unfolding replied
replied_refused r n full before e h = at_number (λ m. replied m full before) (λ m. reply m before) (λ m. refl) r n e h

pub replied_done : (r n : ℕ) (full before b : List ℕ) → r ≡ n → r ≡ 0 → b ≡ full → reply r b ≡ replied n full before
unfolding replied
replied_done r n full before b e z w = rw (← e, z, w)

-- so from what it answers it follows what it wrote
pub record Wrote (n : ℕ) (full b : List ℕ) : Type 0 where
  pub none : n ≡ 0
  pub written : full ≡ b

pub replied_wrote : (n : ℕ) (full before b : List ℕ) → replied n full before ≡ reply 0 b → Wrote n full b
unfolding replied
replied_wrote zero full before b e = record { none = refl; written = ap (λ (r : Reply). r.buffer) e }
replied_wrote (suc n) full before b e = let z : suc n ≡ 0 = ap (λ (r : Reply). r.number) e in absurd (omega arith)

-- ---- an answer that is a Result

-- no refusal has the number of none
pub number_not_0 : (e : Refusal) → number_of e ≡ 0 → ⊥
number_not_0 Cache z = omega (arith, z)
number_not_0 Length z = omega (arith, z)
number_not_0 Clock z = omega (arith, z)
number_not_0 AdLength z = omega (arith, z)
number_not_0 Unvouched z = omega (arith, z)
number_not_0 AlreadyHeld z = omega (arith, z)
number_not_0 TicketForm z = omega (arith, z)
number_not_0 TicketTag z = omega (arith, z)
number_not_0 TicketTimes z = omega (arith, z)
number_not_0 OtherAd z = omega (arith, z)
number_not_0 OutsideWindow z = omega (arith, z)
number_not_0 ProtocolLength z = omega (arith, z)
number_not_0 AdKind z = omega (arith, z)
number_not_0 PortZero z = omega (arith, z)
number_not_0 MessageForm z = omega (arith, z)
number_not_0 NoMessage z = omega (arith, z)
number_not_0 NotHeld z = omega (arith, z)
number_not_0 Bounds z = omega (arith, z)
number_not_0 BoundsFull z = omega (arith, z)
number_not_0 Stamp z = omega (arith, z)

-- a refusal that `?` hands on is the one that was given
pub handed_on : {T : Type 0} (r : Result T Refusal) (e : Refusal) → IsErrAnd r (λ x. x ≡ e) → r ≡ Err e
handed_on (Ok x) e h = absurd h
handed_on (Err x) e h = ap Err h

-- what a call answers and leaves in its buffer where another's refusal is handed on, and where it has written
pub replied_err : {T : Type 0} (r : Result T Refusal) (e : Refusal) (n : ℕ) (full before : List ℕ) → IsErrAnd r (λ x. x ≡ e) → number_of e ≡ n
    → reply (code r) before ≡ replied n full before
replied_err r e n full before h k = rw (handed_on r e h) (replied_refused (number_of e) n full before k (number_not_0 e))

pub replied_ok : (n : ℕ) (full before b : List ℕ) → 0 ≡ n → b ≡ full → reply 0 b ≡ replied n full before
replied_ok n full before b k w = replied_done 0 n full before b k refl w

-- whether an answer is a refusal, by its number
pub err_code : {T : Type 0} (r : Result T Refusal) → is_err r ≡ true → code r ≡ 0 → ⊥
err_code (Ok x) h z = absurd (cc)
err_code (Err e) h z = number_not_0 e z

pub ok_code : {T : Type 0} (r : Result T Refusal) → is_err r ≡ false → code r ≡ 0
ok_code (Ok x) h = refl
ok_code (Err e) h = absurd (cc)
