-- Laws of the tallies (specs/Ledger.antt): a tally is read as it was written, and behind every answer the count is one more and the time that of the newest
-- confirmation.
use mathlib.Core.Path.{◌≡◌, refl, sym, ◌∙◌}
use mathlib.Core.Bool.{Bool, true, false, cond}
use mathlib.Core.List.{List}
use Prim.Native.Nat.{ℕ, suc, ◌+◌, ◌<◌}
use native.Mathlib.Omega.{arith}
use native.Mathlib.Numerals.{add-one}
use lib.Dec.{eqb}
use lib.ListN.{length, set, get_or, length-set}
use lib.Seq.{get_or-set_same, get_or-set_other}
use borrow.Author.Tests.{eqb-true, eqb-false}
use Rattle.admission.specs.Registered.{Registered, Refused, Confirmed, Wait}
use Rattle.admission.specs.Deciding.{is_confirmed}
use Rattle.ledger.specs.Ledger.{advertisers, count_at, confirmed_at, last_at, tallies_size, count_in, At, time_by, confirmed_in, clock_in, last_in, tallied, tallies_after}

-- a tally is read as it was written, and the others stay
module _ (a n visits confirmed last : ℕ) (tallies : List ℕ) (h : a < advertisers) (t : length tallies ≡ tallies_size) where
  other : (i j x : ℕ) (l : List ℕ) → (j ≡ i → ⊥) → get_or (set l i x) j 0 ≡ get_or l j 0
  other i j x l d = get_or-set_other l i j x 0 d

  -- with the count, and with the count and whether there was a confirmation
  one : List ℕ
  one = set tallies (count_at a) visits

  two : List ℕ
  two = set one (confirmed_at a) confirmed

  one_long : length one ≡ tallies_size
  unfolding one
  one_long = length-set tallies (count_at a) visits ∙ t

  two_long : length two ≡ tallies_size
  unfolding two
  two_long = length-set one (confirmed_at a) confirmed ∙ one_long

  pub tallied_long : length (tallied a visits confirmed last tallies) ≡ tallies_size
  unfolding one two
  tallied_long = length-set two (last_at a) last ∙ two_long

  pub count_read : count_in n (tallied a visits confirmed last tallies) ≡ cond (eqb a n) visits (count_in n tallies)
  unfolding one two
  count_read =
      other (last_at a) (count_at n) last two (λ z. omega arith) ∙ other (confirmed_at a) (count_at n) confirmed one (λ z. omega arith) ∙ by (eqb a n) refl
    where
      by : (b : Bool) → eqb a n ≡ b → count_in n (set tallies (count_at a) visits) ≡ cond b visits (count_in n tallies)
      by true e = let f = eqb-true a n e in rw (← f) (get_or-set_same tallies (count_at a) visits 0 (omega arith))
      by false e = let d = eqb-false a n e in other (count_at a) (count_at n) visits tallies (λ z. d (omega arith))

  pub last_read : last_in n (tallied a visits confirmed last tallies) ≡ cond (eqb a n) (time_by confirmed last) (last_in n tallies)
  unfolding one two
  last_read = by (eqb a n) refl
    where
      by : (b : Bool) → eqb a n ≡ b → last_in n (tallied a visits confirmed last tallies) ≡ cond b (time_by confirmed last) (last_in n tallies)
      by true e =
          let f = eqb-true a n e in
          let p = get_or-set_same two (last_at a) last 0 (omega (arith, two_long)) in
          let q = other (last_at a) (confirmed_at a) last two (λ z. omega arith) ∙ get_or-set_same one (confirmed_at a) confirmed 0 (omega (arith, one_long)) in
          rw (← f, p, q)
      by false e =
          let d = eqb-false a n e in
          let p = other (last_at a) (confirmed_at n) last two (λ z. omega arith) ∙ other (confirmed_at a) (confirmed_at n) confirmed one (λ z. d (omega arith)) ∙ other (count_at a) (confirmed_at n) visits tallies (λ z. omega arith) in
          let q = other (last_at a) (last_at n) last two (λ z. d (omega arith)) ∙ other (confirmed_at a) (last_at n) confirmed one (λ z. omega arith) ∙ other (count_at a) (last_at n) visits tallies (λ z. omega arith) in
          rw (p, q)

module _ (a n clock : ℕ) (tallies : List ℕ) (h : a < advertisers) (t : length tallies ≡ tallies_size) where
  -- every visit is one more
  pub count_after : (answer : Registered) → cond (eqb a n) (suc (count_in n tallies)) (count_in n tallies) ≡ count_in n (tallies_after answer a clock tallies)
  count_after answer = by (eqb a n) refl answer
    where
      more : (confirmed last : ℕ) (b : Bool) → eqb a n ≡ b → cond b (suc (count_in n tallies)) (count_in n tallies) ≡ count_in n (tallied a (count_in a tallies + 1) confirmed last tallies)
      more confirmed last true e = let f = eqb-true a n e in sym (count_read a n (count_in a tallies + 1) confirmed last tallies h t ∙ rw (e, ← f, add-one))
      more confirmed last false e = sym (count_read a n (count_in a tallies + 1) confirmed last tallies h t ∙ rw e)

      by : (b : Bool) → eqb a n ≡ b → (r : Registered) → cond b (suc (count_in n tallies)) (count_in n tallies) ≡ count_in n (tallies_after r a clock tallies)
      by b e (Refused k) = more _ _ b e
      by b e (Confirmed k) = more _ _ b e
      by b e (Wait m k) = more _ _ b e

  -- without a confirmation the time stays
  stays : (b : Bool) → eqb a n ≡ b → cond b (last_in n tallies) (last_in n tallies) ≡ cond b (last_in a tallies) (last_in n tallies)
  stays true e = let f = eqb-true a n e in rw f
  stays false e = refl

  -- the time is that of the newest confirmation
  pub last_after : (answer : Registered) → cond (eqb a n) (cond (is_confirmed answer) (At clock) (last_in n tallies)) (last_in n tallies) ≡ last_in n (tallies_after answer a clock tallies)
  last_after (Refused k) = stays (eqb a n) refl ∙ sym (last_read a n _ (confirmed_in a tallies) (clock_in a tallies) tallies h t)
  last_after (Confirmed k) = sym (last_read a n _ 1 clock tallies h t)
  last_after (Wait m k) = stays (eqb a n) refl ∙ sym (last_read a n _ (confirmed_in a tallies) (clock_in a tallies) tallies h t)

  pub tallies_long : (answer : Registered) → length (tallies_after answer a clock tallies) ≡ tallies_size
  tallies_long (Refused k) = tallied_long a n _ _ _ tallies h t
  tallies_long (Confirmed k) = tallied_long a n _ _ _ tallies h t
  tallies_long (Wait m k) = tallied_long a n _ _ _ tallies h t
