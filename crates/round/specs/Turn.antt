-- One round: FIPS 180-4 section 6.2.2, steps 1 and 3, on the working variables and sixteen words of the message schedule, the round's own first.
use Rattle.std.specs.Prelude.{ℕ, ◌-◌, List, [], ◌∷◌, ◌++◌, get_or, drop}
use Rattle.round.specs.declared.State.{State}
use Rattle.round.specs.Words.{◌⊞◌, ch, maj, Σ₀, Σ₁, σ₀, σ₁}

-- step 1: the next word of the message schedule after t words
unfoldable pub next_word : List ℕ → ℕ → ℕ
next_word w t = σ₁ (get_or w (t - 2) 0) ⊞ get_or w (t - 7) 0 ⊞ σ₀ (get_or w (t - 15) 0) ⊞ get_or w (t - 16) 0

-- step 3: one round on the working variables a to h, with T₁ and T₂
unfoldable pub T₁ : List ℕ → ℕ → ℕ → ℕ
T₁ v k w = get_or v 7 0 ⊞ Σ₁ (get_or v 4 0) ⊞ ch (get_or v 4 0) (get_or v 5 0) (get_or v 6 0) ⊞ k ⊞ w

unfoldable pub T₂ : List ℕ → ℕ
T₂ v = Σ₀ (get_or v 0 0) ⊞ maj (get_or v 0 0) (get_or v 1 0) (get_or v 2 0)

unfoldable pub stepped : List ℕ → ℕ → ℕ → List ℕ
stepped v k w =
    (T₁ v k w ⊞ T₂ v) ∷ get_or v 0 0 ∷ get_or v 1 0 ∷ get_or v 2 0 ∷ (get_or v 3 0 ⊞ T₁ v k w) ∷ get_or v 4 0 ∷ get_or v 5 0 ∷ get_or v 6 0 ∷ []

-- of sixteen words of the schedule, those from the next on
unfoldable pub shifted : List ℕ → List ℕ
shifted w = drop 1 w ++ (next_word w 16 ∷ [])

-- what the next round starts from
unfoldable pub turned : State → ℕ → State
turned s k = record { v = stepped s.v k (get_or s.w 0 0); w = shifted s.w }
