-- What is left behind a refusal's number.
use mathlib.Core.Path.{◌≡◌, refl}
use Prim.Native.Nat.{ℕ, zero, suc}
use Rattle.unglassot.specs.Host.{unless}

pub kept : {A : Type 0} (n : ℕ) (new old : A) → (n ≡ 0 → ⊥) → old ≡ unless n new old
kept zero new old h = absurd (h refl)
kept (suc n) new old h = refl
