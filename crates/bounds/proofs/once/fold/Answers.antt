-- `bounds::once::fold` meets its contract: the product of two halves fits a word.
use Rattle.std.proofs.Common.{ℕ, ◌*◌, ◌^◌, ◌<◌, ◌≤◌, refl, mul-le-mul, arith}
use Rattle.bounds.specs.Hashing.{fold}
use Rattle.bounds.proofs.once.fold.Goals as goal

small : (l h : ℕ) → l < 4294967296 → h < 4294967296 → l * h < 2 ^ 64
small l h p q =
    let l₁ : l ≤ 4294967295 = omega arith in
    let h₁ : h ≤ 4294967295 = omega arith in
    let k = mul-le-mul l₁ h₁ in
    omega arith

pub returns : goal.returns
unfolding fold
returns c = refl

pub overflow_mul-result : goal.overflow_mul-result
overflow_mul-result c = record { fits = small _ _ (omega arith) (omega arith) }
