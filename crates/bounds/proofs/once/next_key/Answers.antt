-- `bounds::once::next_key` does not overflow.
use Rattle.std.proofs.Common.{ℕ, ◌+◌, ◌*◌, ◌^◌, ◌<◌, mul-le-mul_right, arith}
use Rattle.bounds.proofs.once.next_key.Goals as goal

small : (l h : ℕ) → l < 4294967296 → h < 4294967296 → l * 4294957665 + h < 2 ^ 64
small l h p q = let k = mul-le-mul_right 4294957665 p in omega arith

pub overflow_add-result : goal.overflow_add-result
overflow_add-result c = record { fits = small _ _ (omega arith) (omega arith) }
