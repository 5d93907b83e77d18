-- The start as the code computes it: products that fit 64 bits, and a fraction whose sides have lost a common factor.
use Prim.Native.Nat.{ℕ, ◌+◌, ◌*◌, ◌/◌, ◌≤◌}
use mathlib.Core.Path.{◌≡◌, sym, ap₂, ◌∙◌}
use native.Mathlib.Nat.{mul-le-mul, one-le-mul, le_trans}
use native.Mathlib.Omega.{arith}
use Rattle.settings.specs.Settings.{lifetime, max_capacity, most_bits}
use Rattle.wait.specs.Wait.{ticks_per_milli, parts, ceil, share, under, start_of, InRange}
use Rattle.wait.proofs.Ceil.{ceil_scale}

-- the constants of src/lib.rt, by their names there
abbrev common : ℕ
common = 100000

abbrev least : ℕ
least = lifetime * ticks_per_milli / common

abbrev whole : ℕ
whole = least * parts

abbrev reduced_top : ℕ → ℕ → ℕ → ℕ → ℕ
reduced_top n C s p = whole * (s * n) + whole * (p * C) + least * (C * n)

abbrev reduced_under : ℕ → ℕ → ℕ
reduced_under n C = parts / common * (C * n)

pub record Products (n C s p : ℕ) : Type 0 where
  pub serving_fits : s * n ≤ max_capacity * most_bits
  pub similar_fits : p * C ≤ max_capacity * most_bits
  pub cells_fit : C * n ≤ max_capacity * most_bits
  pub some_cells : 1 ≤ C * n

pub products : {n C c s p : ℕ} → InRange n C c s p → Products n C s p
products {n} {C} {c} {s} {p} h = record {
  serving_fits = mul-le-mul (le_trans h.serving h.few_capacity) h.few_bits;
  similar_fits = omega (arith, mul-le-mul (le_trans h.similar h.few_bits) h.few_capacity);
  cells_fit = mul-le-mul h.few_capacity h.few_bits;
  some_cells = one-le-mul h.some_capacity h.some_bits;
}

pub start_reduced : (n C s p : ℕ) → 1 ≤ C * n → ceil (reduced_top n C s p) (reduced_under n C) ≡ start_of n C s p
unfolding start_of share under
start_reduced n C s p some =
    sym (ceil_scale common (reduced_top n C s p) (reduced_under n C) (omega arith) (omega arith))
    ∙ ap₂ (λ (a b : ℕ). ceil a b) (omega arith) (omega arith)
