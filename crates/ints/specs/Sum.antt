-- Finite sums of integers. Example: `sum 3 f` is 0 + f 0 + f 1 + f 2.
use Rattle.std.specs.Prelude.{ℕ, zero, suc, ℤ, pos, ◌+ℤ◌}

unfoldable pub sum : ℕ → (ℕ → ℤ) → ℤ
sum zero f = pos zero
sum (suc n) f = sum n f +ℤ f n
