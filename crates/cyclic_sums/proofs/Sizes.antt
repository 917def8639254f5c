-- How large the sums of a short block get: a product is at most 2^40 × 2^15 = 2^55, and 32 of them are at most 2^60, so that every sum fits 64 bits.
-- Example: `dot_size s few : nat_abs (dot_product xs ws) ≤ 2 ^ 60`, with few : length xs ≤ SHORT and s : Short xs ws.
use mathlib.Core.List.{List}
use Prim.Native.Nat.{ℕ, ◌^◌, ◌≤◌}
use native.Mathlib.Nat.{mul-le-mul}
use native.Mathlib.Omega.{arith}
use lib.IntN.{ℤ, nat_abs, ◌*ℤ◌}
use lib.ListN.{length}
use Rattle.ints.specs.Cells.{cell}
use Rattle.ints.specs.Sum.{sum}
use Rattle.ints.proofs.Abs.{abs_times}
use Rattle.ints.proofs.Sums.{sum_abs}
use Rattle.cyclic_sums.specs.Short.{SHORT, Short, dot_product}

module _ {xs ws : List ℤ} (s : Short xs ws) where
  pub product_size : (i : ℕ) → nat_abs (cell xs i *ℤ cell ws i) ≤ 2 ^ 55
  product_size i = rw (abs_times (cell xs i) (cell ws i)) (mul-le-mul (s.quiet i) (s.light i))

  -- the first n of them
  pub sum-size : (n : ℕ) → n ≤ SHORT → nat_abs (sum n (λ i. cell xs i *ℤ cell ws i)) ≤ 2 ^ 60
  sum-size n few = omega (arith, sum_abs n (2 ^ 55) (λ i. cell xs i *ℤ cell ws i) (λ i h. product_size i))

  pub dot_size : length xs ≤ SHORT → nat_abs (dot_product xs ws) ≤ 2 ^ 60
  unfolding dot_product
  dot_size few = sum-size (length xs) few
