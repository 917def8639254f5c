-- Sizes before and after a fold: a cell of n × 2^34, n up to 512, folds to 2^31 + 2^12 at most, and the two products of such cells with a cosine and a sine
-- to 2^33 at most.
use Prim.Native.Nat.{ℕ, ◌+◌, ◌*◌, ◌^◌, ◌≤◌}
use native.Mathlib.Nat.{mul-le-mul}
use native.Mathlib.Omega.{arith}
use lib.IntN.{ℤ, nat_abs, ◌*ℤ◌}
use Rattle.ints.proofs.Abs.{abs_plus, abs_times}
use Rattle.residues.specs.Folded.{folded}
use Rattle.residues.proofs.Folding.{folded-small}
use Rattle.exact_pair.specs.Pair.{FIRST, Factors, products}

module _ {b mirrored c d : ℤ} (F : Factors b mirrored c d) where
  pub first-size : nat_abs (b *ℤ c) ≤ (2 ^ 31 + 2 ^ 12) * 2 ^ 30
  first-size = omega (arith, abs_times b c, mul-le-mul F.first F.cosine)

  pub second-size : nat_abs (mirrored *ℤ d) ≤ (2 ^ 31 + 2 ^ 12) * 2 ^ 30
  second-size = omega (arith, abs_times mirrored d, mul-le-mul F.second F.sine)

  pub products-size : nat_abs (products b mirrored c d) ≤ (2 ^ 31 + 2 ^ 12) * 2 ^ 31
  products-size = omega (arith, abs_plus (b *ℤ c) (mirrored *ℤ d), first-size, second-size)

  pub folded-products : nat_abs (folded (products b mirrored c d)) ≤ 2 ^ 33
  folded-products = omega (arith, folded-small (2 ^ 31 + 2 ^ 12) (products b mirrored c d) products-size)

-- a cell before a level over halves of n cells
pub folded-cell : (n : ℕ) (z : ℤ) → n ≤ 512 → nat_abs z ≤ n * FIRST → nat_abs (folded z) ≤ 2 ^ 31 + 2 ^ 12
folded-cell n z few h = folded-small (2 ^ 12) z (omega arith)
