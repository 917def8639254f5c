-- How large the sum, the difference and the squares of two lines are: 2^29, 2^29 and 2^57 at most, so all fit 64 bits.
use Prim.Native.Nat.{◌^◌, ◌≤◌}
use native.Mathlib.Nat.{mul-le-mul}
use native.Mathlib.Omega.{arith}
use lib.IntN.{ℤ, ◌+ℤ◌, ◌-ℤ◌, ◌*ℤ◌, nat_abs}
use mir.Syntax.{w64}
use mir.Val.{SFits}
use Rattle.ints.proofs.Abs.{abs_plus, abs_minus, abs_times}
use Rattle.ints.proofs.Fit.{fits}
use Rattle.kind.specs.Loudness.{LOUDEST_LINE}

pub line_fits : (x : ℤ) → nat_abs x ≤ LOUDEST_LINE → SFits w64 x
line_fits x h = fits x (omega arith)

module _ (x y : ℤ) (hx : nat_abs x ≤ LOUDEST_LINE) (hy : nat_abs y ≤ LOUDEST_LINE) where
  pub sum-size : nat_abs (x +ℤ y) ≤ 2 ^ 29
  sum-size = omega (arith, abs_plus x y)

  pub sum_fits : SFits w64 (x +ℤ y)
  sum_fits = fits (x +ℤ y) (omega (arith, sum-size))

  pub difference_size : nat_abs (x -ℤ y) ≤ 2 ^ 29
  difference_size = omega (arith, abs_minus x y)

  pub difference_fits : SFits w64 (x -ℤ y)
  difference_fits = fits (x -ℤ y) (omega (arith, difference_size))

  product_size : nat_abs (x *ℤ y) ≤ 2 ^ 56
  product_size = omega (arith, abs_times x y, mul-le-mul hx hy)

  pub product_fits : SFits w64 (x *ℤ y)
  product_fits = fits (x *ℤ y) (omega (arith, product_size))

pub squares_fit : (x y : ℤ) → nat_abs x ≤ LOUDEST_LINE → nat_abs y ≤ LOUDEST_LINE → SFits w64 (x *ℤ x +ℤ y *ℤ y)
squares_fit x y hx hy = fits (x *ℤ x +ℤ y *ℤ y) (omega (arith, abs_plus (x *ℤ x) (y *ℤ y), product_size x x hx hx, product_size y y hy hy))
