-- `sum_of_products` is right because both products are within their limit, so nothing overflows and the machine's sum is the exact one.
use mathlib.Core.Path.{refl}
use Prim.Native.Nat.{◌*◌, ◌≤◌}
use native.Mathlib.Omega.{arith}
use lib.IntN.{ℤ, ◌+ℤ◌, ◌*ℤ◌, nat_abs}
use mir.Facts.{to_z-of_z}
use mir.Syntax.{w64}
use mir.Val.{SFits}
use Rattle.ints.proofs.Abs.{abs_plus, abs_times}
use Rattle.ints.proofs.Fit.{fits}
use Rattle.spectrum.specs.Limits.{LARGEST_PRODUCT, LARGEST_SUM}
use Rattle.pair.proofs.sum_of_products.Goals as goal

product_fits : (x y : ℤ) → nat_abs x * nat_abs y ≤ LARGEST_PRODUCT → SFits w64 (x *ℤ y)
product_fits x y h = fits (x *ℤ y) (omega (arith, abs_times x y))

module _ (x y u v : ℤ) (h : nat_abs x * nat_abs y ≤ LARGEST_PRODUCT) (k : nat_abs u * nat_abs v ≤ LARGEST_PRODUCT) where
  sum-size : nat_abs (x *ℤ y +ℤ u *ℤ v) ≤ LARGEST_SUM
  sum-size = omega (arith, abs_plus (x *ℤ y) (u *ℤ v), abs_times x y, abs_times u v)

  sum_fits : SFits w64 (x *ℤ y +ℤ u *ℤ v)
  sum_fits = fits (x *ℤ y +ℤ u *ℤ v) (omega (arith, sum-size))

pub overflow_mul-result : goal.overflow_mul-result
overflow_mul-result c = let a = c.args in let f = c.ranges in rw (to_z-of_z f.b, to_z-of_z f.cosine) (product_fits a.b a.cosine c.requires.0)

pub overflow_mul-result-2 : goal.overflow_mul-result-2
overflow_mul-result-2 c = let a = c.args in let f = c.ranges in rw (to_z-of_z f.mirrored, to_z-of_z f.sine) (product_fits a.mirrored a.sine c.requires.1)

pub overflow_add-result : goal.overflow_add-result
overflow_add-result c = let a = c.args in let f = c.ranges in
    rw (to_z-of_z f.b, to_z-of_z f.cosine, to_z-of_z f.mirrored, to_z-of_z f.sine, to_z-of_z (product_fits a.b a.cosine c.requires.0), to_z-of_z (product_fits a.mirrored a.sine c.requires.1))
    (sum_fits a.b a.cosine a.mirrored a.sine c.requires.0 c.requires.1)

pub returns : goal.returns
returns c = let a = c.args in let f = c.ranges in
    rw (
      to_z-of_z f.b,
      to_z-of_z f.cosine,
      to_z-of_z f.mirrored,
      to_z-of_z f.sine,
      to_z-of_z (product_fits a.b a.cosine c.requires.0),
      to_z-of_z (product_fits a.mirrored a.sine c.requires.1),
      to_z-of_z (sum_fits a.b a.cosine a.mirrored a.sine c.requires.0 c.requires.1),
    )
    (refl, sum-size a.b a.cosine a.mirrored a.sine c.requires.0 c.requires.1)
