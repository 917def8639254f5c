-- `folded` is right because neither the product nor the difference leaves 64 bits, whatever x is.
use mathlib.Core.Path.{◌≡◌}
use Prim.Native.Nat.{◌*◌, ◌^◌, ◌≤◌}
use native.Mathlib.Omega.{arith}
use lib.IntN.{ℤ, pos, nat_abs, ◌-ℤ◌, ◌*ℤ◌}
use lib.Signed.{shr_z}
use mir.Facts.{to_z-of_z}
use mir.Syntax.{w64}
use mir.Val.{SFits, to_z, of_z}
use Rattle.ints.proofs.Abs.{abs_times}
use Rattle.ints.proofs.Fit.{fits}
use Rattle.residues.specs.Residue.{MODULUS}
use Rattle.residues.specs.Folded.{folded}
use Rattle.residues.proofs.Folding.{fits_small, folded-small, shift_small}
use Rattle.residues.proofs.folded.Goals as goal

module _ (x : ℤ) (f : SFits w64 x) where
  small : nat_abs x ≤ 2 ^ 32 * 2 ^ 31
  small = fits_small x f

  shift_fits : SFits w64 (shr_z x (2 ^ 31))
  shift_fits = fits (shr_z x (2 ^ 31)) (omega (arith, shift_small (2 ^ 32) x small))

  product_fits : SFits w64 (shr_z x (2 ^ 31) *ℤ pos MODULUS)
  product_fits = fits (shr_z x (2 ^ 31) *ℤ pos MODULUS) (omega (arith, abs_times (shr_z x (2 ^ 31)) (pos MODULUS), shift_small (2 ^ 32) x small))

  folded_fits : SFits w64 (x -ℤ shr_z x (2 ^ 31) *ℤ pos MODULUS)
  unfolding folded
  folded_fits = fits (folded x) (omega (arith, folded-small (2 ^ 32) x small))

  is-folded : to_z w64 (of_z w64 (x -ℤ shr_z x (2 ^ 31) *ℤ pos MODULUS)) ≡ folded x
  unfolding folded
  is-folded = to_z-of_z folded_fits

pub overflow_mul-result : goal.overflow_mul-result
overflow_mul-result c = let f = c.ranges.x in rw (to_z-of_z f, to_z-of_z (shift_fits c.args.x f)) (product_fits c.args.x f)

pub overflow_sub-result : goal.overflow_sub-result
overflow_sub-result c = let f = c.ranges.x in rw (to_z-of_z f, to_z-of_z (shift_fits c.args.x f), to_z-of_z (product_fits c.args.x f)) (folded_fits c.args.x f)

pub returns : goal.returns
returns c = let f = c.ranges.x in rw (to_z-of_z f, to_z-of_z (shift_fits c.args.x f), to_z-of_z (product_fits c.args.x f)) (is-folded c.args.x f)
