-- `put_both` is right because a cell that can be multiplied and the quotient of a sum have a sum and a difference that fit.
use mathlib.Core.Path.{◌≡◌, ap₂}
use mathlib.Core.List.{List}
use Prim.Native.Nat.{ℕ, ◌+◌, ◌≤◌}
use native.Mathlib.Omega.{arith}
use lib.IntN.{ℤ, nat_abs, ◌+ℤ◌, ◌-ℤ◌}
use lib.ListN.{set, length-set}
use mir.Facts.{to_z-of_z}
use mir.Syntax.{w64}
use mir.Val.{SFits, to_z, of_z}
use Rattle.ints.proofs.Abs.{abs_plus, abs_minus}
use Rattle.ints.proofs.Fit.{fits, reads_back}
use Rattle.ints.specs.Cells.{cell}
use Rattle.spectrum.specs.Limits.{LARGEST_PRODUCT, LARGEST_SUM}
use Rattle.pair.specs.Pair.{split}
use Rattle.pair.proofs.put_both.Goals as goal

sum_fits : (a q : ℤ) → nat_abs a ≤ LARGEST_PRODUCT → nat_abs q ≤ LARGEST_SUM → SFits w64 (a +ℤ q)
sum_fits a q h k = fits (a +ℤ q) (omega (arith, abs_plus a q))

difference_fits : (a q : ℤ) → nat_abs a ≤ LARGEST_PRODUCT → nat_abs q ≤ LARGEST_SUM → SFits w64 (a -ℤ q)
difference_fits a q h k = fits (a -ℤ q) (omega (arith, abs_minus a q))

back : (a : ℤ) → nat_abs a ≤ LARGEST_PRODUCT → to_z w64 (of_z w64 a) ≡ a
back a h = reads_back a LARGEST_PRODUCT (omega arith) h

-- as the machine has them, where x is read for a and r for q
sum-written : (a q : ℤ) {x r : ℤ} → nat_abs a ≤ LARGEST_PRODUCT → nat_abs q ≤ LARGEST_SUM → x ≡ a → r ≡ q → to_z w64 (of_z w64 (x +ℤ r)) ≡ a +ℤ q
sum-written a q h k e f = rw (e, f) (to_z-of_z (sum_fits a q h k))

difference-written : (a q : ℤ) {x r : ℤ} → nat_abs a ≤ LARGEST_PRODUCT → nat_abs q ≤ LARGEST_SUM → x ≡ a → r ≡ q → to_z w64 (of_z w64 (x -ℤ r)) ≡ a -ℤ q
difference-written a q h k e f = rw (e, f) (to_z-of_z (difference_fits a q h k))

-- y and z are what is written
both : (xs : List ℤ) (n v : ℕ) (q y z : ℤ) → y ≡ cell xs v +ℤ q → z ≡ cell xs v -ℤ q → set (set xs v y) (n + v) z ≡ split xs n v q
both xs n v q y z e f = ap₂ (λ (y z : ℤ). set (set xs v y) (n + v) z) e f

pub overflow_add-cells : goal.overflow_add-cells
overflow_add-cells c = let a = cell c.args.cells.now c.args.v in rw (back a c.requires.2, to_z-of_z c.ranges.q) (sum_fits a c.args.q c.requires.2 c.requires.3)

pub overflow_sub-cells : goal.overflow_sub-cells
overflow_sub-cells c = let a = cell c.args.cells.now c.args.v in rw (back a c.requires.2, to_z-of_z c.ranges.q) (difference_fits a c.args.q c.requires.2 c.requires.3)

pub bounds-cells-n : goal.bounds-cells-n
bounds-cells-n c = rw length-set (omega (arith, c.requires.0, c.requires.1))

pub returns : goal.returns
returns c = let a = cell c.args.cells.now c.args.v in let q = c.args.q in
    both c.args.cells.now c.args.n c.args.v q _ _ (sum-written a q c.requires.2 c.requires.3 (back a c.requires.2) (to_z-of_z c.ranges.q))
    (difference-written a q c.requires.2 c.requires.3 (back a c.requires.2) (to_z-of_z c.ranges.q))
