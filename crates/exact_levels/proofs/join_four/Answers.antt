-- `join_four` is right because sums and differences of cells up to FIRST fit, and make the lines of both levels (`four_written`).
use mathlib.Core.Path.{◌≡◌}
use mathlib.Core.List.{List}
use Prim.Native.Nat.{ℕ, ◌*◌, ◌≤◌}
use native.Mathlib.Omega.{arith}
use lib.IntN.{ℤ, nat_abs, ◌+ℤ◌, ◌-ℤ◌}
use mir.Facts.{to_z-of_z}
use mir.Syntax.{w64}
use mir.Val.{SFits, to_z, of_z}
use Rattle.ints.specs.Cells.{cell}
use Rattle.ints.proofs.Abs.{abs_plus, abs_minus}
use Rattle.ints.proofs.Fit.{fits, reads_back}
use Rattle.exact_pair.specs.Pair.{FIRST, NoneAbove}
use Rattle.exact_levels.proofs.Fours.{four_written}
use Rattle.exact_levels.proofs.join_four.Goals as goal

-- a number as the machine reads it
abbrev read : ℤ → ℤ
read z = to_z w64 (of_z w64 z)

back : (z : ℤ) → nat_abs z ≤ 2 * FIRST → read z ≡ z
back z h = reads_back z (2 * FIRST) (omega arith) h

-- ---- a sum and a difference of what was read: it fits, and is what is written

record Written (z line : ℤ) : Type 0 where
  fits : SFits w64 z
  is : read z ≡ line

module _ (x y : ℤ) (h : nat_abs x ≤ 2 * FIRST) (k : nat_abs y ≤ 2 * FIRST) where
  summed : Written (read x +ℤ read y) (x +ℤ y)
  summed = rw (back x h, back y k) (let f = fits (x +ℤ y) (omega (arith, abs_plus x y)) in record { fits = f; is = to_z-of_z f })

  subtracted : Written (read x -ℤ read y) (x -ℤ y)
  subtracted = rw (back x h, back y k) (let f = fits (x -ℤ y) (omega (arith, abs_minus x y)) in record { fits = f; is = to_z-of_z f })

-- ---- of two cells, and of two sums or differences of them

module _ (xs : List ℤ) (small : NoneAbove FIRST xs) where
  abbrev x : ℕ → ℤ
  x i = read (cell xs i)

  below : (i : ℕ) → nat_abs (cell xs i) ≤ 2 * FIRST
  below i = omega (arith, small i)

  same : (i : ℕ) → x i ≡ cell xs i
  same i = back (cell xs i) (below i)

  sum : (i j : ℕ) → SFits w64 (x i +ℤ x j)
  sum i j = (summed (cell xs i) (cell xs j) (below i) (below j)).fits

  difference : (i j : ℕ) → SFits w64 (x i -ℤ x j)
  difference i j = (subtracted (cell xs i) (cell xs j) (below i) (below j)).fits

  sum-small : (i j : ℕ) → nat_abs (x i +ℤ x j) ≤ 2 * FIRST
  sum-small i j = rw (same i, same j) (omega (arith, abs_plus (cell xs i) (cell xs j), small i, small j))

  difference_small : (i j : ℕ) → nat_abs (x i -ℤ x j) ≤ 2 * FIRST
  difference_small i j = rw (same i, same j) (omega (arith, abs_minus (cell xs i) (cell xs j), small i, small j))

  line-0 : Written (read (x 0 +ℤ x 1) +ℤ read (x 2 +ℤ x 3)) ((x 0 +ℤ x 1) +ℤ (x 2 +ℤ x 3))
  line-0 = summed (x 0 +ℤ x 1) (x 2 +ℤ x 3) (sum-small 0 1) (sum-small 2 3)

  line-1 : Written (read (x 0 -ℤ x 1) +ℤ read (x 2 -ℤ x 3)) ((x 0 -ℤ x 1) +ℤ (x 2 -ℤ x 3))
  line-1 = summed (x 0 -ℤ x 1) (x 2 -ℤ x 3) (difference_small 0 1) (difference_small 2 3)

  line-2 : Written (read (x 0 +ℤ x 1) -ℤ read (x 2 +ℤ x 3)) ((x 0 +ℤ x 1) -ℤ (x 2 +ℤ x 3))
  line-2 = subtracted (x 0 +ℤ x 1) (x 2 +ℤ x 3) (sum-small 0 1) (sum-small 2 3)

  line-3 : Written (read (x 0 -ℤ x 1) -ℤ read (x 2 -ℤ x 3)) ((x 0 -ℤ x 1) -ℤ (x 2 -ℤ x 3))
  line-3 = subtracted (x 0 -ℤ x 1) (x 2 -ℤ x 3) (difference_small 0 1) (difference_small 2 3)

pub overflow_add-a : goal.overflow_add-a
overflow_add-a c = sum c.args.cells.now c.requires.1.small 0 1

pub overflow_sub-b : goal.overflow_sub-b
overflow_sub-b c = difference c.args.cells.now c.requires.1.small 0 1

pub overflow_add-c : goal.overflow_add-c
overflow_add-c c = sum c.args.cells.now c.requires.1.small 2 3

pub overflow_sub-d : goal.overflow_sub-d
overflow_sub-d c = difference c.args.cells.now c.requires.1.small 2 3

pub overflow_add-cells : goal.overflow_add-cells
overflow_add-cells c = (line-0 c.args.cells.now c.requires.1.small).fits

pub overflow_add-cells-2 : goal.overflow_add-cells-2
overflow_add-cells-2 c = (line-1 c.args.cells.now c.requires.1.small).fits

pub overflow_sub-cells : goal.overflow_sub-cells
overflow_sub-cells c = (line-2 c.args.cells.now c.requires.1.small).fits

pub overflow_sub-cells-2 : goal.overflow_sub-cells-2
overflow_sub-cells-2 c = (line-3 c.args.cells.now c.requires.1.small).fits

pub returns : goal.returns
returns c = let xs = c.args.cells.now in let small = c.requires.1.small in
    four_written FIRST xs c.requires.0 small (x xs small) (same xs small) _ _ _ _ (line-0 xs small).is (line-1 xs small).is (line-2 xs small).is (line-3 xs small).is
