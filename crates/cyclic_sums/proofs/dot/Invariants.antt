use mathlib.Core.Path.{◌≡◌}
use mathlib.Core.List.{List}
use Prim.Native.Nat.{ℕ, ◌≤◌}
use lib.IntN.{ℤ, ◌*ℤ◌}
use lib.ListN.{length}
use Rattle.ints.specs.Cells.{cell}
use Rattle.ints.specs.Sum.{sum}
use Rattle.cyclic_sums.proofs.dot.Given as goal

-- what sample i brings
abbrev pub product : List ℤ → List ℤ → ℕ → ℤ
product xs ys i = cell xs i *ℤ cell ys i

-- z is what the samples before sample i have brought
pub record Added (xs ys : List ℤ) (z : ℤ) (i : ℕ) : Type 0 where
  pub so-many : i ≤ length xs
  pub so_far : z ≡ sum i (product xs ys)

abbrev pub invariant-loop-i : goal.invariant-loop-i
invariant-loop-i l = Added l.samples l.factors l.sum l.i
