use mathlib.Core.List.{List}
use Prim.Native.Nat.{ℕ, ◌*◌}
use lib.IntN.{ℤ}
use Rattle.ints.specs.Cells.{cell}
use Rattle.exact_pair.specs.Pair.{FIRST}
use Rattle.exact_levels.specs.Ready.{exact_levels}
use Rattle.exact_levels.proofs.PartByPart.{Done}
use Rattle.exact_levels.proofs.join_fours.Given as goal

abbrev pub lines : List ℤ → ℕ → ℤ
lines xs i = cell (exact_levels 2 xs) i

abbrev pub FoursDone : List ℤ → ℕ → List ℤ → Type 0
FoursDone xs base ys = Done (4 * FIRST) 4 (lines xs) xs base ys

abbrev pub invariant-loop-four : goal.invariant-loop-four
invariant-loop-four l = FoursDone l.initial.cells (l.four * 4) l.cells
