use mathlib.Core.List.{List}
use Prim.Native.Nat.{ℕ, ◌*◌}
use lib.IntN.{ℤ}
use Rattle.ints.specs.Cells.{cell}
use Rattle.exact_pair.specs.Pair.{FIRST}
use Rattle.exact_levels.specs.Ready.{exact_joined}
use Rattle.exact_levels.proofs.PartByPart.{Done}
use Rattle.exact_levels.proofs.join_level.Given as goal

abbrev pub PairsDone : ℕ → List ℤ → ℕ → List ℤ → Type 0
PairsDone n xs base ys = Done (2 * n * FIRST) (2 * n) (exact_joined n (cell xs)) xs base ys

abbrev pub invariant-loop-block : goal.invariant-loop-block
invariant-loop-block l = PairsDone l.n l.initial.cells (l.block * (2 * l.n)) l.cells
