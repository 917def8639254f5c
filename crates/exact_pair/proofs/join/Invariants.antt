use mathlib.Core.List.{List}
use Prim.Native.Nat.{ℕ, ◌*◌}
use lib.IntN.{ℤ}
use Rattle.ints.specs.Cells.{cell}
use Rattle.exact_pair.specs.Pair.{FIRST, exact_line}
use Rattle.exact_pair.proofs.Joining.{Joined}
use Rattle.exact_pair.proofs.Steps.{Stand}
use Rattle.exact_pair.proofs.join.Given as goal

-- the lines before v of the pair xs are made
abbrev pub Made : List ℤ → ℕ → ℕ → List ℤ → Type 0
Made xs n v ys = Joined (Stand (exact_line n (cell xs)) (2 * n * FIRST)) (cell xs) n v ys

abbrev pub invariant-loop-v : goal.invariant-loop-v
invariant-loop-v l = Made l.initial.cells l.n l.v l.cells
