use mathlib.Core.Path.{◌≡◌}
use mathlib.Core.List.{List}
use Prim.Native.Nat.{ℕ, ◌*◌, ◌^◌}
use lib.IntN.{ℤ}
use lib.ListN.{length}
use Rattle.ints.specs.Cells.{cell}
use Rattle.exact_pair.specs.Pair.{FIRST, NoneAbove, Stands}
use Rattle.exact_levels.specs.Ready.{exact_levels}
use Rattle.exact_levels.proofs.join_later_levels.Given as goal

-- levels 1 to L are behind the cells
pub record Behind (P L : ℕ) (before cells : List ℤ) : Type 0 where
  pub small : NoneAbove (2 ^ L * FIRST) cells
  pub behind : (xs : List ℤ) → length xs ≡ 2 ^ P → Stands (4 * FIRST) (2 ^ P) (cell (exact_levels 2 xs)) before → Stands (2 ^ L * FIRST) (2 ^ P) (cell (exact_levels L xs)) cells

abbrev pub invariant-loop-done : goal.invariant-loop-done
invariant-loop-done l = Behind l.p l.done l.initial.cells l.cells
