use mathlib.Core.Path.{◌≡◌}
use mathlib.Core.List.{List}
use Prim.Native.Nat.{ℕ, ◌+◌, ◌*◌, ◌-◌, ◌<◌}
use lib.IntN.{ℤ}
use lib.ListN.{length}
use Rattle.ints.specs.Cells.{cell}
use Rattle.cyclic_sums.proofs.turn_back.Given as goal

-- the first i places of both halves of ts have the weights from the last down
pub record Backed (ws ts : List ℤ) (i : ℕ) : Type 0 where
  pub twice : length ts ≡ 2 * length ws
  pub first : (j : ℕ) → j < i → cell ts j ≡ cell ws (length ws - 1 - j)
  pub again : (j : ℕ) → j < i → cell ts (length ws + j) ≡ cell ws (length ws - 1 - j)

abbrev pub invariant-loop-i : goal.invariant-loop-i
invariant-loop-i l = Backed l.weights l.turned l.i
