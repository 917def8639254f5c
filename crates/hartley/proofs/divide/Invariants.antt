use mathlib.Core.Path.{◌≡◌}
use mathlib.Core.List.{List}
use Prim.Native.Nat.{ℕ, ◌^◌, ◌≤◌}
use lib.IntN.{ℤ, pos}
use lib.ListN.{length}
use Rattle.ints.specs.Cells.{cell}
use Rattle.ints.specs.Quotient.{rounded}
use Rattle.ints.proofs.Filling.{Filled}
use Rattle.hartley.proofs.divide.Given as goal

-- the first i cells of xs are those of ys mapped by f, the others are those of ys
pub record Mapped (f : ℤ → ℤ) (ys xs : List ℤ) (i : ℕ) : Type 0 where
  pub long : length xs ≡ length ys
  pub new : Filled (pos 0) (λ k. f (cell ys k)) i xs
  pub old : (k : ℕ) → i ≤ k → cell xs k ≡ cell ys k

abbrev pub invariant-loop-x : goal.invariant-loop-x
invariant-loop-x l = Mapped (rounded (2 ^ l.p)) l.initial.cells l.cells l.x-index
