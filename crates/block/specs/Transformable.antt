-- What holds of cells that are taken, as the inner functions of the calls ask for it. It stands in no public promise.
use Rattle.std.specs.Prelude.{◌≡◌, List, ℕ, ◌^◌, ◌≤◌, ℤ, nat_abs, length}
use Rattle.ints.specs.Cells.{cell}
use Rattle.kind.specs.Loudness.{LOUDEST_LINE}

-- 2^P cells, P from 1 to 10, none louder than a line of a lent spectrum may be
pub record Transformable (P : ℕ) (xs : List ℤ) : Type 0 where
  pub least : 1 ≤ P
  pub most : P ≤ 10
  pub long : length xs ≡ 2 ^ P
  pub quiet : (i : ℕ) → nat_abs (cell xs i) ≤ LOUDEST_LINE
