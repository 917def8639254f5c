-- What the engine's inner functions ask of their callers. It stands in no public promise.
use Rattle.std.specs.Prelude.{◌≡◌, List, ℕ, ◌^◌, ◌≤◌, ◌<◌, ℤ, nat_abs, length}
use Rattle.kind.specs.BlockKinds.{SCALE_DIGITS}
use Rattle.ints.specs.Cells.{cell}
use Rattle.spectrum.specs.Limits.{LARGEST_CELL, Room}
use Rattle.spectrum.specs.Spectrum.{levels_at}

-- the levels of 2^P cells, eight at least, can run at the scale in force: before each of them every cell has room
pub record CanRunLevels (P : ℕ) (xs : List ℤ) : Type 0 where
  pub least : 3 ≤ P
  pub most : P ≤ 10
  pub long : length xs ≡ 2 ^ P
  pub room : (L : ℕ) → L < P → (i : ℕ) → Room SCALE_DIGITS (cell (levels_at SCALE_DIGITS L xs) i)

-- 2^P cells can be divided by their number
pub record CanDivide (P : ℕ) (xs : List ℤ) : Type 0 where
  pub least : 1 ≤ P
  pub most : P ≤ 10
  pub long : length xs ≡ 2 ^ P
  pub small : (i : ℕ) → nat_abs (cell xs i) ≤ LARGEST_CELL
