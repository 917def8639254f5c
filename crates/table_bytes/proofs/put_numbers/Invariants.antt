use mathlib.Core.List.{List}
use Prim.Native.Nat.{ℕ}
use Rattle.little_endian.proofs.Numbers.{NumbersPut}
use Rattle.cell_bytes.specs.CellBytes.{CELL}
use Rattle.table_bytes.specs.TableLeft.{as_cells}
use Rattle.table_bytes.proofs.put_numbers.Given as goal

-- the numbers from number j on are still to be put
abbrev pub Going : List ℕ → List ℕ → ℕ → List ℕ → ℕ → Type 0
Going numbers before j now at = NumbersPut CELL (as_cells numbers) before 0 j now at

abbrev pub invariant-loop-number : goal.invariant-loop-number
invariant-loop-number l = Going l.numbers l.initial.bytes l.number-index l.bytes l.at
