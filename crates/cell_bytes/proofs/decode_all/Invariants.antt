use mathlib.Core.Path.{◌≡◌}
use Prim.Native.Nat.{◌≤◌}
use lib.IntN.{pos}
use lib.ListN.{length}
use Rattle.ints.proofs.Filling.{Filled}
use Rattle.cell_bytes.specs.CellBytes.{cell_at}
use Rattle.cell_bytes.proofs.decode_all.Given as goal

abbrev pub invariant-loop-i : goal.invariant-loop-i
invariant-loop-i l = (l.i ≤ length l.initial.cells) × (length l.cells ≡ length l.initial.cells) × Filled (pos 0) (cell_at l.bytes) l.i l.cells
