-- `len` is right because all bytes are read as the cells that they spell.
use mathlib.Core.Path.{◌≡◌, ◌∙◌}
use mathlib.Core.List.{List}
use Prim.Native.Nat.{ℕ}
use native.Mathlib.Omega.{arith}
use lib.ListN.{length}
use Rattle.cell_bytes.specs.CellBytes.{cell_count, cells_in}
use Rattle.cell_bytes.proofs.CellsRead.{count_all}
use Rattle.cell_bytes.proofs.lent.LentCellsCells.len.Goals as goal

-- r cells are read of n bytes, which are all, and as many as may be read
count : (bytes : List ℕ) (most n r : ℕ) → r ≡ cell_count most n → most ≡ length bytes → n ≡ length bytes → r ≡ length (cells_in bytes)
count bytes most n r told em en = rw (em, en) at told ∙ count_all bytes

pub returns : goal.returns
returns c = count c.args.self.0.now _ _ _ c.cell_count.ensures.0 (omega arith) (omega arith)
