-- `cell` is right because `cell_at` is, of the eight bytes of the cell.
use borrow.Author.Rules.{sfits_of}
use mathlib.Core.Path.{◌∙◌}
use native.Mathlib.Omega.{arith}
use mir.Facts.{to_z-of_z}
use mir.Syntax.{w64}
use Rattle.cell_bytes.proofs.CellsRead.{cell_room, cell-spelled}
use Rattle.cell_bytes.proofs.lent.LentCellsCells.cell.Goals as goal

pub cell_at-requires : goal.cell_at-requires
cell_at-requires c = omega (arith, cell_room _ _ c.requires)

pub returns : goal.returns
returns c = to_z-of_z {w = w64} (sfits_of c.cell_at.type_inv) ∙ c.cell_at.ensures ∙ cell-spelled c.args.self.0.now _ c.requires
