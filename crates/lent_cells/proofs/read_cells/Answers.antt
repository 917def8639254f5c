-- `read_cells` is right because the front of the bytes is as long as its cells take, and spells them as all the bytes do.
use mathlib.Core.Path.{refl, sym, ◌∙◌}
use native.Mathlib.Omega.{arith}
use lib.Seq.{length-take-le}
use Rattle.cell_bytes.proofs.CellsRead.{front_read}
use Rattle.lent_cells.proofs.read_cells.Goals as goal

pub slice_bounds-decode-end : goal.slice_bounds-decode-end
slice_bounds-decode-end c = sym (length-take-le _ _ (omega arith))

pub returns : goal.returns
returns c = let a = c.args in c.decode.ensures ∙ front_read a.bytes.now a.cells.now _ refl (omega arith)
