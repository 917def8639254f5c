-- `decode` is right because the front of the bytes is as long as its cells take, and spells them as all the bytes do.
use mathlib.Core.Path.{refl, sym, ◌∙◌}
use native.Mathlib.Omega.{arith}
use Rattle.cell_bytes.proofs.CellsRead.{decoded_none, front_decoded}
use Rattle.cell_bytes.proofs.decode.Goals as goal

pub returns-then-bytes-cells : goal.returns-then-bytes-cells
returns-then-bytes-cells c = sym (decoded_none _ _ (omega arith))

pub returns : goal.returns
returns c = let a = c.args in c.decode_all.ensures ∙ front_decoded a.bytes.now a.cells.now _ refl (omega arith)
