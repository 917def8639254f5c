-- `parts_in` is right because the cells that it reads are those that the bytes spell, or are refused as those would be, and so are the cells of the two
-- outputs; `parts` does the rest.
use mathlib.Core.Path.{◌∙◌, ap}
use Rattle.packing.specs.Packing.{packed}
use Rattle.lent_cells.proofs.Rooms.{front_signeds}
use Rattle.line_bytes.proofs.Outputs.{answered_parts, output_counted}
use Rattle.line_bytes.proofs.parts_in.Goals as goal

pub returns : goal.returns
returns g c =
    let a = c.args in let room = c.requires.room in let e = c.parts.ensures in let k = c.parts.auto in
    let ys = front_signeds a.spectrum.now a.len g.row.CELLS room.0 c.requires.counted c.decode.ensures in
    answered_parts a.spectrum.now a.len c.requires.counted c.decode.new.cells ys.0 a.real.now a.imaginary.now _ _ (output_counted _ ys.1 g.row.CELLS room.0 g.row.LINES room.2 _ c.fit_count.ensures) (output_counted _ ys.1 g.row.CELLS room.0 g.row.LINES room.2 _ c.fit_count-2.ensures)
    (c.packed-answer.ensures ∙ ap packed e.answer) _ _ e.real e.imaginary k.real k.imaginary c.write_back.ensures c.write_back-2.ensures
