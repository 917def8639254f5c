-- `power_in` is right because the cells that it reads are those that the bytes spell, or are refused as those would be, and so are the cells of the
-- output; `power` does the rest.
use mathlib.Core.Path.{◌∙◌, ap}
use Rattle.packing.specs.Packing.{packed}
use Rattle.lent_cells.proofs.Rooms.{front_signeds}
use Rattle.line_bytes.proofs.Outputs.{answered_power, output_counted}
use Rattle.line_bytes.proofs.power_in.Goals as goal

pub returns : goal.returns
returns g c =
    let a = c.args in let room = c.requires.room in let e = c.power.ensures in
    let ys = front_signeds a.spectrum.now a.len g.row.CELLS room.0 c.requires.counted c.decode.ensures in
    answered_power a.spectrum.now a.len c.requires.counted c.decode.new.cells ys.0 a.powers.now _ (output_counted _ ys.1 g.row.CELLS room.0 g.row.LINES room.2 _ c.fit_count.ensures)
    (c.packed-answer.ensures ∙ ap packed e.answer) _ e.powers c.power.auto.powers c.write_back.ensures
