-- `smooth_in` is right because the samples and weights that it reads are those that the bytes spell, or are refused as those would be; `smooth` does the rest.
use mathlib.Core.Path.{◌∙◌, ap}
use Prim.Native.Nat.{ℕ}
use native.Mathlib.Omega.{arith}
use Rattle.little_endian.specs.Reading.{signeds}
use Rattle.cell_bytes.specs.CellBytes.{CELL}
use Rattle.lent_cells.proofs.Rooms.{front_signeds, room_front}
use Rattle.packing.specs.Packing.{packed}
use Rattle.smooth_bytes.proofs.Read.{answered, values_read}
use Rattle.smooth_bytes.proofs.smooth_in.Goals as goal

pub returns : goal.returns
returns g c =
    let a = c.args in let n = c.requires.samples_len in let m = c.requires.count_len in let room = c.requires.room in let weights = a.weights.now in
    let samples-read = front_signeds a.bytes.now a.samples g.row.ROOM room.0 n c.decode.ensures in
    let front = room_front a.count g.row.ROOM (omega (arith, room.0, m.1)) in
    let weights-read = c.decode-2.ensures ∙ values_read weights a.samples _ (front ∙ m.0) ∙ ap (λ (k : ℕ). signeds CELL k weights) front in
    let e = c.smooth.ensures in
    answered a.bytes.now weights a.samples n c.decode.new.cells c.decode-2.new.cells samples-read.0 a.count m.0 weights-read (c.packed-answer.ensures ∙ ap packed e.answer) _ _ e.cells c.smooth.auto.cells c.write_back.ensures
