-- `in_room` is right because the cells that it reads into the front of the room are those that the call should take.
use mathlib.Core.Path.{refl, ◌∙◌, ap}
use lib.ListN.{length}
use Rattle.kind.specs.BlockKinds.{LARGEST}
use Rattle.cell_bytes.proofs.CellsRead.{cells_read_lem, room_fits}
use Rattle.lent_cells.proofs.Rooms.{room_front}
use Rattle.lent_cells.proofs.in_room.Goals as goal

pub read_cells-requires : goal.read_cells-requires
read_cells-requires g c = room_fits LARGEST c.args.bytes.now _ c.requires.counted _ (room_front _ _ c.requires.room.0)

pub returns : goal.returns
returns g c = let e = c.read_cells.ensures ∙ cells_read_lem LARGEST c.args.bytes.now _ c.requires.counted _ (room_front _ _ c.requires.room.0) in record {
  told = _;
  left = _;
  called = record { shown = _; shows = e; left = _; met = c.call.ensures; leaves = refl };
  many = c.call.auto.arg2 ∙ ap length e;
  says = c.packed-answer.ensures;
  leaves = c.write_back.ensures;
}
