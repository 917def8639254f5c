-- `with_room` is right because the cells that it reads into the front of the room are those that the work should take.
use mathlib.Core.Path.{◌∙◌}
use Rattle.kind.specs.BlockKinds.{LARGEST}
use Rattle.cell_bytes.proofs.CellsRead.{cells_read_lem, room_fits}
use Rattle.lent_cells.proofs.Rooms.{room_front}
use Rattle.lent_cells.proofs.with_room.Goals as goal

pub read_cells-requires : goal.read_cells-requires
read_cells-requires g c = room_fits LARGEST c.args.bytes.now _ c.requires.counted _ (room_front _ _ c.requires.room.0)

pub returns : goal.returns
returns g c = (_, c.work.ensures, c.read_cells.ensures ∙ cells_read_lem LARGEST c.args.bytes.now _ c.requires.counted _ (room_front _ _ c.requires.room.0))
