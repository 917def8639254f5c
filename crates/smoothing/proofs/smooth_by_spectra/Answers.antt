-- `smooth_by_spectra` is right because no block has more than 1,024 cells.
use native.Mathlib.Omega.{arith}
use Rattle.smoothing.proofs.BySpectra.{cells_few}
use Rattle.smoothing.proofs.smooth_by_spectra.Goals as goal

pub smooth_in_rooms-requires-else-cells-le-MIDDLE-clause-rooms : goal.smooth_in_rooms-requires-else-cells-le-MIDDLE-clause-rooms
smooth_in_rooms-requires-else-cells-le-MIDDLE-clause-rooms c = (cells_few c.requires.1, omega (arith, cells_few c.requires.1))
