-- Document 02, Item 7: what smoothing for a host in C leaves in the lent bytes of the block. Those of the weights are only read.
use Rattle.std.specs.Prelude.{List, ℕ}
use Rattle.cell_bytes.specs.CellBytes.{cells_in}
use Rattle.lent_cells.specs.BytesLeft.{bytes_left}
use Rattle.smooth_tests.specs.Tests.{tested_smoothing}
use Rattle.smoothing.specs.Promises.{smooth_left}

abbrev pub smooth_bytes : List ℕ → List ℕ → List ℕ
smooth_bytes bytes weights = let xs = cells_in bytes in let ws = cells_in weights in bytes_left (tested_smoothing xs ws) (smooth_left xs ws) bytes
