-- Document 01, Parts of the engine: what forward and backward for a host in C leave in the lent bytes.
use Rattle.std.specs.Prelude.{List, [], ℕ}
use Rattle.cell_bytes.specs.CellBytes.{cells_in}
use Rattle.block.specs.Tests.{tested_samples, tested_spectrum}
use Rattle.hartley.specs.Promises.{backward_left, forward_left}
use Rattle.lent_cells.specs.BytesLeft.{bytes_left}

abbrev pub forward_bytes : List ℕ → List ℕ
forward_bytes bytes = let xs = cells_in bytes in bytes_left (tested_samples xs) (forward_left xs) bytes

abbrev pub backward_bytes : List ℕ → List ℕ
backward_bytes bytes = let xs = cells_in bytes in bytes_left (tested_spectrum [] xs) (backward_left xs) bytes
