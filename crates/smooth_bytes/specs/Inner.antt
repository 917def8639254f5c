-- What the functions ask of each other and answer. It stands in no promise to a host.
use Rattle.std.specs.Prelude.{◌≡◌, List, ℕ}
use Rattle.cell_bytes.specs.CellBytes.{cells_in}
use Rattle.block.specs.BlockAnswers.{block_answer}
use Rattle.packing.specs.Packing.{packed}
use Rattle.smooth_tests.specs.Tests.{tested_smoothing}
use Rattle.smooth_bytes.specs.BytesLeft.{smooth_bytes}

-- the call answers as the tests of its cells say, and leaves these bytes
pub record SmoothAnswered (before weights after : List ℕ) (answer : ℕ) : Type 0 where
  pub says : answer ≡ packed (block_answer (tested_smoothing (cells_in before) (cells_in weights)))
  pub leaves : after ≡ smooth_bytes before weights
