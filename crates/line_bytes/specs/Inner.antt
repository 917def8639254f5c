-- What the functions answer. It stands in no promise to a host.
use Rattle.std.specs.Prelude.{◌≡◌, List, ℕ}
use Rattle.cell_bytes.specs.CellBytes.{cells_in}
use Rattle.block.specs.BlockAnswers.{block_answer}
use Rattle.fourier.specs.Parts.{tested_parts, tested_power}
use Rattle.packing.specs.Packing.{packed}
use Rattle.line_bytes.specs.LinesLeft.{imaginary_bytes, power_bytes, real_bytes}

-- each call answers as the tests of its cells say, and leaves what it should
pub record PartsAnswered (spectrum real imaginary real-after imaginary-after : List ℕ) (answer : ℕ) : Type 0 where
  pub says : answer ≡ packed (block_answer (tested_parts (cells_in spectrum) (cells_in real) (cells_in imaginary)))
  pub leaves_real : real-after ≡ real_bytes spectrum real imaginary
  pub leaves_imaginary : imaginary-after ≡ imaginary_bytes spectrum real imaginary

pub record PowerAnswered (spectrum before after : List ℕ) (answer : ℕ) : Type 0 where
  pub says : answer ≡ packed (block_answer (tested_power (cells_in spectrum) (cells_in before)))
  pub leaves : after ≡ power_bytes spectrum before
