-- Document 01, Parts of the engine: what the calls for the parts and the power leave in the bytes that a host in C lends.
use Rattle.std.specs.Prelude.{List, ℕ}
use Rattle.cell_bytes.specs.CellBytes.{cells_in}
use Rattle.fourier.specs.Parts.{imaginary_left, powers_left, real_left, tested_parts, tested_power}
use Rattle.lent_cells.specs.BytesLeft.{bytes_left}

-- the bytes of the real and of the imaginary parts; the spectrum's bytes are only read
abbrev pub real_bytes : List ℕ → List ℕ → List ℕ → List ℕ
real_bytes spectrum real imaginary = let xs = cells_in spectrum in let x = cells_in real in let y = cells_in imaginary in bytes_left (tested_parts xs x y) (real_left xs x y) real

abbrev pub imaginary_bytes : List ℕ → List ℕ → List ℕ → List ℕ
imaginary_bytes spectrum real imaginary = let xs = cells_in spectrum in let x = cells_in real in let y = cells_in imaginary in bytes_left (tested_parts xs x y) (imaginary_left xs x y) imaginary

-- the bytes of the powers
abbrev pub power_bytes : List ℕ → List ℕ → List ℕ
power_bytes spectrum bytes = let xs = cells_in spectrum in let lent = cells_in bytes in bytes_left (tested_power xs lent) (powers_left xs lent) bytes
