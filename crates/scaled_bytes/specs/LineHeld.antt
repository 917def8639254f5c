-- Document 01, Parts of the engine: a scaled line of the spectrum that a host in C lends, and what is left in what it lends for the numbers.
use Rattle.std.specs.Prelude.{◌≡◌, List, ℕ, Float, Result, Ok, Err}
use Rattle.kind.specs.declared.Line.{Line}
use Rattle.refusal.specs.declared.Refusal.{Refusal}
use Rattle.cell_bytes.specs.CellBytes.{cells_in}
use Rattle.block.specs.Tests.{tested_line}
use Rattle.fourier.specs.declared.ScaledLine.{ScaledLine}
use Rattle.fourier.specs.declared.ScaledLine.TheVariants.{Mean, Last, Pair}
use Rattle.fourier.specs.Scaled.{Values, scaled_to}
use Rattle.packing.specs.Packing.{packed_scaled}

-- line v, which a host gives as a plain number
abbrev pub as_line : ℕ → Line
as_line v = record { 0 = v }

-- a scaled line of the spectrum that the bytes spell
abbrev pub scaled_of : List ℕ → Line → Result ScaledLine Refusal
scaled_of spectrum line = let xs = cells_in spectrum in scaled_to xs line (tested_line line xs)

-- its numbers in what is lent for them: a mean and a last line are one, a pair is two; what no number is for is as it was lent
abbrev pub real_held : Result ScaledLine Refusal → Float → Float
real_held (Ok (Mean mean)) lent = mean
real_held (Ok (Last last)) lent = last
real_held (Ok (Pair pair)) lent = pair.real
real_held (Err refusal) lent = lent

abbrev pub imaginary_held : Result ScaledLine Refusal → Float → Float
imaginary_held (Ok (Mean mean)) lent = lent
imaginary_held (Ok (Last last)) lent = lent
imaginary_held (Ok (Pair pair)) lent = pair.imaginary
imaginary_held (Err refusal) lent = lent

-- what the functions answer: the case, the numbers, and that these are exact
pub record ScaledAnswered (spectrum : List ℕ) (line : Line) (real imaginary real-after imaginary-after : Float) (answer : ℕ) : Type 0 where
  pub says : answer ≡ packed_scaled (scaled_of spectrum line)
  pub leaves_real : real-after ≡ real_held (scaled_of spectrum line) real
  pub leaves_imaginary : imaginary-after ≡ imaginary_held (scaled_of spectrum line) imaginary
  pub exact : Values (cells_in spectrum) line (scaled_of spectrum line)
