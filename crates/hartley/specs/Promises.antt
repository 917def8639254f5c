-- Document 01, Levels and Refused input: what forward and backward leave in the lent cells; and what demand 3, the law of the first line and
-- document 02, Items 1 and 6, say of it.
use Rattle.std.specs.Prelude.{◌≡◌, List, [], ℕ, ◌^◌, ℤ, length, Ok}
use Rattle.ints.specs.Cells.{cell, negated}
use Rattle.ints.specs.Sum.{sum}
use Rattle.block.specs.Tests.{tested_samples, tested_spectrum}
use Rattle.block.specs.BlockAnswers.{block_answer, cells_left}
use Rattle.spectrum.specs.Spectrum.{forward, backward}
use Rattle.spectrum.specs.Distance.{E, LinesWithin, block_bound}

-- what forward leaves in the lent cells: the spectrum, or the cells as they were where it refuses
abbrev pub forward_left : List ℤ → List ℤ
forward_left xs = cells_left (λ P. forward P xs) xs (tested_samples xs)

-- what backward leaves: the block of the spectrum, or the cells as they were where it refuses
abbrev pub backward_left : List ℤ → List ℤ
backward_left xs = cells_left (λ P. backward P xs) xs (tested_spectrum [] xs)

-- demand 3, by Item 6: the samples xs are 2^P, and each of the cells ys is within the bound, at the block's own M, of the direct sum
abbrev pub NearDirectSum : List ℤ → List ℤ → Type 0
NearDirectSum xs ys = (P : ℕ) × (length xs ≡ 2 ^ P) × LinesWithin (block_bound P xs) xs ys

-- demand 3 with document 01's figures, which follows from it for every block that forward takes (law `near_by_E` in proofs/ForwardTaken)
abbrev pub NearByE : List ℤ → List ℤ → Type 0
NearByE xs ys = (P : ℕ) × (length xs ≡ 2 ^ P) × LinesWithin (E P) xs ys

-- the first line equals the sum of the samples exactly
abbrev pub FirstLineExact : List ℤ → List ℤ → Type 0
FirstLineExact xs ys = cell ys 0 ≡ sum (length xs) (cell xs)

-- Item 1: ys is the spectrum of the block xs. Where forward takes the negative of xs too, it leaves the negative of ys for it, line by line. The negative
-- of a block with a sample of -32,768 is not taken.
abbrev pub NegativeSpectrum : List ℤ → List ℤ → Type 0
NegativeSpectrum xs ys = block_answer (tested_samples (negated xs)) ≡ Ok tt → forward_left (negated xs) ≡ negated ys

-- ys is what backward leaves of xs. It answers the same for the negative of xs, and leaves the negative of ys for it.
abbrev pub NegativeBlock : List ℤ → List ℤ → Type 0
NegativeBlock xs ys = (tested_spectrum [] (negated xs) ≡ tested_spectrum [] xs) × (backward_left (negated xs) ≡ negated ys)
