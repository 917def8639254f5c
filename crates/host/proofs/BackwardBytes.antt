-- What backward leaves in the bytes: they spell what it leaves in the cells, so the law of the negative holds of the cells in them.
-- Example: `bytes-negative before a : NegativeBlock (cells_in before) (cells_in after)`.
use mathlib.Core.Path.{◌≡◌, ◌∙◌, ap}
use mathlib.Core.List.{List, []}
use Prim.Native.Nat.{ℕ}
use Rattle.block.specs.Tests.{tested_spectrum}
use Rattle.block.proofs.Taken.{spectrum_accepted}
use Rattle.spectrum.specs.Spectrum.{backward}
use Rattle.spectrum.proofs.Loudness.{backward-room}
use Rattle.hartley.specs.Promises.{NegativeBlock, backward_left}
use Rattle.hartley.proofs.BackwardLeft.{negative-block}
use Rattle.cell_bytes.specs.CellBytes.{cells_in}
use Rattle.block_bytes.specs.BytesLeft.{backward_bytes}
use Rattle.block_bytes.specs.Inner.{BackwardAnswered}
use Rattle.lent_cells.proofs.Counts.{left_spelled}

spelled_cells : (bytes : List ℕ) → cells_in (backward_bytes bytes) ≡ backward_left (cells_in bytes)
spelled_cells bytes = let xs = cells_in bytes in left_spelled (λ P. backward P xs) bytes (tested_spectrum [] xs)
    (λ kind e i. let t = spectrum_accepted [] xs kind e in backward-room kind.p t.most xs t.quiet i)

pub bytes-negative : (before : List ℕ) {after : List ℕ} {answer : ℕ} → BackwardAnswered before after answer
    → NegativeBlock (cells_in before) (cells_in after)
bytes-negative before a = rw (ap cells_in a.leaves ∙ spelled_cells before) (negative-block (cells_in before))
