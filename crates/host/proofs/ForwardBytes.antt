-- What forward leaves in the bytes: they spell what it leaves in the cells, so demand 3, the law of the first line, that of the silent block and that
-- of the negative hold of the cells in them.
-- Example: `bytes_near before a z : NearDirectSum (cells_in before) (cells_in after)`, with z : the answer is 0.
use mathlib.Core.Path.{◌≡◌, sym, ◌∙◌, ap}
use mathlib.Core.List.{List, []}
use Prim.Native.Nat.{ℕ}
use native.Mathlib.Omega.{arith}
use lib.IntN.{pos}
use Rattle.std.specs.Prelude.{Ok}
use Rattle.ints.specs.Cells.{cell}
use Rattle.block.specs.Tests.{tested_samples}
use Rattle.block.specs.BlockAnswers.{block_answer}
use Rattle.block.proofs.Taken.{output_none, spectrum_accepted}
use Rattle.spectrum.specs.Spectrum.{forward}
use Rattle.spectrum.specs.Distance.{LinesWithin, largest_magnitude}
use Rattle.distance.specs.BoundAnswers.{bound_answer}
use Rattle.hartley.specs.Promises.{FirstLineExact, NearByE, NearDirectSum, NegativeSpectrum, forward_left}
use Rattle.hartley.proofs.ForwardTaken.{first-line-exact, forward_taken, near_by_E, near_direct_sum, negative_spectrum, silent_spectrum, within_answered}
use Rattle.cell_bytes.specs.CellBytes.{cells_in}
use Rattle.block_bytes.specs.BytesLeft.{forward_bytes}
use Rattle.block_bytes.specs.Inner.{ForwardAnswered}
use Rattle.packing.specs.Packing.{distance_in, number_in, packed_bound}
use Rattle.packing.proofs.Packing.{nothing_refused}
use Rattle.bound_bytes.proofs.Told.{answered_so}
use Rattle.lent_cells.proofs.Counts.{left_spelled}

spelled_cells : (bytes : List ℕ) → cells_in (forward_bytes bytes) ≡ forward_left (cells_in bytes)
spelled_cells bytes = let xs = cells_in bytes in left_spelled (λ P. forward P xs) bytes (tested_samples xs)
    (λ kind e i. omega (arith, (spectrum_accepted [] (forward kind.p xs) kind (forward_taken [] xs kind e (output_none _))).quiet i))

module _ (before : List ℕ) {after : List ℕ} {answer : ℕ} (a : ForwardAnswered before after answer) (z : answer ≡ 0) where
  done : block_answer (tested_samples (cells_in before)) ≡ Ok tt
  done = nothing_refused (block_answer (tested_samples (cells_in before))) (sym a.says ∙ z)

  cells_after : cells_in after ≡ forward_left (cells_in before)
  cells_after = ap cells_in a.leaves ∙ spelled_cells before

  pub bytes_near : NearDirectSum (cells_in before) (cells_in after)
  bytes_near = rw cells_after (near_direct_sum (cells_in before) done)

  -- document 01's figures, and the bound that a host was answered for the same bytes before
  pub bytes_by_E : NearByE (cells_in before) (cells_in after)
  bytes_by_E = near_by_E (cells_in before) done (cells_in after) bytes_near

  pub bytes-within : {bounded : ℕ} → bounded ≡ packed_bound (bound_answer (cells_in before)) → number_in bounded ≡ 0 → LinesWithin (distance_in bounded) (cells_in before) (cells_in after)
  bytes-within e none = within_answered (cells_in before) (answered_so (cells_in before) e none) (cells_in after) bytes_near

  -- for M = 0 every line is 0
  pub bytes_silent : largest_magnitude (cells_in before) ≡ 0 → (v : ℕ) → cell (cells_in after) v ≡ pos 0
  bytes_silent none v = rw cells_after (silent_spectrum (cells_in before) none v)

  pub bytes-first-exact : FirstLineExact (cells_in before) (cells_in after)
  bytes-first-exact = rw cells_after (first-line-exact (cells_in before) done)

  pub bytes-negative : NegativeSpectrum (cells_in before) (cells_in after)
  bytes-negative = rw cells_after (negative_spectrum (cells_in before) done)
