-- What smoothing leaves in the bytes: they spell what it leaves in the cells, so the theorem of every pair holds of the cells in them.
-- Example: `bytes_any_pair before weights a z : AnyPair (cells_in before) (cells_in weights) (cells_in after)`, with z : the answer is 0.
use mathlib.Core.Path.{◌≡◌, sym, ◌∙◌, ap, subst}
use mathlib.Core.List.{List}
use Prim.Native.Nat.{ℕ}
use Rattle.std.specs.Prelude.{OnOk, Ok, Result}
use Rattle.refusal.specs.declared.Refusal.{Refusal}
use Rattle.cell_bytes.specs.CellBytes.{cells_in}
use Rattle.block.specs.BlockAnswers.{block_answer}
use Rattle.packing.proofs.Packing.{nothing_refused}
use Rattle.lent_cells.proofs.Counts.{left_spelled}
use Rattle.exact.specs.Smoothing.{cyclic_sums}
use Rattle.smooth_tests.specs.Tests.{tested_smoothing}
use Rattle.smoothing.specs.Promises.{AnyPair, smooth_left}
use Rattle.smoothing.proofs.Smoothed.{done_any_pair, sums_small}
use Rattle.smooth_bytes.specs.BytesLeft.{smooth_bytes}
use Rattle.smooth_bytes.specs.Inner.{SmoothAnswered}

spelled_cells : (bytes weights : List ℕ) → cells_in (smooth_bytes bytes weights) ≡ smooth_left (cells_in bytes) (cells_in weights)
spelled_cells bytes weights = let xs = cells_in bytes in let ws = cells_in weights in left_spelled (λ P. cyclic_sums xs ws) bytes (tested_smoothing xs ws) (sums_small xs ws)

module _ (before weights : List ℕ) {after : List ℕ} {answer : ℕ} (a : SmoothAnswered before weights after answer) (z : answer ≡ 0) where
  done : block_answer (tested_smoothing (cells_in before) (cells_in weights)) ≡ Ok tt
  done = nothing_refused (block_answer (tested_smoothing (cells_in before) (cells_in weights))) (sym a.says ∙ z)

  pub bytes_any_pair : AnyPair (cells_in before) (cells_in weights) (cells_in after)
  bytes_any_pair = let xs = cells_in before in let ws = cells_in weights in let ys = cells_in after in
      subst (λ (r : Result (Unit {0}) Refusal). OnOk r (AnyPair xs ws ys)) done (done_any_pair xs ws ys (ap cells_in a.leaves ∙ spelled_cells before weights))
