-- The tests of smoothing say what the table of the documents says: what they find is, in numbers, the first row that is given, or P.
-- Example: `(both_ways xs ws e).numbers : block_numbers r ≡ smoothing_numbers xs ws`, with e : r ≡ tested_smoothing xs ws.
use mathlib.Core.Path.{◌≡◌, refl, ◌∙◌, ap}
use mathlib.Core.Bool.{Bool, true, false, not}
use mathlib.Core.List.{List}
use Prim.Native.Nat.{ℕ, zero, suc}
use native.Mathlib.Omega.{arith}
use borrow.Author.Tests.{ne_eqb}
use lib.Dec.{eqb, ltb}
use lib.IntN.{ℤ}
use lib.ListN.{length}
use Rattle.std.specs.Prelude.{Result}
use Rattle.kind.specs.BlockKinds.{exponent, kind_of}
use Rattle.kind.specs.Loudness.{LEAST_SAMPLE, LARGEST_SAMPLE}
use Rattle.block.specs.Tests.{first_loud}
use Rattle.block.specs.TestTable.{first_given}
use Rattle.block.specs.BlockAnswers.{block_numbers}
use Rattle.smooth_tests.specs.Tests.{first_heavy, tested_smoothing, smoothing_numbers}
use Rattle.smooth_tests.proofs.Heavy.{heavy_together}
use Rattle.kind.specs.declared.BlockKind.{BlockKind}
use Rattle.refusal.specs.declared.Refusal.{Refusal}

positive : (m : ℕ) → eqb (suc m) 0 ≡ false
positive m = ne_eqb (suc m) 0 (λ e. omega arith)

module _ (xs ws : List ℤ) where
  -- by the outcome of each test: whether P is 0, the weights do not fit, a sample is loud, the weights are too large
  by_four : (P : ℕ) (unfit loud heavy : Bool) → exponent 10 (length xs) ≡ P → not (eqb (length ws) (length xs)) ≡ unfit
      → ltb (first_loud LEAST_SAMPLE LARGEST_SAMPLE xs) (length xs) ≡ loud → ltb (first_heavy ws) (length ws) ≡ heavy → block_numbers (tested_smoothing xs ws) ≡ smoothing_numbers xs ws
  unfolding tested_smoothing kind_of first_given
  by_four zero unfit loud heavy e f g h = rw e refl
  by_four (suc m) true loud heavy e f g h = rw (e, positive m, f) refl
  by_four (suc m) false true heavy e f g h = rw (e, positive m, f, g) refl
  by_four (suc m) false false true e f g h = rw (heavy_together ws, e, positive m, f, g, h) refl
  by_four (suc m) false false false e f g h = rw (heavy_together ws, e, positive m, f, g, h) refl

  pub both_ways : {r : Result BlockKind Refusal} → r ≡ tested_smoothing xs ws → record { answer : r ≡ tested_smoothing xs ws; numbers : block_numbers r ≡ smoothing_numbers xs ws }
  both_ways e = record { answer = e; numbers = ap block_numbers e ∙ by_four _ _ _ _ refl refl refl refl }
