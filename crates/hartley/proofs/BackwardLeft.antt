-- What backward leaves: for the negative of what is lent it answers the same and leaves the negative.
-- Example: `negative-block xs : NegativeBlock xs (backward_left xs)`.
use mathlib.Core.Path.{◌≡◌, refl, ◌∙◌, ap}
use mathlib.Core.List.{List, []}
use lib.IntN.{ℤ}
use Rattle.std.specs.Prelude.{Result, Ok, Err}
use Rattle.ints.specs.Cells.{negated}
use Rattle.block.specs.Tests.{tested_spectrum}
use Rattle.block.specs.BlockAnswers.{cells_left}
use Rattle.block.proofs.Negative.{spectrum_negated}
use Rattle.spectrum.specs.Spectrum.{backward}
use Rattle.spectrum.proofs.Negative.{backward-negated}
use Rattle.hartley.specs.Promises.{NegativeBlock, backward_left}
use Rattle.kind.specs.declared.BlockKind.{BlockKind}
use Rattle.refusal.specs.declared.Refusal.{Refusal}

module _ (xs : List ℤ) where
  negative : (k : Result BlockKind Refusal) → cells_left (λ P. backward P (negated xs)) (negated xs) k ≡ negated (cells_left (λ P. backward P xs) xs k)
  negative (Ok kind) = backward-negated kind.p xs
  negative (Err refusal) = refl

  pub negative-block : NegativeBlock xs (backward_left xs)
  negative-block = (spectrum_negated [] xs, ap (cells_left (λ P. backward P (negated xs)) (negated xs)) (spectrum_negated [] xs) ∙ negative (tested_spectrum [] xs))
