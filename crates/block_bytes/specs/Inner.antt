-- What the functions ask of each other and answer. It stands in no promise to a host.
use Rattle.std.specs.Prelude.{◌≡◌, List, [], ℕ, Result}
use Rattle.kind.specs.declared.BlockKind.{BlockKind}
use Rattle.refusal.specs.declared.Refusal.{Refusal}
use Rattle.cell_bytes.specs.CellBytes.{cells_in}
use Rattle.block.specs.Tests.{tested_samples, tested_spectrum}
use Rattle.block.specs.BlockAnswers.{block_answer}
use Rattle.packing.specs.Packing.{packed}
use Rattle.block_bytes.specs.BytesLeft.{backward_bytes, forward_bytes}

-- a call answers as the tests of its cells say, and leaves these bytes
pub record Answered (tests : Result BlockKind Refusal) (left after : List ℕ) (answer : ℕ) : Type 0 where
  pub says : answer ≡ packed (block_answer tests)
  pub leaves : after ≡ left

abbrev pub ForwardAnswered : List ℕ → List ℕ → ℕ → Type 0
ForwardAnswered before after answer = Answered (tested_samples (cells_in before)) (forward_bytes before) after answer

abbrev pub BackwardAnswered : List ℕ → List ℕ → ℕ → Type 0
BackwardAnswered before after answer = Answered (tested_spectrum [] (cells_in before)) (backward_bytes before) after answer
