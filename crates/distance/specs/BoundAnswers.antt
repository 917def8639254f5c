-- Document 02, Item 6: what the call `bound` answers for a user's block, with forward's checks.
-- Example: `bound_numbers` of eight samples of which the loudest is -100 is {2}; with 40,000 as the last of them it is {3, 7}.
use Rattle.std.specs.Prelude.{List, [], ◌∷◌, ℕ, ℤ, pos, neg_ℤ, length, Result, Ok, Err}
use Rattle.kind.specs.declared.BlockKind.{BlockKind}
use Rattle.kind.specs.BlockKinds.{exponent}
use Rattle.refusal.specs.declared.Refusal.{Refusal}
use Rattle.refusal.specs.RefusalTable.{number, place}
use Rattle.block.specs.Tests.{first_loud, misfit, tested, tested_samples}
use Rattle.block.specs.TestTable.{first_given, refusal_rows}
use Rattle.spectrum.specs.Distance.{block_bound, bound, largest_magnitude}

-- the bound of a block that is taken, else the refusal
abbrev pub bound_to : List ℤ → Result BlockKind Refusal → Result ℕ Refusal
bound_to xs (Ok kind) = Ok (block_bound kind.p xs)
bound_to xs (Err refusal) = Err refusal

unfoldable pub bound_answer : List ℤ → Result ℕ Refusal
unfolding tested bound largest_magnitude
bound_answer xs = bound_to xs (tested_samples xs)

-- ---- in the papers' numbers

-- the bound, or number and place of a refusal
abbrev pub bound_answer_numbers : Result ℕ Refusal → List ℕ
bound_answer_numbers (Ok B) = B ∷ []
bound_answer_numbers (Err refusal) = number refusal ∷ place refusal ∷ []

-- the rows of refused input for forward, of samples from -32,768 to 32,767; where none is given, the bound at scale 32,768, with M and P of the cells
unfoldable pub bound_numbers : List ℤ → List ℕ
unfolding first_given misfit first_loud exponent bound largest_magnitude
bound_numbers xs = first_given (refusal_rows (neg_ℤ (pos 32768)) (pos 32767) [] xs) (bound 32768 (largest_magnitude xs) (exponent 10 (length xs)))
