-- Document 01, Refused input: what a call on a block answers, and what it leaves in a lent list.
use Rattle.std.specs.Prelude.{List, [], ◌∷◌, ℕ, ℤ, Result, Ok, Err}
use Rattle.refusal.specs.RefusalTable.{number, place}
use Rattle.kind.specs.declared.BlockKind.{BlockKind}
use Rattle.refusal.specs.declared.Refusal.{Refusal}

-- the answer: done where what is lent is taken, else the refusal
abbrev pub block_answer : Result BlockKind Refusal → Result (Unit {0}) Refusal
block_answer (Ok kind) = Ok tt
block_answer (Err refusal) = Err refusal

-- the list that the call leaves: its result, which may depend on P, or the lent list where it refuses
abbrev pub cells_left : (ℕ → List ℤ) → List ℤ → Result BlockKind Refusal → List ℤ
cells_left result lent (Ok kind) = result kind.p
cells_left result lent (Err refusal) = lent

-- document 01's number and place for an answer, and for the first fault of a block; nothing where the call is done and the block taken
abbrev pub answer_numbers : Result (Unit {0}) Refusal → List ℕ
answer_numbers (Ok done) = []
answer_numbers (Err refusal) = number refusal ∷ place refusal ∷ []

abbrev pub verdict_numbers : Result BlockKind Refusal → List ℕ
verdict_numbers (Ok kind) = []
verdict_numbers (Err refusal) = number refusal ∷ place refusal ∷ []

-- and for what the tests say: P of a block that is taken, or number and place of the first fault
abbrev pub block_numbers : Result BlockKind Refusal → List ℕ
block_numbers (Ok kind) = kind.p ∷ []
block_numbers (Err refusal) = number refusal ∷ place refusal ∷ []
