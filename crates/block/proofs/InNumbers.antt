-- The tests say what the table of document 01 says: what they find is, in numbers, the first row that is given, or P, or what a call answers by P.
-- Example: `(line_both_ways line xs e).numbers : block_numbers r ≡ line_numbers line xs`, with e : r ≡ tested_line line xs.
use mathlib.Core.Path.{◌≡◌, refl, ◌∙◌, ap}
use mathlib.Core.Bool.{Bool, true, false}
use mathlib.Core.List.{List, [], ◌∷◌}
use Prim.Native.Nat.{ℕ, zero, suc, ◌+◌, ◌/◌}
use native.Mathlib.Omega.{arith}
use borrow.Author.Tests.{ne_eqb}
use lib.Dec.{eqb, ltb}
use lib.IntN.{ℤ, pos, neg_ℤ}
use lib.ListN.{length}
use Rattle.std.specs.Prelude.{None, Result, Ok, Err}
use Rattle.kind.specs.declared.Line.{Line}
use Rattle.kind.specs.BlockKinds.{exponent, kind_of, kind_numbers}
use Rattle.kind.specs.Loudness.{LOUDEST_LINE}
use Rattle.refusal.specs.declared.Refusal.TheVariants.{Length}
use Rattle.refusal.specs.RefusalTable.{number, place}
use Rattle.block.specs.Tests.{misfit, first_loud, tested, tested_line}
use Rattle.block.specs.TestTable.{first_given, refusal_rows, line_numbers}
use Rattle.block.specs.BlockAnswers.{block_answer, block_numbers, answer_numbers, verdict_numbers}
use Rattle.kind.specs.declared.BlockKind.{BlockKind}
use Rattle.refusal.specs.declared.Refusal.{Refusal}

-- what `kind` says in numerals of a length that no block has is refusal 1
pub none_numbers : kind_numbers None ≡ number Length ∷ place Length ∷ []
none_numbers = refl

-- ---- by the outcome of each test: whether P is 0, the outputs do not fit, a cell is loud, the line lies above N/2

positive : (m : ℕ) → eqb (suc m) 0 ≡ false
positive m = ne_eqb (suc m) 0 (λ e. omega arith)

-- the number that f has for P of a block that is taken, or number and place of the first fault; with P itself it is `block_numbers`
abbrev pub numbers_by : (ℕ → ℕ) → Result BlockKind Refusal → List ℕ
numbers_by f (Ok kind) = f kind.p ∷ []
numbers_by f (Err refusal) = number refusal ∷ place refusal ∷ []

by_itself : (k : Result BlockKind Refusal) → block_numbers k ≡ numbers_by (λ P. P) k
by_itself (Ok kind) = refl
by_itself (Err refusal) = refl

module _ (f : ℕ → ℕ) (low high : ℤ) (outputs : List ℕ) (xs : List ℤ) where
  by_three : (P : ℕ) (unfit loud : Bool) → exponent 10 (length xs) ≡ P → misfit (length xs / 2 + 1) outputs ≡ unfit → ltb (first_loud low high xs) (length xs) ≡ loud
      → numbers_by f (tested low high outputs xs) ≡ first_given (refusal_rows low high outputs xs) (f (exponent 10 (length xs)))
  unfolding tested kind_of first_given
  by_three zero unfit loud e f g = rw e refl
  by_three (suc m) true true e f g = rw (e, positive m, g, f) refl
  by_three (suc m) true false e f g = rw (e, positive m, g, f) refl
  by_three (suc m) false true e f g = rw (e, positive m, g, f) refl
  by_three (suc m) false false e f g = rw (e, positive m, g, f) refl

  pub numbers_by_lem : numbers_by f (tested low high outputs xs) ≡ first_given (refusal_rows low high outputs xs) (f (exponent 10 (length xs)))
  numbers_by_lem = by_three _ _ _ refl refl refl

module _ (line : Line) (xs : List ℤ) where
  abbrev louds : Bool
  louds = ltb (first_loud (neg_ℤ (pos LOUDEST_LINE)) (pos LOUDEST_LINE) xs) (length xs)

  by_four : (P : ℕ) (loud above : Bool) → exponent 10 (length xs) ≡ P → louds ≡ loud → ltb (length xs / 2) line.0 ≡ above
      → block_numbers (tested_line line xs) ≡ line_numbers line xs
  unfolding tested kind_of first_given
  by_four zero loud above e f g = rw e refl
  by_four (suc m) true true e f g = rw (e, positive m, g, f) refl
  by_four (suc m) true false e f g = rw (e, positive m, g, f) refl
  by_four (suc m) false true e f g = rw (e, positive m, g, f) refl
  by_four (suc m) false false e f g = rw (e, positive m, g, f) refl

-- ---- an answer, and the same in numbers

pub answered : (k : Result BlockKind Refusal) → answer_numbers (block_answer k) ≡ verdict_numbers k
answered (Ok kind) = refl
answered (Err refusal) = refl

pub both_ways : {r : Result BlockKind Refusal} (low high : ℤ) (outputs : List ℕ) (xs : List ℤ) → r ≡ tested low high outputs xs
    → record { answer : r ≡ tested low high outputs xs; numbers : block_numbers r ≡ first_given (refusal_rows low high outputs xs) (exponent 10 (length xs)) }
both_ways low high outputs xs e = record { answer = e; numbers = ap block_numbers e ∙ by_itself (tested low high outputs xs) ∙ numbers_by_lem (λ P. P) low high outputs xs }

pub line_both_ways : {r : Result BlockKind Refusal} (line : Line) (xs : List ℤ) → r ≡ tested_line line xs
    → record { answer : r ≡ tested_line line xs; numbers : block_numbers r ≡ line_numbers line xs }
line_both_ways line xs e = record { answer = e; numbers = ap block_numbers e ∙ by_four line xs _ _ _ refl refl refl }
