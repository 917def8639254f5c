-- `write_back` is right because its one test is that of the definition.
use borrow.Author.Tests.{eq-eqb, ne_eqb}
use mathlib.Core.Path.{◌≡◌, refl, ◌∙◌}
use mathlib.Core.List.{List}
use Prim.Native.Nat.{ℕ}
use native.Mathlib.Omega.{arith}
use lib.IntN.{ℤ}
use Rattle.cell_bytes.specs.CellBytes.{encoded}
use Rattle.packing.specs.Packing.{number_in}
use Rattle.lent_cells.specs.BytesLeft.{written_back}
use Rattle.lent_cells.proofs.write_back.Goals as goal

module _ (answer : ℕ) (cells : List ℤ) (bytes : List ℕ) where
  written : number_in answer ≡ 0 → encoded cells bytes ≡ written_back answer cells bytes
  unfolding written_back
  written h = rw (eq-eqb (number_in answer) 0 h) refl

  kept : (number_in answer ≡ 0 → ⊥) → bytes ≡ written_back answer cells bytes
  unfolding written_back
  kept h = rw (ne_eqb (number_in answer) 0 h) refl

pub returns-then-answer-eq0 : goal.returns-then-answer-eq0
returns-then-answer-eq0 c = c.encode.ensures ∙ written _ _ _ (omega arith)

pub returns-else-answer-eq0 : goal.returns-else-answer-eq0
returns-else-answer-eq0 c = kept _ _ _ (λ e. omega arith)
