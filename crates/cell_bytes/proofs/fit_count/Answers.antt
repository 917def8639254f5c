-- `fit_count` is right because so many bytes are those of the wanted cells exactly where no byte is left over and the quotient is the number wanted.
use borrow.Author.Tests.{eq-eqb, ne_eqb}
use mathlib.Core.Path.{◌≡◌, refl}
use Prim.Native.Nat.{ℕ, ◌*◌}
use native.Mathlib.Omega.{arith}
use Rattle.cell_bytes.specs.CellBytes.{CELL, fit_count}
use Rattle.cell_bytes.proofs.fit_count.Goals as goal

module _ (wanted n : ℕ) where
  none : (n ≡ CELL * wanted → ⊥) → 0 ≡ fit_count wanted n
  unfolding fit_count
  none h = rw (ne_eqb n (CELL * wanted) h) refl

  all : n ≡ CELL * wanted → wanted ≡ fit_count wanted n
  unfolding fit_count
  all h = rw (eq-eqb n (CELL * wanted) h) refl

pub returns-then-bytes-wanted : goal.returns-then-bytes-wanted
returns-then-bytes-wanted c = (none _ _ (λ e. omega arith), omega arith)

pub returns-then-bytes-wanted-2 : goal.returns-then-bytes-wanted-2
returns-then-bytes-wanted-2 c = (none _ _ (λ e. omega arith), omega arith)

pub returns : goal.returns
returns c = (all _ _ (omega arith), omega arith)
