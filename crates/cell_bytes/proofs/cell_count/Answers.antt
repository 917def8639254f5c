-- `cell_count` is right because its two tests are those of the definition.
use borrow.Author.Tests.{eq-eqb, ne_eqb, le-leb, lt-leb}
use mathlib.Core.Path.{◌≡◌, refl}
use Prim.Native.Nat.{ℕ, ◌/◌, ◌%◌, ◌≤◌, ◌<◌}
use native.Mathlib.Omega.{arith}
use Rattle.cell_bytes.specs.CellBytes.{cell_count}
use Rattle.cell_bytes.proofs.cell_count.Goals as goal

module _ (n most : ℕ) where
  left_over : (n % 8 ≡ 0 → ⊥) → 0 ≡ cell_count most n
  unfolding cell_count
  left_over h = rw (ne_eqb (n % 8) 0 h) refl

  module _ (whole : n % 8 ≡ 0) where
    too_many : most < n → 0 ≡ cell_count most n
    unfolding cell_count
    too_many h = rw (eq-eqb (n % 8) 0 whole, lt-leb n most h) refl

    all : n ≤ most → n / 8 ≡ cell_count most n
    unfolding cell_count
    all h = rw (eq-eqb (n % 8) 0 whole, le-leb n most h) refl

pub returns-then-bytes-ne0 : goal.returns-then-bytes-ne0
returns-then-bytes-ne0 c = (left_over _ _ (λ e. omega arith), omega arith)

pub returns-then-most-bytes : goal.returns-then-most-bytes
returns-then-most-bytes c = (too_many _ _ (omega arith) (omega arith), omega arith)

pub returns : goal.returns
returns c = (all _ _ (omega arith) (omega arith), omega arith)
