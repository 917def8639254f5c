-- The cells that are read from bytes, and why the engine's own tests then refuse just what a host must be refused: where a byte is left over, or there are
-- more cells than any call takes, no cell is read.
-- Example: `read_tested low high outputs bytes n e ys is : tested low high outputs ys ≡ tested low high outputs (cells_in bytes)`, with
-- e : n ≡ cell_count (CELL * LARGEST) (length bytes) and is : ys ≡ signeds CELL n bytes.
use mathlib.Core.Path.{◌≡◌, refl, sym, ◌∙◌, ap}
use mathlib.Core.List.{List, [], ◌∷◌, map}
use Prim.Native.Nat.{ℕ, ◌+◌, ◌*◌, ◌/◌, ◌%◌, ◌^◌, ◌≤◌, ◌<◌}
use native.Mathlib.Omega.{arith}
use borrow.Author.Tests.{ne_eqb}
use lib.IntN.{ℤ, pos, negsuc, nat_abs}
use lib.ListN.{length}
use Rattle.std.specs.Prelude.{Result, Ok, Err}
use Rattle.kind.specs.declared.BlockKind.{BlockKind}
use Rattle.refusal.specs.declared.Refusal.{Refusal}
use Rattle.refusal.specs.declared.Refusal.TheVariants.{Length, Misfit}
use Rattle.kind.specs.BlockKinds.{LARGEST}
use Rattle.kind.proofs.Lengths.{KindLength, kind-given}
use Rattle.ints.specs.Cells.{cell}
use Rattle.block.specs.BlockAnswers.{cells_left}
use Rattle.block.specs.Tests.{misfit, tested}
use Rattle.block.proofs.Taken.{taken_kind}
use Rattle.block.proofs.Refused.{kind-least, kind-largest, tested-length, tested_outputs}
use Rattle.little_endian.specs.Reading.{Within, signeds}
use Rattle.little_endian.proofs.Signed.{length-signeds}
use Rattle.cell_bytes.specs.CellBytes.{CELL, cell_count, cells_in, fit_count}
use Rattle.cell_bytes.proofs.CellsRead.{Reads, cells_back, fit_count_lem, no_cells, reads, same, too_many}
use Rattle.spectrum.specs.Limits.{LARGEST_CELL}
use Rattle.lent_cells.specs.BytesLeft.{bytes_left}

-- ---- a block, or a spectrum

pub no_block : {n : ℕ} → n ≡ 0 → (P : ℕ) → KindLength n P → ⊥
no_block z P k = omega (arith, kind-least k)

pub large_block : {n : ℕ} → LARGEST < n → (P : ℕ) → KindLength n P → ⊥
large_block h P k = omega (arith, kind-largest k)

module _ (low high : ℤ) (outputs : List ℕ) (bytes : List ℕ) where
  -- a count of bytes that is no multiple of eight is refusal 1
  pub left_over_block : (length bytes % CELL ≡ 0 → ⊥) → tested low high outputs (cells_in bytes) ≡ Err Length
  left_over_block h = tested-length low high outputs (cells_in bytes) (no_block (ap length (no_cells bytes h)))

  -- ys are the cells that are read
  module _ (n : ℕ) (e : n ≡ cell_count (CELL * LARGEST) (length bytes)) (ys : List ℤ) (is : ys ≡ signeds CELL n bytes) where
    long : length ys ≡ n
    long = ap length is ∙ length-signeds CELL n bytes

    -- their tests say what those of the cells that the bytes spell would
    pub read_tested : tested low high outputs ys ≡ tested low high outputs (cells_in bytes)
    read_tested = go (reads LARGEST bytes n e)
      where
        go : Reads LARGEST bytes n → tested low high outputs ys ≡ tested low high outputs (cells_in bytes)
        go (same k room whole) = ap (tested low high outputs) (is ∙ sym k)
        go (too_many z k) = tested-length low high outputs ys (no_block (long ∙ z)) ∙ sym (tested-length low high outputs (cells_in bytes) (large_block k))

    -- and where they are taken, they are the same cells
    pub read_taken : (kind : BlockKind) → tested low high outputs ys ≡ Ok kind → (ys ≡ cells_in bytes) × (length bytes ≡ CELL * n)
    read_taken kind t = go (reads LARGEST bytes n e)
      where
        some : 2 ≤ n
        some = omega (arith, kind-least (taken_kind low high outputs ys kind t), long)

        go : Reads LARGEST bytes n → (ys ≡ cells_in bytes) × (length bytes ≡ CELL * n)
        go (same k room whole) = (is ∙ sym k, whole (omega (arith, some)))
        go (too_many z k) = absurd (omega (arith, some))

-- ---- outputs, each read as all the cells that it should have or as none

-- the cells that the bytes of each are read as, and those that they spell
abbrev pub counts_read : ℕ → List (List ℕ) → List ℕ
counts_read wanted outputs = map (λ bytes. fit_count wanted (length bytes)) outputs

abbrev pub counts_spelt : List (List ℕ) → List ℕ
counts_spelt outputs = map (λ bytes. length (cells_in bytes)) outputs

same-misfit : (wanted : ℕ) → 1 ≤ wanted → (outputs : List (List ℕ)) → misfit wanted (counts_read wanted outputs) ≡ misfit wanted (counts_spelt outputs)
unfolding misfit
same-misfit wanted some [] = refl
same-misfit wanted some (bytes ∷ more) = rw (fit_count_lem wanted some bytes, same-misfit wanted some more) refl

module _ (low high : ℤ) where
  -- a count of bytes that is no multiple of eight is refusal 2, where 1 is passed
  pub left_over_output : (bytes : List ℕ) (outputs : List (List ℕ)) (xs : List ℤ) → (length bytes % CELL ≡ 0 → ⊥) → (P : ℕ) → KindLength (length xs) P
      → tested low high (counts_spelt (bytes ∷ outputs)) xs ≡ Err Misfit
  unfolding tested misfit
  left_over_output bytes outputs xs h P k = rw (ne_eqb (length (cells_in bytes)) (length xs / 2 + 1) (λ e. omega (arith, ap length (no_cells bytes h))), kind-given (length xs) P k) refl

  module _ (spectrum : List ℕ) (outputs : List (List ℕ)) (n : ℕ) (e : n ≡ cell_count (CELL * LARGEST) (length spectrum)) (ys : List ℤ) (is : ys ≡ signeds CELL n spectrum) where
    abbrev lines : ℕ
    lines = length ys / 2 + 1

    pub outputs_tested : tested low high (counts_read lines outputs) ys ≡ tested low high (counts_spelt outputs) (cells_in spectrum)
    outputs_tested = tested_outputs low high (counts_read lines outputs) (counts_spelt outputs) ys (λ P k. same-misfit lines (omega arith) outputs)
        ∙ read_tested low high (counts_spelt outputs) spectrum n e ys is

-- ---- bytes that were written spell the cells that they were written for

-- eight bytes hold every cell that a call leaves
cell-within : (z : ℤ) → nat_abs z ≤ LARGEST_CELL → Within (256 ^ CELL) z
cell-within (pos x) h = omega arith
cell-within (negsuc x) h = omega arith

-- the bytes that a call on a block leaves spell the cells that it leaves; k is what the tests of the lent cells find
pub left_spelled : (result : ℕ → List ℤ) (bytes : List ℕ) (k : Result BlockKind Refusal) → ((kind : BlockKind) → k ≡ Ok kind → (i : ℕ) → nat_abs (cell (result kind.p) i) ≤ LARGEST_CELL)
    → let left = cells_left result (cells_in bytes) k in cells_in (bytes_left k left bytes) ≡ left
left_spelled result bytes (Ok kind) small = cells_back (result kind.p) (λ i h. cell-within (cell (result kind.p) i) (small kind refl i))
left_spelled result bytes (Err refusal) small = refl
