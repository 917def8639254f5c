-- What the parts and the power of the cells that were read tell of those that the bytes spell. ys are the cells of the spectrum, and reals, imaginaries
-- and values those that were read of the outputs.
use mathlib.Core.Path.{◌≡◌, sym, ◌∙◌, ap}
use mathlib.Core.List.{List, [], ◌∷◌}
use Prim.Native.Nat.{ℕ, ◌+◌, ◌*◌, ◌/◌, ◌≤◌}
use native.Mathlib.Omega.{arith}
use lib.IntN.{ℤ, pos}
use lib.ListN.{length, replicate, take}
use Rattle.std.specs.Prelude.{Result, Ok}
use Rattle.kind.specs.declared.BlockKind.{BlockKind}
use Rattle.kind.specs.BlockKinds.{LARGEST}
use Rattle.little_endian.specs.Reading.{signeds}
use Rattle.cell_bytes.specs.CellBytes.{CELL, cell_count, cells_in, fit_count}
use Rattle.refusal.specs.declared.Refusal.{Refusal}
use Rattle.block.specs.Tests.{tested}
use Rattle.block.specs.BlockAnswers.{block_answer, cells_left, verdict_numbers}
use Rattle.block.proofs.Taken.{output_fits, taken_fits}
use Rattle.fourier.specs.declared.Doubled.TheVariants.{Real, Imaginary}
use Rattle.fourier.specs.Parts.{doubled_lines, imaginary_left, in_cells, powers, powers_left, real_left, tested_parts, tested_power}
use Rattle.packing.specs.Packing.{packed, unpacked_block}
use Rattle.lent_cells.specs.BytesLeft.{written_back}
use Rattle.lent_cells.proofs.Counts.{counts_spelt, outputs_tested}
use Rattle.lent_cells.proofs.Rooms.{room_front}
use Rattle.lent_cells.proofs.Calls.{LARGEST_LINE, LEAST_LINE, left_in_output, says_so, told_so}
use Rattle.line_bytes.specs.Inner.{PartsAnswered, PowerAnswered}

-- as many lines as should be
abbrev wanted : List ℤ → ℕ
wanted ys = length ys / 2 + 1

abbrev by : List ℕ → List ℤ → Result BlockKind Refusal
by outputs xs = tested LEAST_LINE LARGEST_LINE outputs xs

-- the cells of an output, as many as fit the n cells that were read, in a room for the lines of so many
pub output_counted : (ys : List ℤ) {n : ℕ} → length ys ≡ n → (cells : ℕ) → n ≤ cells → (lines : ℕ) → lines ≡ cells / 2 + 1 → (bytes : ℕ) {m : ℕ} → (m ≡ fit_count (n / 2 + 1) bytes) × (m ≤ n / 2 + 1)
    → length (take m (replicate lines (pos 0))) ≡ fit_count (wanted ys) bytes
output_counted ys {n} long cells h lines l bytes {m} e = room_front m lines (omega (arith, e.1)) ∙ e.0 ∙ ap (λ (k : ℕ). fit_count (k / 2 + 1) bytes) (sym long)

module _ (spectrum : List ℕ) (n : ℕ) (e : n ≡ cell_count (CELL * LARGEST) (length spectrum)) (ys : List ℤ) (is : ys ≡ signeds CELL n spectrum) where
  -- ---- the parts

  module _ (real imaginary : List ℕ) (reals imaginaries : List ℤ) (er : length reals ≡ fit_count (wanted ys) (length real)) (ei : length imaginaries ≡ fit_count (wanted ys) (length imaginary)) where
    counted_two : tested_parts ys reals imaginaries ≡ by (fit_count (wanted ys) (length real) ∷ fit_count (wanted ys) (length imaginary) ∷ []) ys
    unfolding tested_parts
    counted_two = ap (λ (m : ℕ). by (m ∷ length imaginaries ∷ []) ys) er ∙ ap (λ (m : ℕ). by (fit_count (wanted ys) (length real) ∷ m ∷ []) ys) ei

    fits_two : (kind : BlockKind) → by (fit_count (wanted ys) (length real) ∷ fit_count (wanted ys) (length imaginary) ∷ []) ys ≡ Ok kind → (length reals ≡ wanted ys) × (length imaginaries ≡ wanted ys)
    fits_two kind t = let f = output_fits (wanted ys) _ _ (taken_fits LEAST_LINE LARGEST_LINE _ ys kind t) in let g = output_fits (wanted ys) _ _ f.1 in (er ∙ f.0, ei ∙ g.0)

    pub answered_parts : {answer : ℕ} → answer ≡ packed (block_answer (tested_parts ys reals imaginaries)) → (rs ims : List ℤ) → rs ≡ real_left ys reals imaginaries → ims ≡ imaginary_left ys reals imaginaries
        → length rs ≡ length reals → length ims ≡ length imaginaries → {real-after imaginary-after : List ℕ} → real-after ≡ written_back answer rs real → imaginary-after ≡ written_back answer ims imaginary
        → PartsAnswered spectrum real imaginary real-after imaginary-after answer
    unfolding tested_parts
    answered_parts a rs ims r i mr mi lr li = let both = real ∷ imaginary ∷ [] in let a = a ∙ ap (λ (k : Result BlockKind Refusal). packed (block_answer k)) counted_two in record {
      says = says_so (by (counts_spelt both) (cells_in spectrum)) _ (outputs_tested LEAST_LINE LARGEST_LINE spectrum both n e ys is) a;
      leaves_real = left_in_output LEAST_LINE LARGEST_LINE spectrum both n e ys is a (doubled_lines Real) real reals er (λ kind t. (fits_two kind t).0) rs (r ∙ ap (λ (k : Result BlockKind Refusal). cells_left (λ _. doubled_lines Real ys) reals k) counted_two) mr lr;
      leaves_imaginary = left_in_output LEAST_LINE LARGEST_LINE spectrum both n e ys is a (doubled_lines Imaginary) imaginary imaginaries ei (λ kind t. (fits_two kind t).1) ims (i ∙ ap (λ (k : Result BlockKind Refusal). cells_left (λ _. doubled_lines Imaginary ys) imaginaries k) counted_two) mi li;
    }

  -- ---- the power

  module _ (bytes : List ℕ) (values : List ℤ) (ev : length values ≡ fit_count (wanted ys) (length bytes)) where
    counted_one : tested_power ys values ≡ by (fit_count (wanted ys) (length bytes) ∷ []) ys
    unfolding tested_power
    counted_one = ap (λ (m : ℕ). by (m ∷ []) ys) ev

    fits_one : (kind : BlockKind) → by (fit_count (wanted ys) (length bytes) ∷ []) ys ≡ Ok kind → length values ≡ wanted ys
    fits_one kind t = ev ∙ (output_fits (wanted ys) _ _ (taken_fits LEAST_LINE LARGEST_LINE _ ys kind t)).0

    pub answered_power : {answer : ℕ} → answer ≡ packed (block_answer (tested_power ys values)) → (vs : List ℤ) → vs ≡ powers_left ys values → length vs ≡ length values → {after : List ℕ} → after ≡ written_back answer vs bytes
        → PowerAnswered spectrum bytes after answer
    unfolding tested_power
    answered_power a vs v m l = let one = bytes ∷ [] in let a = a ∙ ap (λ (k : Result BlockKind Refusal). packed (block_answer k)) counted_one in record {
      says = says_so (by (counts_spelt one) (cells_in spectrum)) _ (outputs_tested LEAST_LINE LARGEST_LINE spectrum one n e ys is) a;
      leaves = left_in_output LEAST_LINE LARGEST_LINE spectrum one n e ys is a (λ xs. in_cells (powers xs)) bytes values ev fits_one vs (v ∙ ap (λ (k : Result BlockKind Refusal). cells_left (λ _. in_cells (powers ys)) values k) counted_one) m l;
    }

-- ---- document 01's numbers in the answers

pub parts_told : (xs real imaginary : List ℤ) {answer : ℕ} → answer ≡ packed (block_answer (tested_parts xs real imaginary)) → unpacked_block answer ≡ verdict_numbers (tested_parts xs real imaginary)
unfolding tested_parts
parts_told xs real imaginary e = told_so LEAST_LINE LARGEST_LINE (length real ∷ length imaginary ∷ []) xs e

pub power_told : (xs lent : List ℤ) {answer : ℕ} → answer ≡ packed (block_answer (tested_power xs lent)) → unpacked_block answer ≡ verdict_numbers (tested_power xs lent)
unfolding tested_power
power_told xs lent e = told_so LEAST_LINE LARGEST_LINE (length lent ∷ []) xs e
