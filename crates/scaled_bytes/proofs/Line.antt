-- What a scaled line of the cells that were read, ys, tells of that of the cells that the bytes spell.
use mathlib.Core.Path.{◌≡◌, refl, sym, ◌∙◌, ap, subst}
use mathlib.Core.Bool.{Bool, true, false}
use mathlib.Core.List.{List, []}
use Prim.Native.Nat.{ℕ, ◌*◌, ◌/◌}
use native.Mathlib.Omega.{arith}
use lib.Dec.{ltb}
use lib.IntN.{ℤ}
use lib.ListN.{length}
use Rattle.std.specs.Prelude.{Result, Ok, Err}
use Rattle.kind.specs.declared.BlockKind.{BlockKind}
use Rattle.kind.specs.declared.Line.{Line}
use Rattle.kind.specs.BlockKinds.{LARGEST}
use Rattle.refusal.specs.declared.Refusal.{Refusal}
use Rattle.refusal.specs.declared.Refusal.TheVariants.{Line as LineAbove}
use Rattle.cell_bytes.specs.CellBytes.{CELL, cells_in, cells_read}
use Rattle.block.specs.Tests.{refused_if, tested_line, tested_spectrum}
use Rattle.block.proofs.Refused.{InBlock, refused_in_block}
use Rattle.fourier.specs.declared.ScaledLine.{ScaledLine}
use Rattle.fourier.specs.Scaled.{Values, scaled_to}
use Rattle.packing.specs.Packing.{case_numbers, packed_scaled, unpacked_scaled}
use Rattle.packing.proofs.Packing.{Tellable, in_block_tellable, line_tellable, scaled_unpacked}
use Rattle.lent_cells.proofs.Counts.{read_tested, read_taken}
use Rattle.lent_cells.proofs.Calls.{LARGEST_LINE, LEAST_LINE}
use Rattle.scaled_bytes.specs.LineHeld.{scaled_of}

module _ (spectrum : List ℕ) (line : Line) (ys : List ℤ) (is : ys ≡ cells_read (CELL * LARGEST) spectrum) where
  -- the line by what the tests of the cells find
  by : List ℤ → Result BlockKind Refusal → Result ScaledLine Refusal
  by zs k = scaled_to zs line (refused_if (ltb (length zs / 2) line.0) (LineAbove line) k)

  same_tests : tested_spectrum [] ys ≡ tested_spectrum [] (cells_in spectrum)
  same_tests = read_tested LEAST_LINE LARGEST_LINE [] spectrum _ refl ys is

  pub scaled_so : (r : Result ScaledLine Refusal) → r ≡ scaled_to ys line (tested_line line ys) → Values ys line r → (r ≡ scaled_of spectrum line) × Values (cells_in spectrum) line r
  unfolding by
  scaled_so r e v = go (tested_spectrum [] ys) refl
    where
      go : (k : Result BlockKind Refusal) → tested_spectrum [] ys ≡ k → (r ≡ scaled_of spectrum line) × Values (cells_in spectrum) line r
      go (Ok kind) t = let s = (read_taken LEAST_LINE LARGEST_LINE [] spectrum _ refl ys is kind t).0 in
          (e ∙ ap (λ (zs : List ℤ). scaled_to zs line (tested_line line zs)) s, subst (λ (zs : List ℤ). Values zs line r) s v)
      go (Err refusal) t = let q = e ∙ ap (by ys) t in (q ∙ sym (ap (by (cells_in spectrum)) (sym same_tests ∙ t)), subst (Values (cells_in spectrum) line) (sym q) tt)

-- ---- document 01's numbers in the answer

module _ (line : Line) (xs : List ℤ) where
  -- a line is refused as the spectrum is, or by 4 with the line
  tellable : (k : Result BlockKind Refusal) → ((refusal : Refusal) → k ≡ Err refusal → InBlock refusal) → (above : Bool) (refusal : Refusal) → refused_if above (LineAbove line) k ≡ Err refusal → Tellable line.0 refusal
  tellable (Err first) h above refusal e = in_block_tellable line.0 refusal (h refusal e)
  tellable (Ok kind) h true refusal e = let q : LineAbove line ≡ refusal = cc in subst (Tellable line.0) q (line_tellable line refl)
  tellable (Ok kind) h false refusal e = let z : ◌≡◌ {A = ℕ} 0 1 = cc in absurd (omega arith)

  pub scaled_told : {answer : ℕ} → answer ≡ packed_scaled (scaled_to xs line (tested_line line xs)) → unpacked_scaled line.0 answer ≡ case_numbers (length xs) line.0 (tested_line line xs)
  scaled_told e = ap (unpacked_scaled line.0) e
      ∙ scaled_unpacked xs line (tested_line line xs) (tellable (tested_spectrum [] xs) (refused_in_block LEAST_LINE LARGEST_LINE [] xs) (ltb (length xs / 2) line.0))
