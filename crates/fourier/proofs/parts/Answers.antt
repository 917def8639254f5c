-- `parts` is right because `tested_spectrum` finds the first fault or none, and `fill` leaves the lines of each part.
use mathlib.Core.Path.{◌≡◌, refl, sym, ◌∙◌, ap}
use mathlib.Core.List.{List, [], ◌∷◌}
use Prim.Native.Nat.{ℕ, ◌+◌, ◌-◌, ◌/◌, ◌<◌}
use native.Mathlib.Omega.{arith}
use lib.IntN.{ℤ, pos, neg_ℤ}
use lib.ListN.{length}
use Rattle.std.proofs.Common.{rules}
use Rattle.std.specs.Prelude.{Result, Ok, Err}
use Rattle.ints.specs.Cells.{cell}
use Rattle.kind.specs.declared.BlockKind.{BlockKind}
use Rattle.kind.specs.Loudness.{LOUDEST_LINE}
use Rattle.refusal.specs.declared.Refusal.{Refusal}
use Rattle.block.specs.Tests.{tested_spectrum}
use Rattle.block.specs.BlockAnswers.{block_answer, verdict_numbers, answer_numbers}
use Rattle.block.proofs.InNumbers.{answered}
use Rattle.block.proofs.Taken.{output_fits, taken_fits, spectrum_accepted}
use Rattle.fourier.specs.declared.Doubled.TheVariants.{Real, Imaginary}
use Rattle.fourier.specs.Parts.{H, formula, imaginary_left, lines_left, real_left, tested_parts}
use Rattle.fourier.proofs.FillingLines.{all_filled}
use Rattle.fourier.proofs.Lines.{read_quiet}
use Rattle.fourier.proofs.parts.Goals as goal

-- both lists fit where they are taken
both-fit : (xs : List ℤ) (m n : ℕ) (kind : BlockKind) → tested_spectrum (m ∷ n ∷ []) xs ≡ Ok kind → (m ≡ length xs / 2 + 1) × (n ≡ length xs / 2 + 1)
both-fit xs m n kind e = let first = output_fits (length xs / 2 + 1) m (n ∷ []) (taken_fits (neg_ℤ (pos LOUDEST_LINE)) (pos LOUDEST_LINE) (m ∷ n ∷ []) xs kind e) in
    (first.0, (output_fits (length xs / 2 + 1) n [] first.1).0)

-- r is answered, and zr and zi are left in the two lists, by what the tests have found
promised : (xs reals imaginaries zr zi : List ℤ) {r : Result (Unit {0}) Refusal} {k : Result BlockKind Refusal} → k ≡ tested_spectrum (length reals ∷ length imaginaries ∷ []) xs → r ≡ block_answer k
    → zr ≡ lines_left Real xs reals k → zi ≡ lines_left Imaginary xs imaginaries k → record {
      answer : r ≡ block_answer (tested_parts xs reals imaginaries);
      numbers : answer_numbers r ≡ verdict_numbers (tested_parts xs reals imaginaries);
      real : zr ≡ real_left xs reals imaginaries;
      imaginary : zi ≡ imaginary_left xs reals imaginaries;
    }
unfolding tested_parts
promised xs reals imaginaries zr zi {r} {k} e a re im = record {
  answer = a ∙ ap block_answer e;
  numbers = ap answer_numbers a ∙ answered k ∙ ap verdict_numbers e;
  real = re ∙ ap (lines_left Real xs reals) e;
  imaginary = im ∙ ap (lines_left Imaginary xs imaginaries) e;
}

pub fill-requires : goal.fill-requires
fill-requires c = let e = sym c.in_ok-tested_spectrum.ensures.answer in record {
  taken = (_, spectrum_accepted _ c.args.spectrum.now c.in_ok-tested_spectrum.field-0 e);
  long = (both-fit c.args.spectrum.now _ _ _ e).0;
  callable = search (rules, read_quiet);
}

pub fill-requires-2 : goal.fill-requires-2
fill-requires-2 c = let e = sym c.in_ok-tested_spectrum.ensures.answer in record {
  taken = (_, spectrum_accepted _ c.args.spectrum.now c.in_ok-tested_spectrum.field-0 e);
  long = (both-fit c.args.spectrum.now _ _ _ e).1;
  callable = search (rules, read_quiet);
}

pub returns-in_err-tested_spectrum : goal.returns-in_err-tested_spectrum
returns-in_err-tested_spectrum c = let h : c.from_residual.result ≡ Err c.in_err-tested_spectrum.field-0.0 = search rules in
    promised _ _ _ _ _ c.in_err-tested_spectrum.ensures.answer h refl refl

pub returns : goal.returns
returns c = let xs = c.args.spectrum.now in let e = sym c.in_ok-tested_spectrum.ensures.answer in let fits = both-fit xs _ _ c.in_ok-tested_spectrum.field-0 e in
    let real : (v : ℕ) → v < length c.fill.new.lines → cell c.fill.new.lines v ≡ formula Real (H xs v) (H xs (length xs - v)) = λ v h. let f = c.fill.ensures v h in search rules in
    let imaginary : (v : ℕ) → v < length c.fill-2.new.lines → cell c.fill-2.new.lines v ≡ formula Imaginary (H xs v) (H xs (length xs - v)) = λ v h. let f = c.fill-2.ensures v h in search rules in
    promised _ _ _ _ _ c.in_ok-tested_spectrum.ensures.answer refl
    (all_filled (formula Real) xs c.fill.new.lines (omega (arith, c.fill.auto.lines, fits)) real) (all_filled (formula Imaginary) xs c.fill-2.new.lines (omega (arith, c.fill-2.auto.lines, fits)) imaginary)
