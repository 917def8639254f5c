-- `power` is right because `tested_spectrum` finds the first fault or none, and `fill` leaves the powers.
use mathlib.Core.Path.{◌≡◌, refl, sym, ◌∙◌, ap}
use mathlib.Core.List.{List, [], ◌∷◌}
use Prim.Native.Nat.{ℕ, ◌+◌, ◌/◌}
use native.Mathlib.Omega.{arith}
use lib.IntN.{ℤ, pos, neg_ℤ}
use lib.ListN.{length}
use Rattle.std.proofs.Common.{rules}
use Rattle.std.specs.Prelude.{Result, Ok, Err}
use Rattle.kind.specs.declared.BlockKind.{BlockKind}
use Rattle.kind.specs.Loudness.{LOUDEST_LINE}
use Rattle.refusal.specs.declared.Refusal.{Refusal}
use Rattle.block.specs.Tests.{tested_spectrum}
use Rattle.block.specs.BlockAnswers.{block_answer, cells_left, verdict_numbers, answer_numbers}
use Rattle.block.proofs.InNumbers.{answered}
use Rattle.block.proofs.Taken.{output_fits, taken_fits, spectrum_accepted}
use Rattle.fourier.specs.Parts.{in_cells, powers, powers_left, square, tested_power}
use Rattle.fourier.proofs.FillingLines.{all_filled}
use Rattle.fourier.proofs.Powers.{powers_tabulated}
use Rattle.fourier.proofs.power.Goals as goal

-- the list fits where it is taken
power-fits : (xs : List ℤ) (n : ℕ) (kind : BlockKind) → tested_spectrum (n ∷ []) xs ≡ Ok kind → n ≡ length xs / 2 + 1
power-fits xs n kind e = (output_fits (length xs / 2 + 1) n [] (taken_fits (neg_ℤ (pos LOUDEST_LINE)) (pos LOUDEST_LINE) (n ∷ []) xs kind e)).0

-- r is answered, and zs is left in the list, by what the tests have found
promised : (xs lent zs : List ℤ) {r : Result (Unit {0}) Refusal} {k : Result BlockKind Refusal} → k ≡ tested_spectrum (length lent ∷ []) xs → r ≡ block_answer k
    → zs ≡ cells_left (λ _. in_cells (powers xs)) lent k → record {
      answer : r ≡ block_answer (tested_power xs lent);
      numbers : answer_numbers r ≡ verdict_numbers (tested_power xs lent);
      powers : zs ≡ powers_left xs lent;
    }
unfolding tested_power
promised xs lent zs {r} {k} e a z = record {
  answer = a ∙ ap block_answer e;
  numbers = ap answer_numbers a ∙ answered k ∙ ap verdict_numbers e;
  powers = z ∙ ap (cells_left (λ _. in_cells (powers xs)) lent) e;
}

pub fill-requires : goal.fill-requires
fill-requires c = let e = sym c.in_ok-tested_spectrum.ensures.answer in record {
  taken = (_, spectrum_accepted _ c.args.spectrum.now c.in_ok-tested_spectrum.field-0 e);
  long = power-fits c.args.spectrum.now _ _ e;
  callable = λ h m quiet mirror-quiet. (quiet, mirror-quiet);
}

pub returns-in_err-tested_spectrum : goal.returns-in_err-tested_spectrum
returns-in_err-tested_spectrum c = let h : c.from_residual.result ≡ Err c.in_err-tested_spectrum.field-0.0 = search rules in
    promised _ _ _ c.in_err-tested_spectrum.ensures.answer h refl

pub returns : goal.returns
returns c = let xs = c.args.spectrum.now in promised _ _ _ c.in_ok-tested_spectrum.ensures.answer refl
    (all_filled (λ h m. pos (square h + square m)) xs c.fill.new.lines (omega (arith, c.fill.auto.lines, power-fits xs _ c.in_ok-tested_spectrum.field-0 (sym c.in_ok-tested_spectrum.ensures.answer))) c.fill.ensures ∙ powers_tabulated xs)
