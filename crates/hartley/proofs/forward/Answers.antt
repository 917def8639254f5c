-- `forward` is right because `tested_samples` finds the first fault or none, and `transform` leaves the spectrum, of which demand 3, line 0 and
-- the negative are laws.
use mathlib.Core.Path.{◌≡◌, refl, sym, ◌∙◌, ap}
use mathlib.Core.List.{List}
use lib.IntN.{ℤ}
use Rattle.std.proofs.Common.{rules}
use Rattle.std.specs.Prelude.{Result, Ok, Err, OnOk}
use Rattle.kind.specs.declared.BlockKind.{BlockKind}
use Rattle.refusal.specs.declared.Refusal.{Refusal}
use Rattle.block.specs.Tests.{tested_samples}
use Rattle.block.specs.BlockAnswers.{block_answer, cells_left, verdict_numbers, answer_numbers}
use Rattle.block.proofs.InNumbers.{answered}
use Rattle.block.proofs.Taken.{samples-accepted}
use Rattle.spectrum.specs.Spectrum.{forward}
use Rattle.hartley.specs.Promises.{FirstLineExact, NearDirectSum, NegativeSpectrum, forward_left}
use Rattle.hartley.proofs.ForwardTaken.{first-line-exact, near_direct_sum, negative_spectrum}
use Rattle.hartley.proofs.forward.Goals as goal

on_ok : {P : Type 0} (r : Result (Unit {0}) Refusal) → (r ≡ Ok tt → P) → OnOk r P
on_ok (Ok tt) f = f refl
on_ok (Err refusal) f = tt

-- r is answered for the lent xs, and zs is left, by what the tests have found
promised : (xs zs : List ℤ) {r : Result (Unit {0}) Refusal} {k : Result BlockKind Refusal} → k ≡ tested_samples xs → r ≡ block_answer k → zs ≡ cells_left (λ P. forward P xs) xs k → record {
  answer : r ≡ block_answer (tested_samples xs);
  numbers : answer_numbers r ≡ verdict_numbers (tested_samples xs);
  cells : zs ≡ forward_left xs;
  distance : OnOk r (NearDirectSum xs zs);
  first_line : OnOk r (FirstLineExact xs zs);
  negative : OnOk r (NegativeSpectrum xs zs);
}
promised xs zs {r} {k} e a z =
    let answer : r ≡ block_answer (tested_samples xs) = a ∙ ap block_answer e in let left : zs ≡ forward_left xs = z ∙ ap (cells_left (λ P. forward P xs) xs) e in record {
      answer = answer;
      numbers = ap answer_numbers a ∙ answered k ∙ ap verdict_numbers e;
      cells = left;
      distance = on_ok r (λ d. rw left (near_direct_sum xs (sym answer ∙ d)));
      first_line = on_ok r (λ d. rw left (first-line-exact xs (sym answer ∙ d)));
      negative = on_ok r (λ d. rw left (negative_spectrum xs (sym answer ∙ d)));
    }

pub transform-requires : goal.transform-requires
transform-requires c = samples-accepted _ _ (sym c.in_ok-kind.ensures.answer)

pub returns-in_err-kind : goal.returns-in_err-kind
returns-in_err-kind c = let h : c.from_residual.result ≡ Err c.in_err-kind.field-0.0 = search rules in promised c.args.cells.now _ c.in_err-kind.ensures.answer h refl

pub returns : goal.returns
returns c = promised c.args.cells.now _ c.in_ok-kind.ensures.answer refl c.transform.ensures
