-- `backward` is right because it does what `forward` does, on a spectrum, and then divides each cell by N with rounding.
use mathlib.Core.Path.{◌≡◌, refl, sym, ◌∙◌, ap}
use mathlib.Core.List.{List, [], map}
use Prim.Native.Nat.{ℕ, ◌^◌}
use native.Mathlib.Omega.{arith}
use lib.IntN.{ℤ}
use lib.ListN.{length}
use Rattle.std.specs.Prelude.{Result, Err}
use Rattle.std.proofs.Common.{rules}
use Rattle.ints.specs.Quotient.{rounded}
use Rattle.block.specs.Tests.{tested_spectrum}
use Rattle.block.specs.BlockAnswers.{block_answer, cells_left, verdict_numbers, answer_numbers}
use Rattle.block.proofs.InNumbers.{answered}
use Rattle.block.proofs.Taken.{spectrum_accepted}
use Rattle.block.specs.Transformable.{Transformable}
use Rattle.spectrum.specs.Levels.{transformed}
use Rattle.spectrum.specs.Spectrum.{forward_at, forward, backward}
use Rattle.spectrum.proofs.ForwardDistance.{forward-room}
use Rattle.spectrum.proofs.Loudness.{length-forward}
use Rattle.hartley.specs.Inner.{CanDivide}
use Rattle.hartley.specs.Promises.{NegativeBlock, backward_left}
use Rattle.hartley.proofs.BackwardLeft.{negative-block}
use Rattle.hartley.proofs.backward.Goals as goal
use Rattle.kind.specs.declared.BlockKind.{BlockKind}
use Rattle.refusal.specs.declared.Refusal.{Refusal}

-- r is answered for the lent xs, and zs is left, by what the tests have found
promised : (xs zs : List ℤ) {r : Result (Unit {0}) Refusal} {k : Result BlockKind Refusal} → k ≡ tested_spectrum [] xs → r ≡ block_answer k → zs ≡ cells_left (λ P. backward P xs) xs k → record {
  answer : r ≡ block_answer (tested_spectrum [] xs);
  numbers : answer_numbers r ≡ verdict_numbers (tested_spectrum [] xs);
  cells : zs ≡ backward_left xs;
  negative : NegativeBlock xs zs;
}
promised xs zs {r} {k} e a z = let left : zs ≡ backward_left xs = z ∙ ap (cells_left (λ P. backward P xs) xs) e in record {
  answer = a ∙ ap block_answer e;
  numbers = ap answer_numbers a ∙ answered k ∙ ap verdict_numbers e;
  cells = left;
  negative = rw left (negative-block xs);
}

-- the spectrum of cells that are taken can be divided: the magnitude law says how large its lines are
can-divide : {P : ℕ} {xs ys : List ℤ} → Transformable P xs → ys ≡ forward P xs → CanDivide P ys
unfolding forward forward_at transformed
can-divide {P} {xs} {ys} t e = record { least = t.least; most = t.most; long = ap length e ∙ length-forward P xs; small = λ i. rw e (forward-room P P (omega arith) t.most xs t.quiet i) }

pub transform-requires : goal.transform-requires
transform-requires c = spectrum_accepted [] _ _ (sym c.in_ok-kind.ensures.answer)

pub divide-requires : goal.divide-requires
divide-requires c = can-divide (spectrum_accepted [] _ _ (sym c.in_ok-kind.ensures.answer)) c.transform.ensures

pub returns-in_err-kind : goal.returns-in_err-kind
returns-in_err-kind c = let h : c.from_residual.result ≡ Err c.in_err-kind.field-0.0 = search rules in promised c.args.cells.now _ c.in_err-kind.ensures.answer h refl

pub returns : goal.returns
unfolding backward
returns c = promised c.args.cells.now _ c.in_ok-kind.ensures.answer refl (c.divide.ensures ∙ ap (map (rounded (2 ^ c.in_ok-kind.kind.p))) c.transform.ensures)
