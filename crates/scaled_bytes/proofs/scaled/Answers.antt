-- `scaled` is right because the cells that are read are those that the bytes spell, or are refused as those would be, and it puts the numbers of the line
-- where they are lent, and its case into the answer.
use mathlib.Core.Path.{◌∙◌, ap, subst}
use Rattle.std.proofs.Common.{rules}
use Rattle.std.specs.Prelude.{Result}
use Rattle.refusal.specs.declared.Refusal.{Refusal}
use Rattle.cell_bytes.specs.CellBytes.{cells_in}
use Rattle.fourier.specs.declared.ScaledLine.{ScaledLine}
use Rattle.fourier.specs.Scaled.{Values}
use Rattle.packing.specs.Packing.{packed_scaled}
use Rattle.scaled_bytes.specs.LineHeld.{imaginary_held, real_held}
use Rattle.scaled_bytes.proofs.Line.{scaled_so}
use Rattle.scaled_bytes.proofs.scaled.Goals as goal

pub returns : goal.returns
returns c = let a = c.args in let w = c.with_cells-answer.ensures in let m = w.1 in let e = scaled_so a.spectrum.now a.line w.0.now w.2 c.with_cells-answer.result (search rules) (search rules) in record {
  says = c.packed_scaled.ensures ∙ ap packed_scaled e.0;
  leaves_real = c.put_values.ensures.0 ∙ ap (λ (r : Result ScaledLine Refusal). real_held r a.real.now) e.0;
  leaves_imaginary = c.put_values.ensures.1 ∙ ap (λ (r : Result ScaledLine Refusal). imaginary_held r a.imaginary.now) e.0;
  exact = subst (Values (cells_in a.spectrum.now) a.line) e.0 e.1;
}
