-- `scaled` is right because `tested_line` finds the first fault or none, `scaled_line` answers for a line that there is, and its f64 are exact.
use mathlib.Core.Path.{◌≡◌, sym}
use Rattle.std.specs.Prelude.{Ok}
use Rattle.block.specs.Tests.{tested_line}
use Rattle.block.proofs.Taken.{spectrum_accepted, taken_line}
use Rattle.fourier.proofs.Values.{values}
use Rattle.fourier.proofs.scaled.Goals as goal

pub scaled_line-requires : goal.scaled_line-requires
scaled_line-requires c = let xs = c.args.spectrum.now in let e : tested_line c.args.line xs ≡ Ok c.in_ok-tested_line.field-0 = sym c.in_ok-tested_line.ensures.answer in
    let t = taken_line c.args.line xs _ e in ((_, spectrum_accepted _ xs _ t.0), t.1)

pub returns-clause-values : goal.returns-clause-values
returns-clause-values c = let xs = c.args.spectrum.now in let e : tested_line c.args.line xs ≡ Ok c.in_ok-tested_line.field-0 = sym c.in_ok-tested_line.ensures.answer in
    let t = taken_line c.args.line xs _ e in rw c.scaled_line.ensures (values (spectrum_accepted _ xs _ t.0) c.args.line t.1)
