use mathlib.Core.Path.{◌≡◌}
use Prim.Native.Nat.{◌-◌, ◌%◌}
use lib.ListN.{length}
use Rattle.fourier.proofs.FillingLines.{LinesFilled}
use Rattle.fourier.proofs.fill.Given as goal

abbrev pub invariant-loop-v : goal.invariant-loop-v
invariant-loop-v g l = LinesFilled (goal.F-post g l.value) l.spectrum l.lines l.v × (l.mirror ≡ (length l.spectrum - l.v) % length l.spectrum)
