use mathlib.Core.Path.{◌≡◌}
use lib.IntN.{pos}
use lib.ListN.{length}
use Rattle.ints.specs.Cells.{cell}
use Rattle.ints.proofs.Filling.{Filled}
use Rattle.cyclic_sums.proofs.copy.Given as goal

abbrev pub invariant-loop-i : goal.invariant-loop-i
invariant-loop-i l = (length l.to ≡ length l.initial.to) × Filled (pos 0) (cell l.from) l.i l.to
