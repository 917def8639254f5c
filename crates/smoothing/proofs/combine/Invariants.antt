use mathlib.Core.Path.{◌≡◌}
use mathlib.Core.List.{List}
use lib.IntN.{ℤ}
use Rattle.smoothing.specs.Inner.{Spectra, lines_combined}
use Rattle.smoothing.proofs.Combining.{Combining}
use Rattle.smoothing.proofs.combine.Given as goal

-- the loop begins with line 0 combined; hs is what the cells held before
abbrev pub invariant-loop-v : goal.invariant-loop-v
invariant-loop-v l = (hs : List ℤ) → Spectra hs l.spectrum → l.initial.cells ≡ lines_combined 0 0 hs l.spectrum → Combining hs l.spectrum l.v l.cells
