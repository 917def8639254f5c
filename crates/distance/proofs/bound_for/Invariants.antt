use Prim.Native.Nat.{min}
use mathlib.Core.Path.{◌≡◌}
use Rattle.spectrum.specs.Distance.{bound}
use Rattle.distance.proofs.bound_for.Given as goal

-- so_far is the bound of the levels that are done; of fewer than two it is that of all
abbrev pub invariant-loop-level : goal.invariant-loop-level
invariant-loop-level l = l.so_far ≡ bound l.scale l.largest (min l.level l.p)
