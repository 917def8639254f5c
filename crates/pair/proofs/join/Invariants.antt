use mathlib.Core.Path.{◌≡◌}
use Prim.Native.Nat.{◌*◌}
use Rattle.ints.specs.Cells.{cell}
use Rattle.pair.specs.Pair.{pair_line}
use Rattle.pair.proofs.Joining.{Joined}
use Rattle.pair.proofs.join.Given as goal

abbrev pub invariant-loop-v : goal.invariant-loop-v
invariant-loop-v l = (l.entry ≡ l.v * l.stride) × Joined (pair_line l.scale.digits l.n (cell l.initial.cells)) (cell l.initial.cells) l.n l.v l.cells
