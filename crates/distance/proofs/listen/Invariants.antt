use Rattle.distance.proofs.Listening.{Going}
use Rattle.distance.proofs.listen.Given as goal

abbrev pub invariant-loop-i : goal.invariant-loop-i
invariant-loop-i g l = Going (g.C.Cells.list l.cells) l.largest l.i
