use Rattle.block.proofs.Looking.{Looked}
use Rattle.block.proofs.first_loud_of.Given as goal

abbrev pub invariant-loop-i : goal.invariant-loop-i
invariant-loop-i g l = Looked l.low l.high (g.C.Cells.list l.cells) l.i
