use Rattle.smoothing.proofs.Restoring.{Restoring}
use Rattle.smoothing.proofs.restore.Given as goal

abbrev pub invariant-loop-z : goal.invariant-loop-z
invariant-loop-z l = Restoring l.p l.initial.cells l.z-index l.cells
