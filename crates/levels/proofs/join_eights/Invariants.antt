use Prim.Native.Nat.{◌*◌}
use Rattle.levels.proofs.TwoBlocks.{BlocksDone}
use Rattle.levels.proofs.join_eights.Given as goal

abbrev pub invariant-loop-eight : goal.invariant-loop-eight
invariant-loop-eight l = BlocksDone l.scale.digits 3 l.initial.cells (l.eight * 8) l.cells
