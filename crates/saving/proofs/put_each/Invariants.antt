use Rattle.saving.proofs.Blocks.{BlocksPut}
use Rattle.saving.proofs.put_each.Given as goal

abbrev pub invariant-loop-from : goal.invariant-loop-from
invariant-loop-from g l = BlocksPut l.len (g.C.Cells.list l.cells) l.initial.out l.start l.from l.out l.at
