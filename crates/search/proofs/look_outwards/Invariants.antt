use Prim.Native.Nat.{◌+◌, max}
use Rattle.search.specs.Inner.{NoneWithin}
use Rattle.search.proofs.look_outwards.Given as goal

abbrev pub invariant-loop-far : goal.invariant-loop-far
invariant-loop-far g l = NoneWithin (g.C.Cells.list l.powers) l.v l.level l.far

abbrev pub invariant-loop-far-2 : goal.invariant-loop-far-2
invariant-loop-far-2 g l = NoneWithin (g.C.Cells.list l.powers) l.v l.level l.far

abbrev pub invariant-loop-far-3 : goal.invariant-loop-far-3
invariant-loop-far-3 g l = NoneWithin (g.C.Cells.list l.powers) l.v l.level (max (l.v + 1) l.far)
