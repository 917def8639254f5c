use Prim.Native.Nat.{◌+◌, ◌*◌}
use Rattle.search.proofs.Band.{Peaked}
use Rattle.search.proofs.look_through.Given as goal

abbrev pub invariant-loop-next : goal.invariant-loop-next
invariant-loop-next g l = Peaked (g.C.Cells.list l.powers) l.fn.low.0 l.next l.peak

abbrev pub invariant-loop-k : goal.invariant-loop-k
invariant-loop-k g l = Peaked (g.C.Cells.list l.powers) l.fn.low.0 (l.fours + 4 * l.k) l.peak
