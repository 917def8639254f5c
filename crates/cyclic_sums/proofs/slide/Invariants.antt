use lib.IntN.{pos}
use Rattle.ints.proofs.Filling.{Filled}
use Rattle.cyclic_sums.specs.Short.{slid_sum}
use Rattle.cyclic_sums.proofs.slide.Given as goal

abbrev pub invariant-loop-t : goal.invariant-loop-t
invariant-loop-t l = Filled (pos 0) (slid_sum l.samples l.turned) l.t l.sums
