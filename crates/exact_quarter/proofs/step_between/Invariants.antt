use Prim.Native.Nat.{◌-◌, ◌^◌}
use Rattle.exact_quarter.proofs.Steps.{AtStep}
use Rattle.exact_quarter.proofs.step_between.Given as goal

abbrev pub invariant-loop-k : goal.invariant-loop-k
invariant-loop-k l = AtStep (2 ^ (l.k - l.t)) l.angle.0 l.angle.1.0
