use mathlib.Core.Path.{◌≡◌}
use mathlib.Core.List.{List}
use Prim.Native.Nat.{ℕ, ◌*◌, ◌≤◌}
use lib.IntN.{ℤ}
use Rattle.exact_pair.specs.Pair.{cosine_step}
use Rattle.exact_quarter.proofs.Ends.{Ends}
use Rattle.exact_quarter.proofs.Steps.{AtStep}
use Rattle.exact_quarter.proofs.fill_by.Given as goal

pub record Reached (last : ℕ) (cosine sine : ℤ) (j : ℕ) (c s : ℤ) (xs : List ℤ) : Type 0 where
  pub apart : ℕ
  pub spans : last * apart ≡ 256
  pub between : AtStep apart cosine sine
  pub here : AtStep (j * apart) c s
  pub ends : Ends (λ i. cosine_step (i * apart)) last j xs

abbrev pub invariant-loop-j : goal.invariant-loop-j
invariant-loop-j l = (l.last ≤ 256) × Reached l.last l.step.cosine l.step.sine l.j l.angle.0 l.angle.1.0 l.quarter
