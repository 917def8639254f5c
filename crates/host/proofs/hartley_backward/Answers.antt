-- `hartley_backward` is right because `backward` is; what it says of the negative is a law of what it leaves.
use mathlib.Core.List.{[]}
use Rattle.lent_cells.proofs.Calls.{LARGEST_LINE, LEAST_LINE, told_so}
use Rattle.host.proofs.BackwardBytes.{bytes-negative}
use Rattle.host.proofs.hartley_backward.Goals as goal

pub returns : goal.returns
returns c = let a = c.backward.ensures in record {
  answer = a.says;
  numbers = told_so LEAST_LINE LARGEST_LINE [] _ a.says;
  bytes = a.leaves;
  negative = bytes-negative _ a;
}
