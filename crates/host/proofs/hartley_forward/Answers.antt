-- `hartley_forward` is right because `forward` is; the other promises are laws of what it leaves.
use mathlib.Core.List.{[]}
use Rattle.kind.specs.Loudness.{LEAST_SAMPLE, LARGEST_SAMPLE}
use Rattle.lent_cells.proofs.Calls.{told_so}
use Rattle.host.proofs.ForwardBytes.{bytes-first-exact, bytes_near, bytes-negative}
use Rattle.host.proofs.hartley_forward.Goals as goal

pub returns : goal.returns
returns c = let a = c.forward.ensures in record {
  answer = a.says;
  numbers = told_so LEAST_SAMPLE LARGEST_SAMPLE [] _ a.says;
  bytes = a.leaves;
  distance = bytes_near _ a;
  first_line = bytes-first-exact _ a;
  negative = bytes-negative _ a;
}
