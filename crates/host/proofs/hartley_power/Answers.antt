-- `hartley_power` is right because `power` is.
use Rattle.line_bytes.proofs.Outputs.{power_told}
use Rattle.host.proofs.hartley_power.Goals as goal

pub returns : goal.returns
returns c = let a = c.power.ensures in record {
  answer = a.says;
  numbers = power_told _ _ a.says;
  bytes = a.leaves;
}
