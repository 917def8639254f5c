-- `hartley_smooth` is right because `smooth` is; that any pair would do is a law of what it leaves.
use Rattle.smooth_bytes.proofs.Read.{smooth_told}
use Rattle.host.proofs.SmoothBytes.{bytes_any_pair}
use Rattle.host.proofs.hartley_smooth.Goals as goal

pub returns : goal.returns
returns c = let a = c.smooth.ensures in record {
  answer = a.says;
  numbers = smooth_told _ _ a.says;
  bytes = a.leaves;
  any_pair = bytes_any_pair _ _ a;
}
