-- `hartley_parts` is right because `parts` is.
use Rattle.line_bytes.proofs.Outputs.{parts_told}
use Rattle.host.proofs.hartley_parts.Goals as goal

pub returns : goal.returns
returns c = let a = c.parts.ensures in record {
  answer = a.says;
  numbers = parts_told _ _ _ a.says;
  real = a.leaves_real;
  imaginary = a.leaves_imaginary;
}
