-- `hartley_scaled` is right because `scaled` is.
use Rattle.scaled_bytes.specs.LineHeld.{as_line}
use Rattle.scaled_bytes.proofs.Line.{scaled_told}
use Rattle.host.proofs.hartley_scaled.Goals as goal

pub returns : goal.returns
returns c = let a = c.scaled.ensures in record {
  answer = a.says;
  numbers = scaled_told (as_line _) _ a.says;
  real = a.leaves_real;
  imaginary = a.leaves_imaginary;
  values = a.exact;
}
