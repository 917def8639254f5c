-- `packed_contents` is right because the lower bytes of each number are as many as it has, and so the bytes of all spell the sum that is computed.
use mathlib.Core.Path.{sym, ◌∙◌}
use native.Mathlib.Omega.{arith}
use Rattle.packing.proofs.Packing.{accepted-packed}
use Rattle.packing.proofs.packed_contents.Goals as goal

pub returns : goal.returns
returns c = omega arith ∙ sym (accepted-packed c.args.summary)
