-- `hartley_bound` is right because it packs what `bound` answers, and every number of that fits its bytes.
use mathlib.Core.Path.{◌∙◌, ap}
use Rattle.packing.specs.Packing.{packed_bound}
use Rattle.bound_bytes.proofs.Told.{bound_told}
use Rattle.host.proofs.hartley_bound.Goals as goal

pub returns : goal.returns
returns c = let e = c.packed_bound.ensures ∙ ap packed_bound c.bound.ensures in record {
  answer = e;
  numbers = bound_told _ e;
}
