-- `tested_spectrum` is right because it hands on the limits ±2^28.
use lib.IntN.{pos, neg_ℤ}
use Rattle.ints.proofs.Order.{equal}
use Rattle.kind.specs.Loudness.{LOUDEST_LINE}
use Rattle.block.proofs.Limits.{by_limits}
use Rattle.block.proofs.InNumbers.{both_ways}
use Rattle.block.proofs.tested_spectrum.Goals as goal

pub returns : goal.returns
unfolding equal
returns c = both_ways _ _ _ _ (by_limits (neg_ℤ (pos LOUDEST_LINE)) (pos LOUDEST_LINE) _ _ _ _ c.tested.ensures tt tt)
