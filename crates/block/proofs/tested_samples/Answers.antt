-- `tested_samples` is right because it hands on the limits -32,768 and 32,767, and no outputs.
use Rattle.ints.proofs.Order.{equal}
use Rattle.kind.specs.Loudness.{LEAST_SAMPLE, LARGEST_SAMPLE}
use Rattle.block.proofs.Limits.{by_limits}
use Rattle.block.proofs.InNumbers.{both_ways}
use Rattle.block.proofs.tested_samples.Goals as goal

pub returns : goal.returns
unfolding equal
returns c = both_ways _ _ _ _ (by_limits LEAST_SAMPLE LARGEST_SAMPLE _ _ _ _ c.tested.ensures tt tt)
