-- `forward` is right because the cells that are read are those that the bytes spell, or are refused as those would be; the call on cells does the rest.
use Rattle.std.proofs.Common.{rules}
use Rattle.kind.specs.Loudness.{LEAST_SAMPLE, LARGEST_SAMPLE}
use Rattle.hartley.specs.Promises.{forward_left}
use Rattle.lent_cells.proofs.Calls.{left_in_place, said_in_place}
use Rattle.block_bytes.proofs.forward.Goals as goal

pub returns : goal.returns
returns c = let e = c.in_place.ensures in let m = e.called.met in record {
  says = said_in_place LEAST_SAMPLE LARGEST_SAMPLE _ _ e (search rules);
  leaves = left_in_place LEAST_SAMPLE LARGEST_SAMPLE _ _ e (search rules) forward_left (search rules);
}
