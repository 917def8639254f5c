-- `backward` is right because the cells that are read are those that the bytes spell, or are refused as those would be; the call on cells does the rest.
use Rattle.std.proofs.Common.{rules}
use Rattle.hartley.specs.Promises.{backward_left}
use Rattle.lent_cells.proofs.Calls.{LARGEST_LINE, LEAST_LINE, left_in_place, said_in_place}
use Rattle.block_bytes.proofs.backward.Goals as goal

pub returns : goal.returns
returns c = let e = c.in_place.ensures in let m = e.called.met in record {
  says = said_in_place LEAST_LINE LARGEST_LINE _ _ e (search rules);
  leaves = left_in_place LEAST_LINE LARGEST_LINE _ _ e (search rules) backward_left (search rules);
}
