-- `power_of` is right because there are four cells, and so at least as many as are lent.
use Rattle.std.proofs.Common.{sym, length-take-le, rules}
use Rattle.worked_blocks.proofs.power_of.Goals as goal

pub slice_bounds-power_into-end : goal.slice_bounds-power_into-end
slice_bounds-power_into-end g c = sym (length-take-le _ _ (search rules))
