-- `forward_of_zeros` is right because there are 2,048 zeros, and so at least as many as are lent.
use Rattle.std.proofs.Common.{sym, length-take-le, rules}
use Rattle.worked_blocks.proofs.forward_of_zeros.Goals as goal

pub slice_bounds-forward-end : goal.slice_bounds-forward-end
slice_bounds-forward-end g c = sym (length-take-le _ _ (search rules))
