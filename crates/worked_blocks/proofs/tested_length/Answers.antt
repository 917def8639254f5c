-- `tested_length` is right because there are 2,048 zeros, and so at least as many as are tested.
use Rattle.std.proofs.Common.{sym, length-take-le, rules}
use Rattle.worked_blocks.proofs.tested_length.Goals as goal

pub slice_bounds-tested_samples-end : goal.slice_bounds-tested_samples-end
slice_bounds-tested_samples-end g c = sym (length-take-le _ _ (search rules))
