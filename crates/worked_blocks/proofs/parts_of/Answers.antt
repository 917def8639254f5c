-- `parts_of` is right because each list has four cells, and so at least as many as are lent.
use Rattle.std.proofs.Common.{sym, length-take-le, rules}
use Rattle.worked_blocks.proofs.parts_of.Goals as goal

pub slice_bounds-parts_into-end : goal.slice_bounds-parts_into-end
slice_bounds-parts_into-end g c = sym (length-take-le _ _ (search rules))

pub slice_bounds-parts_into-end-2 : goal.slice_bounds-parts_into-end-2
slice_bounds-parts_into-end-2 g c = sym (length-take-le _ _ (search rules))
