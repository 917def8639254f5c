-- What falls: twice the doublings left, and 1 more for the whole turn's cosine. With d left the quarter's cosine calls the whole turn's with d - 1, and the
-- whole turn's calls the quarter's with d.
use Prim.Native.Nat.{◌+◌, ◌*◌}
use Rattle.table_rule.proofs.+cosine.Given as goal

abbrev pub decreases-quarter_cosine : goal.decreases-quarter_cosine
decreases-quarter_cosine l = 2 * l.doublings

abbrev pub decreases-turn_cosine : goal.decreases-turn_cosine
decreases-turn_cosine l = 2 * l.doublings + 1
