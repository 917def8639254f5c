-- `smooth_in_rooms` is right because `smooth_in` is, in the fronts of rooms that are large enough.
use native.Mathlib.Omega.{arith}
use Rattle.smoothing.proofs.smooth_in_rooms.Goals as goal

pub whole_as_front-smooth_in : goal.whole_as_front-smooth_in
whole_as_front-smooth_in g c = (c.requires.rooms.0, omega (arith, c.requires.few.0))

pub whole_as_front-smooth_in-2 : goal.whole_as_front-smooth_in-2
whole_as_front-smooth_in-2 g c = (omega (arith, c.requires.rooms.1), omega (arith, c.requires.few.1))
