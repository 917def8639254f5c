-- `quotient` is right because both casts and the division lose nothing (proofs/Exact).
use native.Mathlib.Nat.{le_of_lt}
use lib.IntN.{pos}
use mir.Facts.{to_z-of_z}
use Rattle.fourier.proofs.Exact.{division_is, exactly, in_float_lem, power_small}
use Rattle.fourier.proofs.quotient.Goals as goal

pub int_to_float-result : goal.int_to_float-result
int_to_float-result c = rw (to_z-of_z c.ranges.h) (in_float_lem c.args.h (le_of_lt c.requires.0))

pub int_to_float-result-2 : goal.int_to_float-result-2
int_to_float-result-2 c = in_float_lem (pos c.args.n) (power_small 53 c.args.n c.requires.1)

pub returns : goal.returns
returns c = let e = division_is c.args.h c.args.n c.requires.0 c.requires.1 in
    rw (to_z-of_z c.ranges.h) (e, rw e (exactly c.args.h c.args.n c.requires.0 c.requires.1))
