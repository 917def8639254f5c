-- `formula` is right because no sum and no difference of two lines is above 2^29: nothing overflows, and the machine's result is the exact one.
use borrow.Author.Rules.{rules}
use mathlib.Core.List.{[], ◌∷◌}
use mir.Facts.{to_z-of_z}
use Rattle.ints.proofs.Ring.{ring, quotes}
use Rattle.fourier.proofs.Sizes.{line_fits, sum_fits, difference_fits}
use Rattle.fourier.proofs.formula.Goals as goal

pub overflow_add-result : goal.overflow_add-result
overflow_add-result c = search (rules, sum_fits)

pub overflow_sub-result : goal.overflow_sub-result
overflow_sub-result c = search (rules, difference_fits)

pub returns-in-Real : goal.returns-in-Real
returns-in-Real c = let sh = c.requires.0 in let sm = c.requires.1 in
    simp (to_z-of_z, line_fits, sum_fits, sh, sm, c.in-Real.is) (ring (c.args.h ∷ c.args.m ∷ []) (search quotes) tt)

pub returns-in-Imaginary : goal.returns-in-Imaginary
returns-in-Imaginary c = let sh = c.requires.0 in let sm = c.requires.1 in
    simp (to_z-of_z, line_fits, difference_fits, sh, sm, c.in-Imaginary.is) (ring (c.args.h ∷ c.args.m ∷ []) (search quotes) tt)
