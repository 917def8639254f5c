-- `power_of` is right because no square of a line is above 2^56 and no sum of two above 2^57: nothing overflows, and the machine's result is the exact one.
use borrow.Author.Rules.{rules}
use mathlib.Core.Path.{◌∙◌}
use mathlib.Core.List.{[], ◌∷◌}
use mir.Facts.{to_z-of_z}
use Rattle.ints.proofs.Ring.{ring, quotes}
use Rattle.fourier.proofs.Sizes.{line_fits, product_fits, squares_fit}
use Rattle.fourier.proofs.Powers.{squares_are}
use Rattle.fourier.proofs.power_of.Goals as goal

pub overflow_mul-result : goal.overflow_mul-result
overflow_mul-result c = search (rules, product_fits)

pub overflow_mul-result-2 : goal.overflow_mul-result-2
overflow_mul-result-2 c = search (rules, product_fits)

pub overflow_add-result : goal.overflow_add-result
overflow_add-result c = search (rules, product_fits, squares_fit)

pub returns : goal.returns
returns c = let h = c.args.h in let m = c.args.m in let sh = c.requires.0 in let sm = c.requires.1 in
    simp (to_z-of_z, line_fits, product_fits, squares_fit, sh, sm) (ring (h ∷ m ∷ []) (search quotes) tt ∙ squares_are h m)
