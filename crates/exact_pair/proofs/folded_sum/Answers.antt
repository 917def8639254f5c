-- `folded_sum` is right because folded cells, cosine and sine leave room for both products and for their sum.
use borrow.Author.Rules.{sfits_of}
use mathlib.Core.Path.{◌∙◌, ap}
use native.Mathlib.Omega.{arith}
use lib.IntN.{ℤ, ◌+ℤ◌, ◌*ℤ◌}
use mir.Facts.{to_z-of_z}
use mir.Syntax.{w64}
use mir.Val.{SFits}
use Rattle.ints.proofs.Fit.{fits}
use Rattle.residues.specs.Folded.{folded}
use Rattle.exact_pair.specs.Pair.{Factors}
use Rattle.exact_pair.proofs.Products.{first-size, second-size, products-size}
use Rattle.exact_pair.proofs.folded_sum.Goals as goal

module _ {b mirrored c d : ℤ} (F : Factors b mirrored c d) where
  first_fits : SFits w64 (b *ℤ c)
  first_fits = fits (b *ℤ c) (omega (arith, first-size F))

  second_fits : SFits w64 (mirrored *ℤ d)
  second_fits = fits (mirrored *ℤ d) (omega (arith, second-size F))

  sum_fits : SFits w64 (b *ℤ c +ℤ mirrored *ℤ d)
  sum_fits = fits (b *ℤ c +ℤ mirrored *ℤ d) (omega (arith, products-size F))

pub overflow_mul-b : goal.overflow_mul-b
overflow_mul-b c = let f = c.ranges in rw (to_z-of_z f.b, to_z-of_z f.cosine) (first_fits c.requires)

pub overflow_mul-mirrored : goal.overflow_mul-mirrored
overflow_mul-mirrored c = let f = c.ranges in rw (to_z-of_z f.mirrored, to_z-of_z f.sine) (second_fits c.requires)

pub overflow_add-b : goal.overflow_add-b
overflow_add-b c = let f = c.ranges in rw (to_z-of_z f.b, to_z-of_z f.cosine, to_z-of_z f.mirrored, to_z-of_z f.sine, to_z-of_z (first_fits c.requires), to_z-of_z (second_fits c.requires)) (sum_fits c.requires)

pub returns : goal.returns
returns c = let f = c.ranges in
    to_z-of_z {w = w64} (sfits_of c.folded.type_inv) ∙ c.folded.ensures
    ∙ ap folded (rw (to_z-of_z f.b, to_z-of_z f.cosine, to_z-of_z f.mirrored, to_z-of_z f.sine, to_z-of_z (first_fits c.requires), to_z-of_z (second_fits c.requires)) (to_z-of_z (sum_fits c.requires)))
