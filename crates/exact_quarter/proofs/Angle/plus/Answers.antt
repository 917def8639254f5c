-- `plus` is right because the products of four numbers within ±2^30, their difference and their sum fit.
use mathlib.Core.Path.{◌∙◌, ap}
use lib.IntN.{ℤ}
use Rattle.residues.specs.Residue.{centred, residue}
use Rattle.exact_quarter.proofs.Products.{product_fits, difference_fits, total_fits, difference_back, total_back, centred_back, centred_small}
use Rattle.exact_quarter.proofs.Angle.plus.Goals as goal

pub overflow_mul-self : goal.overflow_mul-self
overflow_mul-self c = product_fits c.args.self.cosine c.args.other.cosine c.args.self.small.0 c.args.other.small.0

pub overflow_mul-self-2 : goal.overflow_mul-self-2
overflow_mul-self-2 c = product_fits c.args.self.sine c.args.other.sine c.args.self.small.1 c.args.other.small.1

pub overflow_sub-self : goal.overflow_sub-self
overflow_sub-self c = difference_fits c.args.self c.args.other

pub overflow_mul-self-3 : goal.overflow_mul-self-3
overflow_mul-self-3 c = product_fits c.args.self.cosine c.args.other.sine c.args.self.small.0 c.args.other.small.1

pub overflow_mul-self-4 : goal.overflow_mul-self-4
overflow_mul-self-4 c = product_fits c.args.self.sine c.args.other.cosine c.args.self.small.1 c.args.other.small.0

pub overflow_add-self : goal.overflow_add-self
overflow_add-self c = total_fits c.args.self c.args.other

pub invariant_of-result : goal.invariant_of-result
invariant_of-result c = record { small = (centred_small c.centred.result _ c.centred.ensures, centred_small c.centred-2.result _ c.centred-2.ensures) }

pub returns-clause-cosine : goal.returns-clause-cosine
returns-clause-cosine c = centred_back _ _ c.centred.ensures ∙ ap (λ (z : ℤ). centred (residue z)) (difference_back c.args.self c.args.other)

pub returns-clause-sine : goal.returns-clause-sine
returns-clause-sine c = centred_back _ _ c.centred-2.ensures ∙ ap (λ (z : ℤ). centred (residue z)) (total_back c.args.self c.args.other)
