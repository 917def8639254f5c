-- `join_two` is right because line 0 of halves of one cell is their sum and line 1 their difference (`two_joined`).
use mathlib.Core.Path.{◌∙◌}
use native.Mathlib.Omega.{arith}
use Rattle.levels.proofs.Twos.{two_joined}
use Rattle.levels.proofs.join_two.Goals as goal

pub join_plain-requires : goal.join_plain-requires
join_plain-requires c = let p = c.requires in (p.0, omega arith, omega (arith, p.1 0), omega (arith, p.1 1))

pub returns : goal.returns
returns c = λ s least most. c.join_plain.ensures ∙ two_joined s least most c.args.cells.now c.requires.0
