-- `first_loud_of` is right because it looks at the cells in turn, and none before cell i is loud.
use borrow.Author.Rules.{sfits_of}
use mathlib.Core.Path.{refl, ◌∙◌}
use native.Mathlib.Omega.{arith}
use mir.Facts.{to_z-of_z}
use mir.Syntax.{w64}
use Rattle.block.proofs.Place.{place_at, place_none}
use Rattle.block.proofs.Looking.{looked_none, looked-loud, looked-quiet, looked_all}
use Rattle.block.proofs.first_loud_of.Goals as goal

pub loop-i-init : goal.loop-i-init
loop-i-init g c = looked_none refl

pub returns-then-loud : goal.returns-then-loud
returns-then-loud g c = place_at (omega arith) (rw (to_z-of_z c.ranges.low, to_z-of_z c.ranges.high) at
    (looked-loud c.loop-i.invariant (omega arith) c.loud.ensures (to_z-of_z {w = w64} (sfits_of c.cell.type_inv) ∙ c.cell.ensures) c.if-loud.true))

pub loop-i-preserved : goal.loop-i-preserved
loop-i-preserved g c = looked-quiet c.loop-i.invariant (omega arith) c.loud.ensures (to_z-of_z {w = w64} (sfits_of c.cell.type_inv) ∙ c.cell.ensures) c.if-loud.false refl

pub returns : goal.returns
returns g c = place_none (omega (arith, rw (to_z-of_z c.ranges.low, to_z-of_z c.ranges.high) at (looked_all c.loop-i.invariant (omega arith))))
