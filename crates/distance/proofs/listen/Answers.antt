-- `listen` is right because no cell before the one that it has come to is loud, and the largest magnitude of those is kept.
use mathlib.Core.Path.{refl, ◌∙◌, ap}
use Prim.Native.Nat.{max}
use borrow.Author.Rules.{sfits_of}
use mir.Facts.{to_z-of_z}
use mir.Syntax.{w64}
use native.Mathlib.Omega.{arith}
use Rattle.distance.proofs.Listening.{going_all, going_loud, going_on}
use Rattle.distance.proofs.listen.Goals as goal

pub returns-then-loud : goal.returns-then-loud
returns-then-loud g c = let p = c.cell-x in
    going_loud c.loop-i.invariant (omega arith) c.loud.ensures (to_z-of_z {w = w64} (sfits_of p.type_inv) ∙ p.ensures) c.if-loud.true

pub loop-i-preserved : goal.loop-i-preserved
loop-i-preserved g c = let p = c.cell-x in
    going_on c.loop-i.invariant (omega arith) c.loud.ensures (to_z-of_z {w = w64} (sfits_of p.type_inv) ∙ p.ensures) c.if-loud.false (c.max-largest.ensures ∙ ap (max c.loop-i.largest) c.magnitude.ensures) refl

pub returns : goal.returns
returns g c = going_all c.loop-i.invariant (omega arith)
