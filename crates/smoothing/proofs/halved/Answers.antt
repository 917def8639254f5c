-- `halved` is right because a folded line has room for the factor 2^30 and keeps its residue.
use borrow.Author.Rules.{sfits_of}
use mathlib.Core.Path.{◌≡◌, ◌∙◌}
use native.Mathlib.Omega.{arith}
use lib.IntN.{pos, ◌*ℤ◌}
use Prim.Native.Nat.{◌^◌}
use mir.Facts.{to_z-of_z}
use mir.Syntax.{w64}
use mir.Val.{SFits, to_z, of_z}
use Rattle.residues.specs.Folded.{folded}
use Rattle.smoothing.proofs.Dividing.{product_fits, quotient-centred}
use Rattle.smoothing.proofs.halved.Goals as goal

pub overflow_mul-folded : goal.overflow_mul-folded
overflow_mul-folded c =
    let told : to_z w64 (of_z w64 c.folded.result) ≡ folded c.args.z = to_z-of_z {w = w64} (sfits_of c.folded.type_inv) ∙ (rw (to_z-of_z c.ranges.z) at c.folded.ensures) in
    let product : SFits w64 (folded c.args.z *ℤ pos (2 ^ 30)) = product_fits c.args.z (pos (2 ^ 30)) c.requires (omega arith) in
    rw told product

pub returns : goal.returns
returns c =
    let told : to_z w64 (of_z w64 c.folded.result) ≡ folded c.args.z = to_z-of_z {w = w64} (sfits_of c.folded.type_inv) ∙ (rw (to_z-of_z c.ranges.z) at c.folded.ensures) in
    let product : SFits w64 (folded c.args.z *ℤ pos (2 ^ 30)) = product_fits c.args.z (pos (2 ^ 30)) c.requires (omega arith) in
    to_z-of_z {w = w64} (sfits_of c.centred.type_inv) ∙ (rw (told, to_z-of_z product) at c.centred.ensures)
    ∙ quotient-centred 1 c.args.z
