-- `restored` is right because a folded line has room for the factor 2^(31 − p), which is at most 2^30, and keeps its residue.
use borrow.Author.Rules.{sfits_of}
use mathlib.Core.Path.{◌≡◌, ◌∙◌, ap}
use Prim.Native.Nat.{ℕ, ◌*◌, ◌-◌, ◌%◌, ◌^◌, ◌≤◌}
use native.Mathlib.Omega.{arith}
use lib.IntN.{pos, ◌*ℤ◌}
use lib.Pow.{pow_mono}
use mir.Facts.{to_z-of_z, to_z_pos}
use mir.Syntax.{w64}
use mir.Val.{SFits, to_z, of_z}
use Rattle.residues.specs.Folded.{folded}
use Rattle.exact.specs.Smoothing.{restored}
use Rattle.smoothing.proofs.Dividing.{product_fits, quotient-centred}
use Rattle.smoothing.proofs.restored.Goals as goal

few : (p : ℕ) → 1 ≤ p → 2 ^ (31 - p) ≤ 2 ^ 30
few p h = pow_mono {i = 31 - p} {j = 30} (omega arith)

shifted : (p : ℕ) → 1 ≤ p → to_z w64 (1 * 2 ^ (31 - p) % 2 ^ 64) ≡ pos (2 ^ (31 - p))
shifted p h = to_z_pos w64 {n = 1 * 2 ^ (31 - p) % 2 ^ 64} (omega (arith, few p h)) ∙ ap pos whole
  where
    whole : 1 * 2 ^ (31 - p) % 2 ^ 64 ≡ 2 ^ (31 - p)
    whole = omega (arith, few p h)

pub overflow_mul-folded : goal.overflow_mul-folded
overflow_mul-folded c =
    let told : to_z w64 (of_z w64 c.folded.result) ≡ folded c.args.z = to_z-of_z {w = w64} (sfits_of c.folded.type_inv) ∙ (rw (to_z-of_z c.ranges.z) at c.folded.ensures) in
    let product : SFits w64 (folded c.args.z *ℤ pos (2 ^ (31 - c.args.p))) = product_fits c.args.z (pos (2 ^ (31 - c.args.p))) c.requires.2 (few c.args.p c.requires.0) in
    rw (told, shifted c.args.p c.requires.0) product

pub returns : goal.returns
unfolding restored
returns c =
    let told : to_z w64 (of_z w64 c.folded.result) ≡ folded c.args.z = to_z-of_z {w = w64} (sfits_of c.folded.type_inv) ∙ (rw (to_z-of_z c.ranges.z) at c.folded.ensures) in
    let product : SFits w64 (folded c.args.z *ℤ pos (2 ^ (31 - c.args.p))) = product_fits c.args.z (pos (2 ^ (31 - c.args.p))) c.requires.2 (few c.args.p c.requires.0) in
    to_z-of_z {w = w64} (sfits_of c.centred.type_inv)
    ∙ (rw (told, shifted c.args.p c.requires.0, to_z-of_z product) at c.centred.ensures)
    ∙ quotient-centred c.args.p c.args.z
