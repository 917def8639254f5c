-- A line divided by 2^k as the program does it, folded and then times 2^(31 − k): the product has room, and the residue of the quotient.
use mathlib.Core.Path.{◌≡◌, ap}
use Prim.Native.Nat.{ℕ, ◌+◌, ◌*◌, ◌-◌, ◌^◌, ◌≤◌}
use native.Mathlib.Nat.{mul-le-mul}
use native.Mathlib.Omega.{arith}
use lib.IntN.{ℤ, pos, nat_abs, ◌*ℤ◌}
use mir.Syntax.{w64}
use mir.Val.{SFits}
use Rattle.ints.proofs.Abs.{abs_times}
use Rattle.ints.proofs.Fit.{fits}
use Rattle.residues.specs.Residue.{centred, residue}
use Rattle.residues.specs.Folded.{folded}
use Rattle.residues.proofs.Congruent.{≈-right}
use Rattle.residues.proofs.Residues.{same-residue}
use Rattle.residues.proofs.Folding.{folded_≈, folded-small}
use Rattle.exact.specs.Smoothing.{divided}
use Rattle.smoothing.specs.Inner.{LineRoom}

folded-line : (z : ℤ) → LineRoom z → nat_abs (folded z) ≤ 2 ^ 31 + 2 ^ 14
folded-line z room = folded-small (2 ^ 14) z (omega arith)

-- times anything up to 2^30 in magnitude
pub product_small : (z k : ℤ) → LineRoom z → nat_abs k ≤ 2 ^ 30 → nat_abs (folded z *ℤ k) ≤ (2 ^ 31 + 2 ^ 14) * 2 ^ 30
product_small z k room few = omega (arith, abs_times (folded z) k, mul-le-mul (folded-line z room) few)

pub product_fits : (z k : ℤ) → LineRoom z → nat_abs k ≤ 2 ^ 30 → SFits w64 (folded z *ℤ k)
product_fits z k room few = fits (folded z *ℤ k) (omega (arith, product_small z k room few))

pub quotient-centred : (k : ℕ) (z : ℤ) → centred (residue (folded z *ℤ pos (2 ^ (31 - k)))) ≡ centred (residue (divided k z))
quotient-centred k z = ap centred (same-residue (≈-right (folded_≈ z) _))
