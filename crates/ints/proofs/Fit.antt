-- What fits a signed 64-bit number, by its absolute value.
-- Example: `fits z h : SFits w64 z`, with h : nat_abs z < 2 ^ 63; the machine's bits of such a z read back as z (`reads_back`).
use mathlib.Core.Path.{◌≡◌, ◌∙◌}
use Prim.Native.Nat.{ℕ, ◌≤◌, ◌<◌, ◌^◌}
use native.Mathlib.Omega.{arith}
use lib.IntN.{ℤ, pos, negsuc, neg_ℤ, nat_abs, ◌-ℤ◌, +ℤ_idl}
use lib.Signed.{mag}
use mir.Syntax.{w64}
use mir.Val.{SFits, to_z, of_z}
use mir.Facts.{to_z-of_z}
use mir.ValLaws.{to_z_pos}
use Rattle.ints.proofs.Abs.{abs_minus}

-- ---- from an absolute value, and back

mag_le : (z : ℤ) → mag z ≤ nat_abs z
mag_le (pos n) = omega arith
mag_le (negsuc n) = omega arith

pub fits : (z : ℤ) → nat_abs z < 2 ^ 63 → SFits w64 z
fits z h = record { sfits = omega (arith, mag_le z) }

pub reads_back : (z : ℤ) (b : ℕ) → b < 2 ^ 63 → nat_abs z ≤ b → to_z w64 (of_z w64 z) ≡ z
reads_back z b k h = to_z-of_z (fits z (omega arith))

-- ---- a natural number, and its negative as the machine makes it

module _ (n : ℕ) (h : n < 2 ^ 63) where
  pub reads_natural : to_z w64 n ≡ pos n
  reads_natural = to_z_pos w64 n h

  pub minus_fits : SFits w64 (pos 0 -ℤ pos n)
  minus_fits = fits (pos 0 -ℤ pos n) (omega (arith, abs_minus (pos 0) (pos n)))

  pub reads_minus : to_z w64 (of_z w64 (pos 0 -ℤ pos n)) ≡ neg_ℤ (pos n)
  reads_minus = to_z-of_z minus_fits ∙ +ℤ_idl (neg_ℤ (pos n))
