-- Two angles added, as the machine does it: the products of their cosines and sines, all within ±2^30, fit 64 bits, and so do their difference and their sum.
use mathlib.Core.Path.{◌≡◌}
use Prim.Native.Nat.{◌^◌, ◌≤◌}
use native.Mathlib.Nat.{le_of_lt, mul-le-mul}
use native.Mathlib.Omega.{arith}
use lib.IntN.{ℤ, nat_abs, ◌+ℤ◌, ◌-ℤ◌, ◌*ℤ◌}
use mir.Syntax.{w64}
use mir.Val.{SFits, to_z, of_z}
use Rattle.ints.proofs.Abs.{abs_plus, abs_minus, abs_times}
use Rattle.ints.proofs.Fit.{fits, reads_back}
use Rattle.residues.specs.Residue.{centred, residue}
use Rattle.exact_quarter.specs.declared.Angle.{Angle}
use Rattle.residues.proofs.Residues.{centred-small, residue-lt}

product_small : (x y : ℤ) → nat_abs x ≤ 2 ^ 30 → nat_abs y ≤ 2 ^ 30 → nat_abs (x *ℤ y) ≤ 2 ^ 60
product_small x y h k = rw (abs_times x y) (mul-le-mul h k)

-- as the machine reads a number
abbrev pub read : ℤ → ℤ
read x = to_z w64 (of_z w64 x)

pub small_back : (x : ℤ) → nat_abs x ≤ 2 ^ 30 → read x ≡ x
small_back x h = reads_back x (2 ^ 30) (omega arith) h

pub product_fits : (x y : ℤ) → nat_abs x ≤ 2 ^ 30 → nat_abs y ≤ 2 ^ 30 → SFits w64 (read x *ℤ read y)
product_fits x y h k = rw (small_back x h, small_back y k) (fits (x *ℤ y) (omega (arith, product_small x y h k)))

product_back : (x y : ℤ) → nat_abs x ≤ 2 ^ 30 → nat_abs y ≤ 2 ^ 30 → read (read x *ℤ read y) ≡ x *ℤ y
product_back x y h k = rw (small_back x h, small_back y k) (reads_back (x *ℤ y) (2 ^ 60) (omega arith) (product_small x y h k))

module _ (a o : Angle) where
  abbrev pub difference : ℤ
  difference = a.cosine *ℤ o.cosine -ℤ a.sine *ℤ o.sine

  abbrev pub total : ℤ
  total = a.cosine *ℤ o.sine +ℤ a.sine *ℤ o.cosine

  difference-small : nat_abs difference ≤ 2 ^ 61
  difference-small = omega (arith, abs_minus (a.cosine *ℤ o.cosine) (a.sine *ℤ o.sine), product_small a.cosine o.cosine a.small.0 o.small.0, product_small a.sine o.sine a.small.1 o.small.1)

  total-small : nat_abs total ≤ 2 ^ 61
  total-small = omega (arith, abs_plus (a.cosine *ℤ o.sine) (a.sine *ℤ o.cosine), product_small a.cosine o.sine a.small.0 o.small.1, product_small a.sine o.cosine a.small.1 o.small.0)

  pub difference_fits : SFits w64 (read (read a.cosine *ℤ read o.cosine) -ℤ read (read a.sine *ℤ read o.sine))
  difference_fits = rw (product_back a.cosine o.cosine a.small.0 o.small.0, product_back a.sine o.sine a.small.1 o.small.1) (fits difference (omega (arith, difference-small)))

  pub total_fits : SFits w64 (read (read a.cosine *ℤ read o.sine) +ℤ read (read a.sine *ℤ read o.cosine))
  total_fits = rw (product_back a.cosine o.sine a.small.0 o.small.1, product_back a.sine o.cosine a.small.1 o.small.0) (fits total (omega (arith, total-small)))

  pub difference_back : read (read (read a.cosine *ℤ read o.cosine) -ℤ read (read a.sine *ℤ read o.sine)) ≡ difference
  difference_back = rw (product_back a.cosine o.cosine a.small.0 o.small.0, product_back a.sine o.sine a.small.1 o.small.1) (reads_back difference (2 ^ 61) (omega arith) difference-small)

  pub total_back : read (read (read a.cosine *ℤ read o.sine) +ℤ read (read a.sine *ℤ read o.cosine)) ≡ total
  total_back = rw (product_back a.cosine o.sine a.small.0 o.small.1, product_back a.sine o.cosine a.small.1 o.small.0) (reads_back total (2 ^ 61) (omega arith) total-small)

-- a centred residue, and what the machine reads of it
pub centred_back : (z x : ℤ) → z ≡ centred (residue x) → read z ≡ centred (residue x)
centred_back z x e = rw e (small_back _ (le_of_lt (centred-small (residue x) (residue-lt x))))

pub centred_small : (z x : ℤ) → z ≡ centred (residue x) → nat_abs (read z) ≤ 2 ^ 30
centred_small z x e = rw (centred_back z x e) (le_of_lt (centred-small (residue x) (residue-lt x)))
