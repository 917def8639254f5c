-- The two lines that are made of lines x and y of one spectrum and a and b of another, line and opposite: what they stand for, and how large they get on the way.
use mathlib.Core.List.{List, [], ◌∷◌}
use Prim.Native.Nat.{ℕ, ◌+◌, ◌*◌, ◌^◌, ◌≤◌}
use native.Mathlib.Omega.{arith}
use lib.IntN.{ℤ, nat_abs, ◌+ℤ◌, ◌-ℤ◌, ◌*ℤ◌}
use mir.Syntax.{w64}
use mir.Val.{SFits}
use Rattle.ints.specs.Cells.{cell}
use Rattle.ints.proofs.Abs.{abs_plus, abs_minus}
use Rattle.ints.proofs.Fit.{fits}
use Rattle.ints.proofs.Ring.{ring, quotes}
use Rattle.residues.specs.Residue.{centred, residue}
use Rattle.residues.specs.Folded.{folded}
use Rattle.residues.proofs.Congruent.{◌≈◌, ◌⊙◌, ≈-is, ≈-plus, ≈-minus, ≈-times}
use Rattle.residues.proofs.Residues.{centred_≈, centred-small, residue_≈, residue-lt}
use Rattle.residues.proofs.Folding.{folded_≈, folded-small}
use Rattle.exact.specs.Smoothing.{divided}
use Rattle.exact_pair.specs.Pair.{FIRST}
use Rattle.smoothing.specs.Inner.{LineRoom, Lines, even_of, odd_of}
use Rattle.smoothing.proofs.Dividing.{product_small}

-- ---- the centred number with the residue of z

centred_near : (z : ℤ) → centred (residue z) ≈ z
centred_near z = centred_≈ (residue z) ⊙ residue_≈ z

centred-within : (z : ℤ) → nat_abs (centred (residue z)) ≤ 2 ^ 30
centred-within z = omega (arith, centred-small (residue z) (residue-lt z))

-- ---- the two products of folded lines with the even and the odd part, added and subtracted

pub record Factors (x y even odd : ℤ) : Type 0 where
  pub first : LineRoom x
  pub second : LineRoom y
  pub even-small : nat_abs even ≤ 2 ^ 30
  pub odd_small : nat_abs odd ≤ 2 ^ 30

module _ {x y even odd : ℤ} (F : Factors x y even odd) where
  first_small : nat_abs (folded x *ℤ even) ≤ (2 ^ 31 + 2 ^ 14) * 2 ^ 30
  first_small = product_small x even F.first F.even-small

  second-small : nat_abs (folded y *ℤ odd) ≤ (2 ^ 31 + 2 ^ 14) * 2 ^ 30
  second-small = product_small y odd F.second F.odd_small

  sum-small : nat_abs (folded x *ℤ even +ℤ folded y *ℤ odd) ≤ (2 ^ 31 + 2 ^ 14) * 2 ^ 31
  sum-small = omega (arith, abs_plus (folded x *ℤ even) (folded y *ℤ odd), first_small, second-small)

  difference_small : nat_abs (folded x *ℤ even -ℤ folded y *ℤ odd) ≤ (2 ^ 31 + 2 ^ 14) * 2 ^ 31
  difference_small = omega (arith, abs_minus (folded x *ℤ even) (folded y *ℤ odd), first_small, second-small)

  pub sum_fits : SFits w64 (folded x *ℤ even +ℤ folded y *ℤ odd)
  sum_fits = fits (folded x *ℤ even +ℤ folded y *ℤ odd) (omega (arith, sum-small))

  pub difference_fits : SFits w64 (folded x *ℤ even -ℤ folded y *ℤ odd)
  difference_fits = fits (folded x *ℤ even -ℤ folded y *ℤ odd) (omega (arith, difference_small))

  pub folded-sum : nat_abs (folded (folded x *ℤ even +ℤ folded y *ℤ odd)) ≤ FIRST
  folded-sum = omega (arith, folded-small (2 ^ 31 + 2 ^ 14) (folded x *ℤ even +ℤ folded y *ℤ odd) sum-small)

  pub folded_difference : nat_abs (folded (folded x *ℤ even -ℤ folded y *ℤ odd)) ≤ FIRST
  folded_difference = omega (arith, folded-small (2 ^ 31 + 2 ^ 14) (folded x *ℤ even -ℤ folded y *ℤ odd) difference_small)

-- of two lines that can be combined, for the line and for the opposite one
module _ {v o : ℕ} {hs ks : List ℤ} (L : Lines v o hs ks) where
  pub line_factors : Factors (cell hs v) (cell hs o) (even_of v o ks) (odd_of v o ks)
  line_factors = record { first = L.first; second = L.first-opposite; even-small = centred-within _; odd_small = centred-within _ }

  pub opposite_factors : Factors (cell hs o) (cell hs v) (even_of v o ks) (odd_of v o ks)
  opposite_factors = record { first = L.first-opposite; second = L.first; even-small = centred-within _; odd_small = centred-within _ }

-- ---- what they stand for

-- line x with its opposite y, combined with line a and its opposite b
abbrev pub combination : ℤ → ℤ → ℤ → ℤ → ℤ
combination x y a b = x *ℤ divided 1 (a +ℤ b) +ℤ y *ℤ divided 1 (a -ℤ b)

module _ (x y a b : ℤ) where
  abbrev even : ℤ
  even = centred (residue (divided 1 (a +ℤ b)))

  abbrev odd : ℤ
  odd = centred (residue (divided 1 (a -ℤ b)))

  even_≈ : (z : ℤ) → folded z *ℤ even ≈ z *ℤ divided 1 (a +ℤ b)
  even_≈ z = ≈-times (folded_≈ z) (centred_near (divided 1 (a +ℤ b)))

  odd_≈ : (z : ℤ) → folded z *ℤ odd ≈ z *ℤ divided 1 (a -ℤ b)
  odd_≈ z = ≈-times (folded_≈ z) (centred_near (divided 1 (a -ℤ b)))

  pub line_≈ : folded (folded x *ℤ even +ℤ folded y *ℤ odd) ≈ combination x y a b
  line_≈ = folded_≈ (folded x *ℤ even +ℤ folded y *ℤ odd) ⊙ ≈-plus (even_≈ x) (odd_≈ y)

  -- at the opposite line all change places, and so the odd part has the other sign
  pub opposite_≈ : folded (folded y *ℤ even -ℤ folded x *ℤ odd) ≈ combination y x b a
  opposite_≈ = folded_≈ (folded y *ℤ even -ℤ folded x *ℤ odd) ⊙ ≈-minus (even_≈ y) (odd_≈ x) ⊙ ≈-is (ring (x ∷ y ∷ a ∷ b ∷ []) (search quotes depth 40) tt)
