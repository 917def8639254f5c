-- Where M is 0 every line is 0 (document 02, Item 6), which the bound does not tell: such a block is its own negative, so its spectrum is its own negative.
-- Example: `forward_silent 10 xs none v : cell (forward 10 xs) v ≡ pos 0`, with none : largest_magnitude xs ≡ 0.
use mathlib.Core.Path.{◌≡◌, refl, sym, ◌∙◌, ap, ap₂}
use mathlib.Core.List.{List, [], ◌∷◌}
use Prim.Native.Nat.{ℕ, zero, suc, ◌≤◌}
use native.Mathlib.Omega.{arith}
use lib.IntN.{ℤ, pos, negsuc, neg_ℤ, nat_abs}
use Rattle.ints.specs.Cells.{cell, negated}
use Rattle.ints.proofs.Abs.{abs_zero}
use Rattle.ints.proofs.Negation.{cell-negated}
use Rattle.ints.proofs.Order.{positive_part}
use Rattle.kind.specs.BlockKinds.{SCALE_DIGITS}
use Rattle.spectrum.specs.Distance.{largest_magnitude}
use Rattle.spectrum.specs.Spectrum.{forward_at, forward}
use Rattle.spectrum.proofs.LargestMagnitude.{within-largest}
use Rattle.spectrum.proofs.Negative.{forward-negated_at}

-- 0 alone is its own negative
own_negative : (x : ℤ) → x ≡ neg_ℤ x → x ≡ pos 0
own_negative (pos zero) e = refl
own_negative (pos (suc n)) e = absurd (omega (arith, ap positive_part e))
own_negative (negsuc n) e = absurd (omega (arith, ap positive_part e))

silent_negated : (xs : List ℤ) → ((i : ℕ) → nat_abs (cell xs i) ≤ 0) → negated xs ≡ xs
silent_negated [] h = refl
silent_negated (x ∷ xs) h = ap₂ ◌∷◌ (ap neg_ℤ (abs_zero x (h 0)) ∙ sym (abs_zero x (h 0))) (silent_negated xs (λ i. h (suc i)))

module _ (s P : ℕ) (xs : List ℤ) (none : largest_magnitude xs ≡ 0) where
  pub forward_silent_at : (v : ℕ) → cell (forward_at s P xs) v ≡ pos 0
  forward_silent_at v = own_negative (cell (forward_at s P xs) v) (ap (λ (ys : List ℤ). cell ys v) same ∙ cell-negated (forward_at s P xs) v)
    where
      same : forward_at s P xs ≡ negated (forward_at s P xs)
      same = ap (forward_at s P) (sym (silent_negated xs (λ i. omega (arith, within-largest xs i)))) ∙ forward-negated_at s P xs

pub forward_silent : (P : ℕ) (xs : List ℤ) → largest_magnitude xs ≡ 0 → (v : ℕ) → cell (forward P xs) v ≡ pos 0
unfolding forward
forward_silent = forward_silent_at SCALE_DIGITS
