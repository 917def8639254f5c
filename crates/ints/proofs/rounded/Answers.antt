-- `rounded` is right because the shift by 63 takes 1 off a negative x and nothing off any other, and the last shift rounds down (`rounded_by_floor`).
use mathlib.Core.Path.{◌≡◌, refl, sym, ◌∙◌, ap, subst}
use mathlib.Core.List.{[], ◌∷◌}
use Prim.Native.Nat.{ℕ, ◌*◌, ◌/◌, ◌^◌, ◌≤◌, ◌<◌}
use native.Mathlib.Nat.{div-eq_of_lt}
use native.Mathlib.Omega.{arith}
use lib.IntN.{ℤ, pos, negsuc, neg_ℤ, nat_abs, ◌+ℤ◌, ◌-ℤ◌}
use lib.Pow.{pow_pos, pow_mono}
use lib.Signed.{shr_z}
use mir.Facts.{to_z-of_z}
use mir.Syntax.{w64}
use mir.Val.{SFits, to_z, of_z}
use Rattle.ints.specs.Quotient.{Halved, rounded}
use Rattle.ints.proofs.Abs.{abs_plus}
use Rattle.ints.proofs.Fit.{fits}
use Rattle.ints.proofs.Powers.{two_pow_pred}
use Rattle.ints.proofs.Ring.{ring, quotes}
use Rattle.ints.proofs.Rounding.{below_zero, rounded_by_floor, rounded-size}
use Rattle.ints.proofs.rounded.Goals as goal

-- ---- the sign of a number that fits, as the shift leaves it

abbrev sign : ℤ → ℤ
sign x = shr_z x 9223372036854775808

sign-is : (x : ℤ) → nat_abs x ≤ 2 ^ 62 → sign x ≡ neg_ℤ (below_zero x)
sign-is (pos n) h = ap pos (div-eq_of_lt (omega arith))
sign-is (negsuc n) h = ap negsuc (div-eq_of_lt (omega arith))

sign-size : (x : ℤ) → nat_abs x ≤ 2 ^ 62 → nat_abs (sign x) ≤ 1
sign-size x h = rw (sign-is x h) (small x)
  where
    small : (x : ℤ) → nat_abs (neg_ℤ (below_zero x)) ≤ 1
    small (pos n) = omega arith
    small (negsuc n) = omega arith

-- ---- the steps

module _ (s : ℕ) (half x : ℤ) (S : Halved s half) (small : nat_abs x ≤ 2 ^ 62) where
  half-size : nat_abs half ≤ 2 ^ 61
  half-size = rw S.is (omega (arith, pow_mono {i = s} {j = 62} S.most))

  first_fits : SFits w64 (x +ℤ half)
  first_fits = fits (x +ℤ half) (omega (arith, abs_plus x half, half-size))

  sign_fits : SFits w64 (sign x)
  sign_fits = fits (sign x) (omega (arith, sign-size x small))

  second_fits : SFits w64 (x +ℤ half +ℤ sign x)
  second_fits = fits (x +ℤ half +ℤ sign x) (omega (arith, abs_plus (x +ℤ half) (sign x), abs_plus x half, half-size, sign-size x small))

  two_halves : 2 ^ s ≡ 2 * (2 ^ s / 2)
  two_halves = omega (arith, two_pow_pred s (omega (arith, S.least)))

  some : 0 < 2 ^ s / 2
  some = omega (arith, two_halves, pow_pos s)

  taken : x +ℤ half +ℤ sign x ≡ x +ℤ pos (2 ^ s / 2) -ℤ below_zero x
  taken = rw (sign-is x small, S.is) (out (below_zero x) (pos (2 ^ s / 2)))
    where
      out : (b h : ℤ) → x +ℤ h +ℤ neg_ℤ b ≡ x +ℤ h -ℤ b
      out b h = ring (x ∷ h ∷ b ∷ []) (search quotes) tt

  right : shr_z (x +ℤ half +ℤ sign x) (2 ^ s) ≡ rounded (2 ^ s) x
  right = ap (λ (y : ℤ). shr_z y (2 ^ s)) taken
      ∙ subst (λ (d : ℕ). shr_z (x +ℤ pos (2 ^ s / 2) -ℤ below_zero x) d ≡ rounded d x) (sym two_halves) (rounded_by_floor (2 ^ s / 2) some x)

  size : nat_abs (rounded (2 ^ s) x) < 2 ^ 63
  size = omega (arith, rounded-size (2 ^ s) (pow_pos s) x)

  -- the same as the machine has it, where a and c are read for x, and b for half
  module _ (a b c : ℤ) (ea : a ≡ x) (eb : b ≡ half) (ec : c ≡ x) where
    pub sum_fits : SFits w64 (a +ℤ b)
    sum_fits = rw (ea, eb) first_fits

    pub raised-fits : SFits w64 (to_z w64 (of_z w64 (a +ℤ b)) +ℤ to_z w64 (of_z w64 (sign c)))
    raised-fits = rw (ea, eb, ec, to_z-of_z first_fits, to_z-of_z sign_fits) second_fits

    pub result : to_z w64 (of_z w64 (shr_z (to_z w64 (of_z w64 (to_z w64 (of_z w64 (a +ℤ b)) +ℤ to_z w64 (of_z w64 (sign c))))) (2 ^ s))) ≡ rounded (2 ^ s) x
    result = rw (ea, eb, ec, to_z-of_z first_fits, to_z-of_z sign_fits, to_z-of_z second_fits, right) (to_z-of_z (fits (rounded (2 ^ s) x) size))

pub overflow_add-result : goal.overflow_add-result
overflow_add-result c = let a = c.args in let f = c.ranges in sum_fits a.digits a.half a.x c.requires.0 c.requires.1 _ _ a.x (to_z-of_z f.x) (to_z-of_z f.half) refl

pub overflow_add-result-2 : goal.overflow_add-result-2
overflow_add-result-2 c = let a = c.args in let f = c.ranges in raised-fits a.digits a.half a.x c.requires.0 c.requires.1 _ _ _ (to_z-of_z f.x) (to_z-of_z f.half) (to_z-of_z f.x)

pub returns : goal.returns
returns c = let a = c.args in let f = c.ranges in result a.digits a.half a.x c.requires.0 c.requires.1 _ _ _ (to_z-of_z f.x) (to_z-of_z f.half) (to_z-of_z f.x)
