-- A folded number has the residue of the number, and is small: of z within h × 2^31 it lies between −h and 2^31 + h.
use mathlib.Core.Path.{◌≡◌, sym, ◌∙◌, ap, ap₂}
use mathlib.Core.List.{[], ◌∷◌}
use Prim.Native.Nat.{ℕ, suc, ◌+◌, ◌*◌, ◌-◌, ◌/◌, ◌%◌, ◌^◌, ◌≤◌, ◌<◌}
use native.Mathlib.Omega.{arith}
use lib.IntN.{ℤ, pos, negsuc, neg_ℤ, nat_abs, ◌+ℤ◌, ◌-ℤ◌, ◌*ℤ◌}
use lib.Signed.{shr_z}
use mir.Syntax.{w64}
use mir.Val.{SFits}
use Rattle.ints.proofs.Abs.{abs_fact}
use Rattle.ints.proofs.Ring.{ring, quotes}
use Rattle.residues.specs.Residue.{MODULUS}
use Rattle.residues.specs.Folded.{folded}
use Rattle.residues.proofs.Congruent.{M, ◌≈◌}

pub folded_≈ : (z : ℤ) → folded z ≈ z
unfolding folded M
folded_≈ z = record { times = neg_ℤ (shr_z z (2 ^ 31)); apart = ring (z ∷ shr_z z (2 ^ 31) ∷ pos MODULUS ∷ []) (search quotes depth 40) tt }

-- a folded number is k less h, for some k
pub record Range (h : ℕ) (z : ℤ) : Type 0 where
  pub k : ℕ
  pub is : folded z ≡ pos k -ℤ pos h
  pub less : k < 2 ^ 31 + 2 * h

minus : (n : ℕ) → negsuc n ≡ neg_ℤ (pos 1 +ℤ pos n)
minus n = ap (λ (m : ℕ). neg_ℤ (pos m)) next
  where
    next : suc n ≡ 1 + n
    next = omega arith

pub range : (h : ℕ) (z : ℤ) → nat_abs z ≤ h * 2 ^ 31 → Range h z
unfolding folded
range h (pos n) small = record { k = n % 2 ^ 31 + n / 2 ^ 31 + h; is = ap (λ (m : ℕ). pos m -ℤ pos (n / 2 ^ 31) *ℤ pos MODULUS) split ∙ out (pos (n % 2 ^ 31)) (pos (n / 2 ^ 31)) (pos h); less = omega arith }
  where
    split : n ≡ n / 2 ^ 31 * 2 ^ 31 + n % 2 ^ 31
    split = omega arith

    out : (b a h : ℤ) → a *ℤ pos (2 ^ 31) +ℤ b -ℤ a *ℤ pos MODULUS ≡ b +ℤ a +ℤ h -ℤ h
    out b a h = ring (b ∷ a ∷ h ∷ []) (search quotes depth 40) tt
range h (negsuc n) small = record {
  k = 2 ^ 31 - 1 - n % 2 ^ 31 + (h - suc (n / 2 ^ 31));
  is = below (n / 2 ^ 31) (n % 2 ^ 31) (2 ^ 31 - 1 - n % 2 ^ 31) (h - suc (n / 2 ^ 31)) (omega arith) (omega arith) (omega arith);
  less = omega arith;
}
  where
    below : (a b u w : ℕ) → a * 2 ^ 31 + b ≡ n → u + b ≡ MODULUS → w + (1 + a) ≡ h → negsuc n -ℤ negsuc a *ℤ pos MODULUS ≡ pos (u + w) -ℤ pos h
    below a b u w e f g = ap₂ (λ (y z : ℤ). y -ℤ z *ℤ pos MODULUS) (minus n) (minus a) ∙ ap (λ (m : ℕ). neg_ℤ (pos 1 +ℤ pos m) -ℤ neg_ℤ (pos 1 +ℤ pos a) *ℤ pos MODULUS) (sym e) ∙ out (pos a) (pos b) ∙ ap (λ (m : ℕ). pos m -ℤ pos b -ℤ (pos 1 +ℤ pos a)) (sym f)
        ∙ in_turn_lem (pos a) (pos b) (pos u) (pos w) ∙ ap (λ (m : ℕ). pos (u + w) -ℤ pos m) g
      where
        out : (a b : ℤ) → neg_ℤ (pos 1 +ℤ (a *ℤ pos (2 ^ 31) +ℤ b)) -ℤ neg_ℤ (pos 1 +ℤ a) *ℤ pos MODULUS ≡ pos MODULUS -ℤ b -ℤ (pos 1 +ℤ a)
        out a b = ring (a ∷ b ∷ []) (search quotes depth 40) tt

        in_turn_lem : (a b u w : ℤ) → u +ℤ b -ℤ b -ℤ (pos 1 +ℤ a) ≡ u +ℤ w -ℤ (w +ℤ (pos 1 +ℤ a))
        in_turn_lem a b u w = ring (a ∷ b ∷ u ∷ w ∷ []) (search quotes depth 40) tt

pub folded-small : (h : ℕ) (z : ℤ) → nat_abs z ≤ h * 2 ^ 31 → nat_abs (folded z) ≤ 2 ^ 31 + h
folded-small h z small = go (range h z small)
  where
    go : Range h z → nat_abs (folded z) ≤ 2 ^ 31 + h
    go r = rw r.is (size r.k r.less)
      where
        size : (k : ℕ) → k < 2 ^ 31 + 2 * h → nat_abs (pos k -ℤ pos h) ≤ 2 ^ 31 + h
        size k less = let Γ = pos k ∷ pos h ∷ [] in omega (arith, abs_fact Γ (pos k -ℤ pos h) (search quotes))

-- the number of times that 2^31 goes into z
pub shift_small : (h : ℕ) (z : ℤ) → nat_abs z ≤ h * 2 ^ 31 → nat_abs (shr_z z (2 ^ 31)) ≤ h
shift_small h (pos n) small = omega arith
shift_small h (negsuc n) small = omega arith

-- ---- what the machine's numbers are

pub fits_small : (z : ℤ) → SFits w64 z → nat_abs z ≤ 2 ^ 32 * 2 ^ 31
fits_small (pos n) f = omega (arith, f.sfits)
fits_small (negsuc n) f = omega (arith, f.sfits)

-- folded twice, every one of them is near enough to be told
pub twice-folded : (z : ℤ) → nat_abs z ≤ 2 ^ 32 * 2 ^ 31 → Range 3 (folded z)
twice-folded z small = range 3 (folded z) (omega (arith, folded-small (2 ^ 32) z small))
