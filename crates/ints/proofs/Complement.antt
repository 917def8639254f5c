-- −1 − x for a negative x: it always fits, and is one less than the absolute value.
-- Example: `complement_back (negative x f l) : to_z w64 (of_z w64 (negsuc 0 -ℤ x)) ≡ pos less`, with f : x fits, l : x is found to be below 0, and
-- less the field of `negative x f l`.
use mathlib.Core.Path.{◌≡◌, refl, sym, ◌∙◌, ap}
use mathlib.Core.Bool.{true, false, true≢false}
use mathlib.Core.List.{[], ◌∷◌}
use Prim.Native.Nat.{ℕ, suc, ◌^◌, ◌<◌}
use native.Mathlib.Numerals.{add-one}
use native.Mathlib.Omega.{arith}
use borrow.Author.Tests.{ltb-true}
use lib.Dec.{T}
use lib.IntN.{ℤ, pos, negsuc, ◌+ℤ◌, ◌-ℤ◌}
use lib.Signed.{non_neg, lt_z}
use mir.Facts.{to_z-of_z}
use mir.Syntax.{w64}
use mir.Val.{SFits, to_z, of_z}
use Rattle.ints.proofs.Ring.{ring, quotes}

-- a negative x is −(n + 1)
pub record Negative (x : ℤ) : Type 0 where
  pub less : ℕ
  pub small : less < 2 ^ 63
  pub is : x ≡ negsuc less

pub negative : (x : ℤ) → SFits w64 x → lt_z x (pos 0) ≡ true → Negative x
negative (pos n) f l = absurd (omega (arith, ltb-true n 0 l))
negative (negsuc n) f l = record { less = n; small = f.sfits; is = refl }

pub not_negative : (x : ℤ) → lt_z x (pos 0) ≡ false → T (non_neg x)
not_negative (pos n) l = tt
not_negative (negsuc n) l = absurd (true≢false l)

module _ {x : ℤ} (n : Negative x) where
  pub complement : negsuc 0 -ℤ x ≡ pos n.less
  complement = rw n.is (out (pos n.less) (pos (suc n.less)) (ap pos (sym (add-one n.less))))
    where
      out : (z y : ℤ) → y ≡ z +ℤ pos 1 → negsuc 0 +ℤ y ≡ z
      out z y e = rw e (ring (z ∷ []) (search quotes) tt)

  pub complement_back : to_z w64 (of_z w64 (negsuc 0 -ℤ x)) ≡ pos n.less
  complement_back = ap (λ (z : ℤ). to_z w64 (of_z w64 z)) complement ∙ to_z-of_z {w = w64} {z = pos n.less} (record { sfits = n.small })
