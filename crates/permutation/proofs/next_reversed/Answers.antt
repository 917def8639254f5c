-- `next_reversed` is right because each round hands the carry on to the digit after it, as `next_reversed` does.
use mathlib.Core.Path.{◌≡◌, refl, sym, ◌∙◌, ap}
use Prim.Native.Nat.{ℕ, zero, suc, ◌+◌, ◌-◌, ◌/◌, ◌≤◌, ◌<◌, ◌^◌}
use native.Mathlib.Omega.{arith}
use lib.Pow.{pow_pos}
use Rattle.ints.proofs.Powers.{two_pow}
use Rattle.permutation.proofs.Counting.{next_reversed, next_low, next_carry, next_none, next_reversed_lem}
use Rattle.permutation.proofs.next_reversed.Invariants.{Carried}
use Rattle.permutation.proofs.next_reversed.Goals as goal

half : (k : ℕ) → 2 ^ suc k / 2 ≡ 2 ^ k
half k = omega (arith, two_pow k)

module _ (p digits rest digit : ℕ) where
  ends : Carried p digits rest digit → 0 < digit → rest < digit → rest + digit ≡ next_reversed p digits
  ends c some h = go c.left c.at c.same
    where
      go : (left : ℕ) → digit ≡ 2 ^ left / 2 → next_reversed p digits ≡ next_reversed left rest → rest + digit ≡ next_reversed p digits
      go zero e f = absurd (never e)
        where
          never : digit ≡ 0 → ⊥
          never e = omega arith
      go (suc k) e f = ap (λ (x : ℕ). rest + x) (e ∙ half k) ∙ sym (f ∙ next_low k rest (omega (arith, half k)))

  goes_on : Carried p digits rest digit → 0 < digit → digit ≤ rest → Carried p digits (rest - digit) (digit / 2)
  goes_on c some h = go c.left c.at c.same
    where
      go : (left : ℕ) → digit ≡ 2 ^ left / 2 → next_reversed p digits ≡ next_reversed left rest → Carried p digits (rest - digit) (digit / 2)
      go zero e f = absurd (never e)
        where
          never : digit ≡ 0 → ⊥
          never e = omega arith
      go (suc k) e f = let d = e ∙ half k in
          record { left = k; at = ap (λ (x : ℕ). x / 2) d; same = f ∙ next_carry k rest (omega arith) ∙ ap (λ (x : ℕ). next_reversed k (rest - x)) (sym d) }

  all-carried : Carried p digits rest digit → digit ≡ 0 → rest ≡ next_reversed p digits
  all-carried c none = go c.left c.at c.same
    where
      go : (left : ℕ) → digit ≡ 2 ^ left / 2 → next_reversed p digits ≡ next_reversed left rest → rest ≡ next_reversed p digits
      go zero e f = sym (f ∙ next_none rest)
      go (suc k) e f = absurd (never (e ∙ half k))
        where
          never : digit ≡ 2 ^ k → ⊥
          never e = omega (arith, pow_pos k)

pub loop-digit-init : goal.loop-digit-init
loop-digit-init c = (c.requires, λ p e. record { left = p; at = e; same = refl })

pub overflow_add-result : goal.overflow_add-result
overflow_add-result c = omega (arith, c.loop-digit.invariant.0)

pub returns-then-rest-digit : goal.returns-then-rest-digit
returns-then-rest-digit c = let l = c.loop-digit in λ p i e d. ends p _ _ _ (l.invariant.1 p e) (omega arith) (omega arith) ∙ ap (next_reversed p) d ∙ next_reversed_lem p i

pub loop-digit-preserved : goal.loop-digit-preserved
loop-digit-preserved c = let l = c.loop-digit in (omega (arith, l.invariant.0), λ p e. goes_on p _ _ _ (l.invariant.1 p e) (omega arith) (omega arith))

pub returns : goal.returns
returns c = let l = c.loop-digit in λ p i e d. all-carried p _ _ _ (l.invariant.1 p e) (omega arith) ∙ ap (next_reversed p) d ∙ next_reversed_lem p i
