-- `digits_of` is right because root² and the rest are at every turn the number that has been brought down, and the rest is never above twice the root.
use mathlib.Core.Path.{◌≡◌, refl, sym}
use Prim.Native.Nat.{ℕ, ◌+◌, ◌*◌, ◌/◌, ◌%◌, ◌^◌, ◌≤◌, ◌<◌}
use native.Mathlib.Nat.{pow-suc}
use native.Mathlib.Numerals.{add-one}
use native.Mathlib.Omega.{arith}
use lib.Pow.{pow-add, pow_mono}
use Rattle.ints.proofs.Powers.{two_pow}
use Rattle.cosine.specs.Root as whole-root
use Rattle.cosine.proofs.Root.{root_is as whole-root-is}
use Rattle.roots.proofs.digits_of.Invariants.{Long}
use Rattle.roots.proofs.digits_of.Goals as goal
use Rattle.roots.proofs.digits_of.Goals.{then-trial-brought, else-trial-brought}

module _ (x root rest left n : ℕ) (w : Long x root rest left n) where
  -- the two digits that are brought down, and those that are left then
  down : left * 4 ≡ left / 2 ^ 62 * 2 ^ 64 + left * 4 % 2 ^ 64
  down = omega (arith, w.short)

  digits : left / 2 ^ 62 ≤ 3
  digits = omega (arith, w.short)

  more : x * 4 ^ (n + 1) ≡ 4 * (x * 4 ^ n)
  more = rw (add-one n, pow-suc 4 n) (omega arith)

  twice : 2 ^ (n + 1) ≡ 2 * 2 ^ n
  twice = rw (add-one n) (two_pow n)

  -- the digit is 1, and c is what then remains of the digits brought down
  one : (brought c : ℕ) → brought ≡ 4 * rest + left / 2 ^ 62 → c + (4 * root + 1) ≡ brought → Long x (2 * root + 1) c (left * 4 % 2 ^ 64) (n + 1)
  one brought c e h = record {
    whole = omega (arith, w.whole, down, more);
    short = omega arith;
    few = omega (arith, w.few, digits);
    small = omega (arith, w.small, twice);
  }

  -- the digit is 0
  none : (brought : ℕ) → brought ≡ 4 * rest + left / 2 ^ 62 → brought < 4 * root + 1 → Long x (2 * root) brought (left * 4 % 2 ^ 64) (n + 1)
  none brought e h = record {
    whole = omega (arith, w.whole, down, more);
    short = omega arith;
    few = omega arith;
    small = omega (arith, w.small, twice);
  }

  -- so long no step overflows
  fits : n < 61 → root < 2 ^ 60
  fits h = let few : n ≤ 60 = omega arith in let most : 2 ^ n ≤ 2 ^ 60 = pow_mono few in omega (arith, w.small)

  -- once all digits are brought down
  settled : (more : ℕ) → n ≡ 32 + more → root ≡ whole-root.root (x * 4 ^ more)
  settled more h = sym (whole-root-is (x * 4 ^ more) root (omega (arith, exact)) (omega (arith, exact, w.few)))
    where
      scaled : x * 4 ^ n ≡ x * 4 ^ more * 2 ^ 64
      scaled = rw (h, pow-add 4 32 more) (omega arith)

      exact : root * root + rest ≡ x * 4 ^ more
      exact = omega (arith, w.whole, scaled, w.short)

pub loop-digit-init : goal.loop-digit-init
loop-digit-init c = record { whole = omega arith; short = omega (arith, c.ranges.x); few = omega arith; small = omega arith }

pub overflow_mul-brought : goal.overflow_mul-brought
overflow_mul-brought c = omega (arith, fits _ _ _ _ _ c.loop-digit.invariant (omega arith))

pub overflow_add-brought : goal.overflow_add-brought
overflow_add-brought c = omega (arith, fits _ _ _ _ _ c.loop-digit.invariant (omega arith))

pub overflow_mul-trial : goal.overflow_mul-trial
overflow_mul-trial c = omega (arith, fits _ _ _ _ _ c.loop-digit.invariant (omega arith))

pub overflow_add-trial : goal.overflow_add-trial
overflow_add-trial c = omega (arith, fits _ _ _ _ _ c.loop-digit.invariant (omega arith))

pub overflow_mul-root : goal.overflow_mul-root
overflow_mul-root c = omega (arith, fits _ _ _ _ _ c.loop-digit.invariant (omega arith))

pub overflow_add-root : goal.overflow_add-root
overflow_add-root c = omega (arith, fits _ _ _ _ _ c.loop-digit.invariant (omega arith))

pub overflow_mul-root-else-trial-brought : goal.overflow_mul-root-else-trial-brought
overflow_mul-root-else-trial-brought c = omega (arith, fits _ _ _ _ _ c.loop-digit.invariant (omega arith))

pub loop-digit-preserved : goal.loop-digit-preserved
loop-digit-preserved c =
    elim c.if-trial-brought.branch [
      | then-trial-brought w ↦ rw (w.root-is, w.rest-is) (one _ _ _ _ _ c.loop-digit.invariant _ _ refl (omega arith))
      | else-trial-brought w ↦ rw (w.root-is, w.rest-is) (none _ _ _ _ _ c.loop-digit.invariant _ refl (omega arith))
    ]

pub returns : goal.returns
returns c = settled _ _ _ _ _ c.loop-digit.invariant _ (omega arith)
