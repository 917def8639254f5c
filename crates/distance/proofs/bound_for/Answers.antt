-- `bound_for` is right because each round makes the bound of so many levels that of one more, and the first two levels have bound 0.
use mathlib.Core.Path.{◌≡◌, sym, ◌∙◌, ap}
use Prim.Native.Nat.{ℕ, suc, ◌+◌, ◌*◌, ◌%◌, ◌^◌, ◌≤◌, ◌<◌, min}
use native.Mathlib.Nat.{le_trans, mul-le-mul, mul-le-mul_right}
use native.Mathlib.Omega.{arith}
use lib.Pow.{pow_mono}
use Rattle.spectrum.specs.Distance.{bound, ceiling}
use Rattle.spectrum.proofs.Bound.{bound_early, bound_next, bound-size}
use Rattle.distance.specs.Inner.{CanBound, CanStep}
use Rattle.distance.proofs.bound_for.Goals as goal

-- one level more, where there is one: half the length of its parts is 2^level, and the numbers that it takes are small
module _ {P level : ℕ} (most : P ≤ 10) (more : level < P) where
  few : 2 ^ level ≤ 2 ^ 9
  few = pow_mono {j = 9} (omega arith)

  half-is : 1 * 2 ^ level % 2 ^ 64 ≡ 2 ^ level
  half-is = omega (arith, few)

  so_many : min level P ≡ level
  so_many = omega arith

module _ (q M : ℕ) {P level : ℕ} (most : P ≤ 10) (more : level < P) where
  can-step : CanBound q M P → {B : ℕ} → B ≡ bound q M (min level P) → CanStep q (1 * 2 ^ level % 2 ^ 64 * M) B
  can-step c {B} e = record {
    some = c.some;
    scale = c.scale;
    products = rw (half-is most more) (omega (arith, mul-le-mul_right M (few most more), c.quiet));
    bounds = omega (arith, small, c.quiet);
  }
    where
      small : B ≤ 2 ^ 9 * 2 ^ 9 * (M + 1)
      small = rw (e, so_many most more) (le_trans (bound-size q c.some M level) (mul-le-mul_right (M + 1) (mul-le-mul (few most more) (few most more))))

  next : 2 ≤ level → {B after : ℕ} → B ≡ bound q M (min level P) → after ≡ ceiling (5 * B) 2 + ceiling (1 * 2 ^ level % 2 ^ 64 * M) q + 1 → after ≡ bound q M (min (level + 1) P)
  next least e f = let one-more : min (level + 1) P ≡ suc level = omega arith in f ∙ rw (e, so_many most more, half-is most more, one-more) (sym (bound_next q M level least))

pub loop-level-init : goal.loop-level-init
loop-level-init c = sym (bound_early _ _ _ (omega arith))

pub next_bound-so_far-requires : goal.next_bound-so_far-requires
next_bound-so_far-requires c = can-step _ _ c.requires.most (omega arith) c.requires c.loop-level.invariant

pub loop-level-preserved : goal.loop-level-preserved
loop-level-preserved c = next _ _ c.requires.most (omega arith) c.loop-level.auto.level c.loop-level.invariant c.next_bound-so_far.ensures

pub returns : goal.returns
returns c = let all : min c.loop-level.level c.args.p ≡ c.args.p = omega arith in c.loop-level.invariant ∙ ap (bound c.args.scale c.args.largest) all
