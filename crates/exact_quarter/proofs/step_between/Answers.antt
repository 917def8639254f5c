-- `step_between` is right because it begins with one step, and each round adds the angle to itself, which makes 2^(8 − t) steps in 8 − t rounds.
use mathlib.Core.Path.{◌≡◌, sym, ◌∙◌, ap}
use Prim.Native.Nat.{ℕ, suc, ◌+◌, ◌-◌, ◌^◌, ◌≤◌}
use native.Mathlib.Omega.{arith}
use Rattle.ints.proofs.Powers.{two_pow}
use Rattle.exact_quarter.proofs.Steps.{cosine_one, sine_one, at_small, step_next}
use Rattle.exact_quarter.proofs.step_between.Goals as goal

-- how many steps there are before the loop, and after one turn more
one-step : (t : ℕ) → 2 ^ (t - t) ≡ 1
one-step t = ap (λ (n : ℕ). 2 ^ n) none
  where
    none : t - t ≡ 0
    none = omega arith

twice : (t k : ℕ) → t ≤ k → 2 ^ (k + 1 - t) ≡ 2 ^ (k - t) + 2 ^ (k - t)
twice t k h = ap (λ (n : ℕ). 2 ^ n) more ∙ omega (arith, two_pow (k - t))
  where
    more : k + 1 - t ≡ suc (k - t)
    more = omega arith

pub loop-k-init : goal.loop-k-init
loop-k-init c = rw (one-step c.args.t) (record { cosine = sym cosine_one; sine = sym sine_one })

pub loop-k-preserved : goal.loop-k-preserved
loop-k-preserved c = let a = c.loop-k.invariant in step_next a a c.plus-angle.ensures.cosine c.plus-angle.ensures.sine _ (twice c.args.t c.loop-k.k c.loop-k.auto.k)

pub invariant_of-angle : goal.invariant_of-angle
invariant_of-angle c = record { small = at_small c.loop-k.invariant }

pub invariant_of-angle-2 : goal.invariant_of-angle-2
invariant_of-angle-2 c = record { small = at_small c.loop-k.invariant }

pub returns : goal.returns
returns c = let l = c.loop-k in let end : l.k ≡ 8 = omega (arith, l.auto.k-end c.requires) in let a = rw end at l.invariant in (a.cosine, a.sine)
