-- `by` is right because 2^(digits − 1), which fits, is half of 2^digits.
use mathlib.Core.Path.{◌∙◌, ap}
use Prim.Native.Nat.{ℕ, ◌*◌, ◌-◌, ◌%◌, ◌^◌, ◌≤◌}
use native.Mathlib.Omega.{arith}
use lib.IntN.{pos}
use lib.Pow.{pow_mono}
use mir.Syntax.{w64}
use mir.Val.{to_z}
use Rattle.ints.specs.Quotient.{Halved}
use Rattle.ints.proofs.Fit.{reads_natural}
use Rattle.ints.proofs.Powers.{two_pow_pred}
use Rattle.ints.proofs.Scale.by.Goals as goal

shifted : (s : ℕ) → (1 ≤ s) × (s ≤ 62) → Halved s (to_z w64 (1 * 2 ^ (s - 1) % 2 ^ 64))
shifted s h = record { least = h.0; most = h.1; is = reads_natural _ (omega (arith, small)) ∙ ap pos (omega (arith, small, two_pow_pred s (omega (arith, h.0)))) }
  where
    small : 2 ^ (s - 1) ≤ 2 ^ 61
    small = pow_mono {i = s - 1} {j = 61} (omega (arith, h.1))

pub invariant_of-result : goal.invariant_of-result
invariant_of-result c = record { halved = shifted c.args.digits c.requires }
