-- `at_scale` is right because half a unit is at most 2^59 and fits beside the cosine, and the unit is at least 2^38.
use borrow.Author.Rules.{rules}
use mathlib.Core.Path.{◌≡◌}
use Prim.Native.Nat.{ℕ, ◌+◌, ◌*◌, ◌-◌, ◌/◌, ◌%◌, ◌^◌, ◌≤◌, ◌<◌}
use native.Mathlib.Omega.{arith}
use native.Mathlib.Nat.{div-lt_iff_lt-mul}
use lib.Pow.{pow_mono}
use Rattle.table_rule.proofs.at_scale.Goals as goal

half : (s : ℕ) → (1 * 2 ^ (59 - s) % 2 ^ 64 ≡ 2 ^ (59 - s)) × (2 ^ (59 - s) ≤ 2 ^ 59)
half s = let few : 59 - s ≤ 59 = omega arith in let small : 2 ^ (59 - s) ≤ 2 ^ 59 = pow_mono few in (omega arith, small)

-- what is left of 61 bits, divided by 2^38 or more, fits 32 bits
narrow : (x s : ℕ) → x ≤ 2 ^ 61 → s ≤ 22 → x / 2 ^ (60 - s) < 2 ^ 32
narrow x s h k = let many : 38 ≤ 60 - s = omega arith in let large : 2 ^ 38 ≤ 2 ^ (60 - s) = pow_mono many in
    (div-lt_iff_lt-mul {k = 2 ^ (60 - s)} {x = x} {y = 2 ^ 32} (omega arith)).1 (omega arith)

with-half : (f h s : ℕ) → h ≡ 2 ^ (59 - s) → (f + h) / 2 ^ (60 - s) ≡ (f + 2 ^ (59 - s)) / 2 ^ (60 - s)
with-half f h s e = rw e

pub overflow_add-result : goal.overflow_add-result
overflow_add-result c = omega (arith, half c.args.s)

pub overflow_cast-result : goal.overflow_cast-result
overflow_cast-result c = record { fits = narrow _ _ (omega (arith, half c.args.s)) (search rules) }

pub returns : goal.returns
returns c = let h = half c.args.s in with-half c.args.fine _ c.args.s (omega (arith, h))
