-- Powers of two among each other, by their exponents.
use mathlib.Core.Path.{◌≡◌, sym, ◌∙◌, ap}
use Prim.Native.Nat.{ℕ, ◌+◌, ◌*◌, ◌-◌, ◌%◌, ◌^◌, ◌≤◌, ◌<◌}
use native.Mathlib.Nat.{mul-mod_left}
use native.Mathlib.Decide.{dec_lt}
use native.Mathlib.Omega.{arith}
use lib.Pow.{pow-add, pow_mono}

pub power_product : (i j k : ℕ) → i + j ≡ k → 2 ^ i * 2 ^ j ≡ 2 ^ k
power_product i j k e = sym (pow-add 2 i j) ∙ ap (λ (n : ℕ). 2 ^ n) e

-- a smaller power divides a larger one
pub power_divides : (i k : ℕ) → i ≤ k → 2 ^ k % 2 ^ i ≡ 0
power_divides i k h = ap (λ (n : ℕ). n % 2 ^ i) (sym (power_product (k - i) i k (omega arith))) ∙ mul-mod_left (2 ^ (k - i)) (2 ^ i)

-- of two powers the smaller has the smaller exponent
pub power_smaller : (i k : ℕ) → 2 ^ i < 2 ^ k → i < k
power_smaller i k h = go (dec_lt i k)
  where
    go : Dec (i < k) → i < k
    go (yes l) = l
    go (no l) = absurd (omega (arith, pow_mono {i = k} {j = i} (omega arith)))
