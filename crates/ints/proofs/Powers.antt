-- Powers of two. Example: `two_pow k : 2 ^ suc k ≡ 2 * 2 ^ k`.
use mathlib.Core.Path.{◌≡◌, ◌∙◌, ap}
use mathlib.Core.Bool.{Bool, true, false, not}
use Prim.Native.Nat.{ℕ, suc, ◌-◌, ◌*◌, ◌%◌, ◌^◌, ◌≤◌, ◌<◌}
use native.Mathlib.Nat.{pow-suc, mul_comm}
use native.Mathlib.Omega.{arith}
use lib.Dec.{T, ltb, ltb→lt, nltb→le}
use lib.Pow.{pow-lt, pow_mono}

pub two_pow : (k : ℕ) → 2 ^ suc k ≡ 2 * 2 ^ k
two_pow k = pow-suc 2 k ∙ mul_comm (2 ^ k) 2

-- the same, at a power that is not 0
pub two_pow_pred : (k : ℕ) → 0 < k → 2 ^ k ≡ 2 * 2 ^ (k - 1)
two_pow_pred k h = ap (λ (n : ℕ). 2 ^ n) up ∙ two_pow (k - 1)
  where
    up : k ≡ suc (k - 1)
    up = omega arith

-- no two powers are equal
pub same_power : (i j : ℕ) → 2 ^ i ≡ 2 ^ j → i ≡ j
same_power i j e = go (ltb i j) (ltb j i) (ltb→lt i j) (nltb→le i j) (ltb→lt j i) (nltb→le j i)
  where
    go : (t u : Bool) → (T t → i < j) → (T (not t) → j ≤ i) → (T u → j < i) → (T (not u) → i ≤ j) → i ≡ j
    go true u f g h k = absurd (omega (arith, pow-lt (f tt)))
    go false true f g h k = absurd (omega (arith, pow-lt (h tt)))
    go false false f g h k = omega (arith, g tt, k tt)

-- 1 shifted by p, as the machine does it: the number of cells of a block
pub shifted : (p n : ℕ) → p ≤ 10 → n ≡ 1 * 2 ^ p % 2 ^ 64 → (n ≡ 2 ^ p) × (n ≤ 1024)
shifted p n few e = let small : 2 ^ p ≤ 2 ^ 10 = pow_mono few in (omega arith, omega arith)
