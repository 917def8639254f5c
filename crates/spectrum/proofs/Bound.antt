-- The bound grows with M and falls as the scale grows, since a / b rounded up, which is the least c with a ≤ b c, grows with a and falls as b grows.
-- Example: `bound_grows 32768 q-positive M N M≤N P : bound 32768 M P ≤ bound 32768 N P`.
use mathlib.Core.Path.{◌≡◌, refl}
use Prim.Native.Nat.{ℕ, zero, suc, ◌+◌, ◌*◌, ◌^◌, ◌≤◌, ◌<◌}
use native.Mathlib.Nat.{div-lt_iff_lt-mul, le_trans, mul-le-mul_left, mul-le-mul_right}
use native.Mathlib.Omega.{arith}
use lib.Pow.{pow_pos}
use Rattle.ints.proofs.Powers.{two_pow}
use Rattle.spectrum.specs.Distance.{bound, ceiling}
use Rattle.spectrum.proofs.Step.{ceiling-enough}

-- ---- a / b, rounded up

-- no smaller number c has a ≤ b c; that this one has is `ceiling-enough`
pub ceiling-least : (a b : ℕ) → 0 < b → (c : ℕ) → a ≤ b * c → ceiling a b ≤ c
ceiling-least a b some c h = let below : ceiling a b < suc c = (div-lt_iff_lt-mul some).1 (omega arith) in omega arith

ceiling_grows : (a c b : ℕ) → 0 < b → a ≤ c → ceiling a b ≤ ceiling c b
ceiling_grows a c b some h = ceiling-least a b some (ceiling c b) (le_trans h (ceiling-enough c b some))

ceiling_falls : (a b c : ℕ) → 0 < b → b ≤ c → ceiling a c ≤ ceiling a b
ceiling_falls a b c some h = ceiling-least a c (omega arith) (ceiling a b) (le_trans (ceiling-enough a b some) (mul-le-mul_right (ceiling a b) h))

-- ---- the bound by its number of levels

pub bound_early : (q M P : ℕ) → P ≤ 2 → bound q M P ≡ 0
unfolding bound
bound_early q M zero h = refl
bound_early q M (suc zero) h = refl
bound_early q M (suc (suc zero)) h = refl
bound_early q M (suc (suc (suc P))) h = absurd (omega arith)

pub bound_next : (q M L : ℕ) → 2 ≤ L → bound q M (suc L) ≡ ceiling (5 * bound q M L) 2 + ceiling (2 ^ L * M) q + 1
unfolding bound
bound_next q M zero h = absurd (omega arith)
bound_next q M (suc zero) h = absurd (omega arith)
bound_next q M (suc (suc L)) h = refl

-- ---- how it grows and falls

pub bound_grows : (q : ℕ) → 0 < q → (M N : ℕ) → M ≤ N → (P : ℕ) → bound q M P ≤ bound q N P
unfolding bound
bound_grows q some M N h zero = omega arith
bound_grows q some M N h (suc zero) = omega arith
bound_grows q some M N h (suc (suc zero)) = omega arith
bound_grows q some M N h (suc (suc (suc P))) = omega (
  arith,
  ceiling_grows (5 * bound q M (suc (suc P))) (5 * bound q N (suc (suc P))) 2 (omega arith) (omega (arith, bound_grows q some M N h (suc (suc P)))),
  ceiling_grows (2 ^ suc (suc P) * M) (2 ^ suc (suc P) * N) q some (mul-le-mul_left (2 ^ suc (suc P)) h),
)

pub bound_falls : (q r : ℕ) → 0 < q → q ≤ r → (M P : ℕ) → bound r M P ≤ bound q M P
unfolding bound
bound_falls q r some h M zero = omega arith
bound_falls q r some h M (suc zero) = omega arith
bound_falls q r some h M (suc (suc zero)) = omega arith
bound_falls q r some h M (suc (suc (suc P))) = omega (
  arith,
  ceiling_grows (5 * bound r M (suc (suc P))) (5 * bound q M (suc (suc P))) 2 (omega arith) (omega (arith, bound_falls q r some h M (suc (suc P)))),
  ceiling_falls (2 ^ suc (suc P) * M) q r some h,
)

-- ---- its size: at most N² (M + 1), N being the number of samples

size_step : (n M B q : ℕ) → 0 < q → 0 < n → B ≤ n * n * (M + 1) → ceiling (5 * B) 2 + ceiling (n * M) q + 1 ≤ 2 * n * (2 * n) * (M + 1)
size_step n M B q some one h = omega (arith, ceiling-least (n * M) q some (n * M) (omega (arith, mul-le-mul_right (n * M) some)), mul-le-mul_right n one, mul-le-mul_right M (mul-le-mul_right n one))

pub bound-size : (q : ℕ) → 0 < q → (M P : ℕ) → bound q M P ≤ 2 ^ P * 2 ^ P * (M + 1)
unfolding bound
bound-size q some M zero = omega arith
bound-size q some M (suc zero) = omega arith
bound-size q some M (suc (suc zero)) = omega arith
bound-size q some M (suc (suc (suc P))) = rw (two_pow (suc (suc P))) (size_step (2 ^ suc (suc P)) M (bound q M (suc (suc P))) q some (pow_pos (suc (suc P))) (bound-size q some M (suc (suc P))))
