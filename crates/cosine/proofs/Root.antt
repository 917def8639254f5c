-- The whole root of x is the one r with r · r ≤ x < (r + 1) · (r + 1).
-- Example: `root_is x r low high : root x ≡ r`, with low : r * r ≤ x and high : x < suc r * suc r.
use mathlib.Core.Path.{◌≡◌}
use mathlib.Core.Bool.{Bool, true, false, cond, not}
use Prim.Native.Nat.{ℕ, zero, suc, ◌+◌, ◌*◌, ◌/◌, ◌^◌, ◌<◌, ◌≤◌}
use native.Mathlib.Nat.{le_trans, le_antisymm, lt_of_lt_of_le, lt_of_not-le, lt_irrefl, le_of_suc-le-suc, mul-le-mul, pow-suc}
use native.Mathlib.Omega.{arith}
use lib.Dec.{T, leb, eqb, leb→le, nleb→lt, eqb→eq}
use Rattle.cosine.specs.Root.{root_with, root}

pub record Root (x r : ℕ) : Type 0 where
  pub low : r * r ≤ x
  pub high : x < suc r * suc r

-- one digit more
digit : (x r : ℕ) → Root (x / 4) r → Root x (cond (leb ((2 * r + 1) * (2 * r + 1)) x) (2 * r + 1) (2 * r))
digit x r h = go (leb ((2 * r + 1) * (2 * r + 1)) x) (leb→le _ x) (nleb→lt _ x)
  where
    go : (t : Bool) → (T t → (2 * r + 1) * (2 * r + 1) ≤ x) → (T (not t) → x < (2 * r + 1) * (2 * r + 1)) → Root x (cond t (2 * r + 1) (2 * r))
    go true f g = record { low = f tt; high = omega (arith, h.high) }
    go false f g = record { low = omega (arith, h.low); high = omega (arith, g tt) }

with_digits : (d x : ℕ) → x < 4 ^ d → Root x (root_with d x)
unfolding root_with
with_digits zero x h = record { low = omega arith; high = omega arith }
with_digits (suc d) x h = go (eqb x 0) (eqb→eq x 0) (with_digits d (x / 4) (omega (arith, pow-suc 4 d)))
  where
    go : (t : Bool) → (T t → x ≡ 0) → Root (x / 4) (root_with d (x / 4)) →
        Root x (elim t [ true ↦ 0 | false ↦ let r = 2 * root_with d (x / 4) in cond (leb ((r + 1) * (r + 1)) x) (r + 1) r ])
    go true f ih = record { low = omega (arith, f tt); high = omega (arith, f tt) }
    go false f ih = digit x (root_with d (x / 4)) ih

few : (x : ℕ) → x < 4 ^ x
few zero = omega arith
few (suc x) = omega (arith, few x, pow-suc 4 x)

pub root-holds : (x : ℕ) → Root x (root x)
unfolding root
root-holds x = with_digits x x (few x)

below : (x q r : ℕ) → q * q ≤ x → x < suc r * suc r → q ≤ r
below x q r low high = le_of_suc-le-suc (lt_of_not-le (λ (h : suc r ≤ q). lt_irrefl x (lt_of_lt_of_le high (le_trans (mul-le-mul h h) low))))

pub root_is : (x r : ℕ) → r * r ≤ x → x < suc r * suc r → root x ≡ r
root_is x r low high = le_antisymm (below x (root x) r (root-holds x).low high) (below x r (root x) low (root-holds x).high)
