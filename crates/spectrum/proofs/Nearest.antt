-- What the distance theorem asks of a transform: a scale q of at least 12, a rounding R to the nearest of x / q, and cosines C and sines S
-- that are the nearest to the fine ones at scale q. Every quarter table from 2^4 up to below 2^60, with its rounded quotient, is such.
-- Example: `nearest_at 15 (lit≤ tt) (lit< tt)` is the table and the rounding in force.
use mathlib.Core.Path.{◌≡◌}
use mathlib.Core.List.{[], ◌∷◌}
use Prim.Native.Nat.{ℕ, ◌-◌, ◌*◌, ◌^◌, ◌≤◌, ◌<◌}
use native.Mathlib.Omega.{arith}
use lib.IntN.{ℤ, pos, nat_abs, ◌+ℤ◌, ◌-ℤ◌, ◌*ℤ◌}
use lib.Pow.{pow_pos, pow_mono}
use Rattle.ints.specs.Quotient.{rounded}
use Rattle.ints.proofs.Ring.{ring, quotes, sub_zero}
use Rattle.ints.proofs.Powers.{two_pow_pred}
use Rattle.ints.proofs.Rounding.{rounded_near, multiple_zero, exact_of_near}
use Rattle.cosine.specs.Cosine.{cosine, sine, fine, quarter_table}
use Rattle.cosine.proofs.FineTurn.{quarter_unit, cosine_quarters, sine_quarters}
use Rattle.cosine.proofs.TableNear.{cosine_near, sine_near}

-- The samples that the theorem takes, in magnitude. The fine cosines are themselves rounded, at 2^60; up to this bound that stays below the theorem's + 1.
abbrev pub LARGEST_M : ℕ
LARGEST_M = 2 ^ 43

pub record Nearest (q : ℕ) (R : ℤ → ℤ) (C S : ℕ → ℤ) : Type 0 where
  pub scale : 12 ≤ q
  pub rounding : (x : ℤ) → 2 * nat_abs (pos q *ℤ R x -ℤ x) ≤ q
  pub cosines : (j : ℕ) → 2 * nat_abs (C j *ℤ pos (2 ^ 60) -ℤ cosine fine j *ℤ pos q) ≤ 2 ^ 60
  pub sines : (j : ℕ) → 2 * nat_abs (S j *ℤ pos (2 ^ 60) -ℤ sine fine j *ℤ pos q) ≤ 2 ^ 60

-- ---- the quarter table at scale 2^s with its rounded quotient

pub nearest_at : (s : ℕ) → 4 ≤ s → s < 60 → Nearest (2 ^ s) (rounded (2 ^ s)) (cosine (quarter_table s)) (sine (quarter_table s))
nearest_at s low high = record {
  scale = omega (arith, pow_mono low);
  rounding = λ x. rw (two_pow_pred s (omega arith)) (omega (arith, rounded_near (2 ^ (s - 1)) (pow_pos (s - 1)) x));
  cosines = λ j. omega (arith, cosine_near s high j);
  sines = λ j. omega (arith, sine_near s high j);
}

-- ---- at quarter turns such a transform is exact

module _ {q : ℕ} {R : ℤ → ℤ} {C S : ℕ → ℤ} (near : Nearest q R C S) where
  table-exact : (t f p : ℤ) → f ≡ p *ℤ pos (2 ^ 60) → 2 * nat_abs (t *ℤ pos (2 ^ 60) -ℤ f *ℤ pos q) ≤ 2 ^ 60 → t ≡ p *ℤ pos q
  table-exact t f p e h = sub_zero t (p *ℤ pos q) (multiple_zero (t -ℤ p *ℤ pos q) (2 ^ 60) (omega arith) (rw (e, out t p (pos (2 ^ 60)) (pos q)) at h))
    where
      out : (t p u k : ℤ) → t *ℤ u -ℤ p *ℤ u *ℤ k ≡ (t -ℤ p *ℤ k) *ℤ u
      out t p u k = ring (t ∷ p ∷ u ∷ k ∷ []) (search quotes depth 40) tt

  pub exact-cosine : (m : ℕ) → C (m * 256) ≡ (quarter_unit m).0 *ℤ pos q
  exact-cosine m = table-exact _ _ (quarter_unit m).0 (cosine_quarters m) (near.cosines (m * 256))

  pub exact-sine : (m : ℕ) → S (m * 256) ≡ (quarter_unit m).1 *ℤ pos q
  exact-sine m = table-exact _ _ (quarter_unit m).1 (sine_quarters m) (near.sines (m * 256))

  -- the rounded sum of both products
  pub exact-quotient : (m : ℕ) (b b' : ℤ) → R (b *ℤ C (m * 256) +ℤ b' *ℤ S (m * 256)) ≡ b *ℤ (quarter_unit m).0 +ℤ b' *ℤ (quarter_unit m).1
  exact-quotient m b b' = rw (exact-cosine m, exact-sine m, out b b' (quarter_unit m).0 (quarter_unit m).1 (pos q))
      (exact_of_near q R (omega (arith, near.scale)) near.rounding (b *ℤ (quarter_unit m).0 +ℤ b' *ℤ (quarter_unit m).1))
    where
      out : (b b' c s k : ℤ) → b *ℤ (c *ℤ k) +ℤ b' *ℤ (s *ℤ k) ≡ (b *ℤ c +ℤ b' *ℤ s) *ℤ k
      out b b' c s k = ring (b ∷ b' ∷ c ∷ s ∷ k ∷ []) (search quotes depth 40) tt
