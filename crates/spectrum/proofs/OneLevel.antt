-- Step 4 of the proof of demand 3, one level: if the lines a and b of the two halves are near their direct sums, the joined line is near that
-- of the whole. It hands to Step what is known of the table, of the rounding, and of the odd moments' part (DirectSplit).
-- Example: `line_near` gives 5/2 B + n M / q + 1 from B, rounded up; `line-exact` gives 0 from 0 where the angles are quarter turns.
use mathlib.Core.Path.{◌≡◌, sym, ◌∙◌, ap}
use mathlib.Core.List.{[], ◌∷◌}
use Prim.Native.Nat.{ℕ, zero, suc, ◌+◌, ◌*◌, ◌-◌, ◌%◌, ◌^◌, ◌≤◌, ◌<◌}
use native.Mathlib.Nat.{mod-lt, mul-le-mul, mul_assoc, le_refl, le_trans}
use native.Mathlib.Omega.{arith}
use lib.IntN.{ℤ, pos, nat_abs, ◌+ℤ◌, ◌-ℤ◌, ◌*ℤ◌}
use Rattle.ints.specs.Sum.{sum}
use Rattle.ints.proofs.Ring.{ring, quotes}
use Rattle.cosine.specs.Cosine.{cosine, sine, cas, fine}
use Rattle.cosine.proofs.FineTurn.{opposite, cas-sum, quarter_unit, cosine_quarters, sine_quarters, cas_quarters, fine-size}
use Rattle.spectrum.specs.Levels.{line}
use Rattle.spectrum.specs.Distance.{ceiling}
use Rattle.spectrum.proofs.Step.{step, exact}
use Rattle.spectrum.proofs.Pairs.{whole-steps}
use Rattle.spectrum.proofs.DirectSplit.{direct, even_sum, odd_sum, CasNear, mirror, direct_split, direct_pair_size, odd_near}
use Rattle.spectrum.proofs.Nearest.{LARGEST_M, Nearest, exact-cosine, exact-sine, exact-quotient}

zero_apart : {y w : ℤ} → y ≡ w → nat_abs (y -ℤ w) ≤ 0
zero_apart {y} {w} e = rw (e, none) (omega arith)
  where
    none : w -ℤ w ≡ pos 0
    none = ring (w ∷ []) (search quotes) tt

-- the sum law at quarter turns, where it is exact
quarters_exact : (m : ℕ) → CasNear (m * 256) 0
quarters_exact m j = zero_apart exactly
  where
    out : (k l c s u : ℤ) → (k *ℤ c +ℤ l *ℤ s) *ℤ u ≡ k *ℤ (c *ℤ u) +ℤ l *ℤ (s *ℤ u)
    out k l c s u = ring (k ∷ l ∷ c ∷ s ∷ u ∷ []) (search quotes depth 40) tt

    exactly : cas fine (j + m * 256) *ℤ pos (2 ^ 60) ≡ cas fine j *ℤ cosine fine (m * 256) +ℤ opposite j *ℤ sine fine (m * 256)
    exactly = rw (cas_quarters m j, cosine_quarters m, sine_quarters m) (out (cas fine j) (opposite j) (quarter_unit m).0 (quarter_unit m).1 (pos (2 ^ 60)))

-- halves of n cells, where a turn has 2 n g steps; the 2n samples x, and a line v
module _ (n g : ℕ) (z : zero < n) (e : 2 * n * g ≡ 1024) (x : ℕ → ℤ) (M : ℕ) (quiet : (t : ℕ) → nat_abs (x t) ≤ M) (v : ℕ) where
  -- the odd moments' part, within ε a sample
  part_near : (ε : ℕ) → CasNear (v * g) ε →
      nat_abs ((direct (2 * n) x v -ℤ even_sum n x (v % n)) *ℤ pos (2 ^ 60)
      -ℤ (odd_sum n x (v % n) *ℤ cosine fine (v * g) +ℤ odd_sum n x (mirror n v) *ℤ sine fine (v * g))) ≤ n * (M * ε)
  part_near ε law = rw (direct_split n g z e x v, rest (even_sum n x (v % n)) (sum n (λ u. x (2 * u + 1) *ℤ cas fine (v * u * (2 * g) + v * g))))
      (odd_near n (2 * g) z (omega (arith, e)) (λ u. x (2 * u + 1)) M (λ u. quiet (2 * u + 1)) v (v * g) ε law)
    where
      rest : (a b : ℤ) → a +ℤ b -ℤ a ≡ b
      rest a b = ring (a ∷ b ∷ []) (search quotes) tt

  few : n ≤ 512
  few = go g e
    where
      go : (g : ℕ) → 2 * n * g ≡ 1024 → n ≤ 512
      go zero f = omega arith
      go (suc g) f = omega arith

  -- 2^67 a sample, for 512 samples of 2^43, is half of 2^60 · 2^60
  small : M ≤ LARGEST_M → (y : ℕ) → y ≤ n * (M * 2 ^ 67) → 2 * y ≤ 2 ^ 60 * 2 ^ 60
  small h y k = omega (arith, le_trans k (mul-le-mul few (mul-le-mul h (le_refl (2 ^ 67)))))

  module _ {q : ℕ} {R : ℤ → ℤ} {C S : ℕ → ℤ} (near : Nearest q R C S) (a b : ℕ → ℤ) where
    pub line_near : (B : ℕ) → M ≤ LARGEST_M →
        ((w : ℕ) → w < n → nat_abs (a w *ℤ pos (2 ^ 60) -ℤ even_sum n x w) ≤ B * 2 ^ 60) → ((w : ℕ) → w < n → nat_abs (b w *ℤ pos (2 ^ 60) -ℤ odd_sum n x w) ≤ B * 2 ^ 60) →
        nat_abs (line R C S n a b v *ℤ pos (2 ^ 60) -ℤ direct (2 * n) x v) ≤ (ceiling (5 * B) 2 + ceiling (n * M) q + 1) * 2 ^ 60
    line_near B M-small ha hb = let w = v % n in let w' = mirror n v in let k = v * g in rw (whole-steps (2 * n) g v (omega arith) e)
        (step q (2 ^ 44) (a w) (R (b w *ℤ C k +ℤ b w' *ℤ S k)) (b w) (b w') (C k) (S k) (cosine fine k) (sine fine k)
        (even_sum n x w) (odd_sum n x w) (odd_sum n x w') (direct (2 * n) x v) (n * M) B
        near.scale (omega arith) (ha w (mod-lt v z)) (hb w (mod-lt v z)) (hb w' (mod-lt (n - w) z))
        (near.cosines k) (near.sines k) (near.rounding (b w *ℤ C k +ℤ b w' *ℤ S k))
        (small M-small _ (part_near (2 ^ 67) (λ j. cas-sum j k))) (fine-size k).pair_size
        (direct_pair_size n (2 * g) z (omega (arith, e)) (λ u. x (2 * u + 1)) M (λ u. quiet (2 * u + 1)) v))

    -- no distance comes in where the angles are quarter turns
    pub line-exact : (m : ℕ) → g ≡ m * 256 →
        ((w : ℕ) → w < n → nat_abs (a w *ℤ pos (2 ^ 60) -ℤ even_sum n x w) ≤ 0) → ((w : ℕ) → w < n → nat_abs (b w *ℤ pos (2 ^ 60) -ℤ odd_sum n x w) ≤ 0) →
        nat_abs (line R C S n a b v *ℤ pos (2 ^ 60) -ℤ direct (2 * n) x v) ≤ 0
    line-exact m f ha hb = let w = v % n in let w' = mirror n v in let k = v * m * 256 in rw (whole-steps (2 * n) g v (omega arith) e, quarters)
        (exact q (2 ^ 44) (a w) (R (b w *ℤ C k +ℤ b w' *ℤ S k)) (b w) (b w') (C k) (S k) (cosine fine k) (sine fine k)
        (even_sum n x w) (odd_sum n x w) (odd_sum n x w') (direct (2 * n) x v)
        (omega (arith, near.scale)) (omega arith) (ha w (mod-lt v z)) (hb w (mod-lt v z)) (hb w' (mod-lt (n - w) z))
        (table-exact _ _ (quarter_unit (v * m)).0 (exact-cosine near (v * m)) (cosine_quarters (v * m)))
        (table-exact _ _ (quarter_unit (v * m)).1 (exact-sine near (v * m)) (sine_quarters (v * m)))
        (zero_apart (rounding-exact (b w) (b w')))
        (le_trans (rw quarters at (part_near 0 (rw quarters (quarters_exact (v * m))))) (omega arith)))
      where
        quarters : v * g ≡ v * m * 256
        quarters = ap (λ (k : ℕ). v * k) f ∙ sym (mul_assoc v m 256)

        table-exact : (t f p : ℤ) → t ≡ p *ℤ pos q → f ≡ p *ℤ pos (2 ^ 60) → nat_abs (t *ℤ pos (2 ^ 60) -ℤ f *ℤ pos q) ≤ 0
        table-exact t f p i j = rw (i, j) (zero_apart (swap p (pos q) (pos (2 ^ 60))))
          where
            swap : (p k u : ℤ) → p *ℤ k *ℤ u ≡ p *ℤ u *ℤ k
            swap p k u = ring (p ∷ k ∷ u ∷ []) (search quotes) tt

        rounding-exact : (d d' : ℤ) → pos q *ℤ R (d *ℤ C (v * m * 256) +ℤ d' *ℤ S (v * m * 256)) ≡ d *ℤ C (v * m * 256) +ℤ d' *ℤ S (v * m * 256)
        rounding-exact d d' = rw (exact-quotient near (v * m) d d', exact-cosine near (v * m), exact-sine near (v * m))
            (ring (d ∷ d' ∷ (quarter_unit (v * m)).0 ∷ (quarter_unit (v * m)).1 ∷ pos q ∷ []) (search quotes depth 40) tt)
