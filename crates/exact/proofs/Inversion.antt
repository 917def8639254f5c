-- The transform is its own inverse up to the number of samples: sums of cosines and sines over all lines vanish, except where every angle is a
-- whole turn, and so the lines' cas at two moments add to n where the moments are the same and to 0 elsewhere.
use mathlib.Core.Path.{◌≡◌, refl, sym, ◌∙◌, ap, ap₂, subst}
use mathlib.Core.List.{[], ◌∷◌}
use Prim.Native.Nat.{ℕ, zero, suc, ◌+◌, ◌*◌, ◌-◌, ◌/◌, ◌%◌, ◌^◌, ◌<◌}
use native.Mathlib.Nat.{mod-lt, mod-one, mod-eq_of_lt, div-add-mod', mul-add-mod_self_right}
use native.Mathlib.Decide.{ℕ_discrete}
use native.Mathlib.Omega.{arith}
use lib.IntN.{ℤ, pos, neg_ℤ, ◌+ℤ◌, ◌*ℤ◌}
use lib.Pow.{pow_pos}
use Rattle.ints.specs.Sum.{sum}
use Rattle.ints.proofs.Ring.{ring, quotes}
use Rattle.ints.proofs.Powers.{two_pow}
use Rattle.ints.proofs.Sums.{sum_cong, sum_plus}
use Rattle.residues.proofs.Congruent.{◌≈◌, ◌⊙◌, lin₁, ≈-is, ≈-plus, ≈-left, ≈-sum}
use Rattle.turns.proofs.Turning.{Turning}
use Rattle.turns.proofs.Angles.{cas_of, at, cosine_after_half, sine_after_half, cosine_turns, sine_turns, cas_product}
use Rattle.exact.proofs.DirectSums.{direct}
use Rattle.exact.proofs.FiniteSums.{sum_exchange, sum-halves, sum_zeros, sum_ones, sum_pick}

-- ---- sums over all lines

-- twice d is a multiple of 2n only where d is one of n
mod_double : (n e : ℕ) → 0 < n → (2 * e) % (2 * n) ≡ 2 * (e % n)
mod_double n e z = go (e / n) (e % n) (div-add-mod' e n) (mod-lt e z)
  where
    go : (k r : ℕ) → k * n + r ≡ e → r < n → (2 * e) % (2 * n) ≡ 2 * r
    go k r f l = ap (λ (i : ℕ). i % (2 * n)) twice ∙ mul-add-mod_self_right k (2 * n) (2 * r) ∙ mod-eq_of_lt (omega arith)
      where
        twice : 2 * e ≡ k * (2 * n) + 2 * r
        twice = omega arith

-- a function of the angle that changes its sign after half a turn
module _ (F : ℕ → ℤ) (half : (j : ℕ) → F (j + 512) ≈ neg_ℤ (F j)) (whole : (j m : ℕ) → F (j + m * 1024) ≈ F j) where
  -- the second half of the lines repeats the first for even d, and cancels it for odd d
  module _ (n h v : ℕ) (e : n * h ≡ 512) where
    odd_line : (d : ℕ) → F ((n + v) * (2 * d + 1) * h) ≈ neg_ℤ (F (v * (2 * d + 1) * h))
    odd_line d = at F angle ⊙ half (v * (2 * d + 1) * h + d * 1024) ⊙ lin₁ (neg_ℤ (pos 1)) (whole (v * (2 * d + 1) * h) d) (ring (F (v * (2 * d + 1) * h + d * 1024) ∷ F (v * (2 * d + 1) * h) ∷ []) (search quotes depth 40) tt)
      where
        angle : (n + v) * (2 * d + 1) * h ≡ v * (2 * d + 1) * h + d * 1024 + 512
        angle = omega (arith, ap (λ (x : ℕ). x * (2 * d + 1)) e)

    even-line : (d : ℕ) → F ((n + v) * (2 * d) * h) ≈ F (v * (2 * d) * h)
    even-line d = at F angle ⊙ whole (v * (2 * d) * h) d
      where
        angle : (n + v) * (2 * d) * h ≡ v * (2 * d) * h + d * 1024
        angle = omega (arith, ap (λ (x : ℕ). x * (2 * d)) e)

  lines_cancel : (P h d : ℕ) → 2 ^ P * h ≡ 1024 → ¬ (d % 2 ^ P ≡ 0) → sum (2 ^ P) (λ v. F (v * d * h)) ≈ pos 0
  lines_cancel zero h d e k = absurd (k (mod-one d))
  lines_cancel (suc P) h d e k = ≈-is (ap (λ (N : ℕ). sum N (λ v. F (v * d * h))) two ∙ sum-halves n n (λ v. F (v * d * h))) ⊙ go (d / 2) (d % 2) (omega arith) (omega arith) (lines_cancel P (2 * h))
    where
      n : ℕ
      n = 2 ^ P

      two : 2 ^ suc P ≡ n + n
      two = omega (arith, two_pow P)

      e' : n * h ≡ 512
      e' = omega (arith, ap (λ (N : ℕ). N * h) two)

      both : (f g : ℕ → ℤ) → ((v : ℕ) → v < n → g v ≈ neg_ℤ (f v)) → sum n f +ℤ sum n g ≈ pos 0
      both f g h = ≈-is (sym (sum_plus n f g)) ⊙ sum_zeros n _ (λ v l. lin₁ (pos 1) (h v l) (ring (f v ∷ g v ∷ []) (search quotes depth 40) tt))

      Halves : ℕ → Type 0
      Halves d = sum n (λ v. F (v * d * h)) +ℤ sum n (λ v. F ((n + v) * d * h)) ≈ pos 0

      Earlier : Type 0
      Earlier = (b : ℕ) → n * (2 * h) ≡ 1024 → ¬ (b % n ≡ 0) → sum n (λ v. F (v * b * (2 * h))) ≈ pos 0

      for-odd : (b : ℕ) → Halves (2 * b + 1)
      for-odd b = both _ _ (λ v l. odd_line n h v e' b)

      for-even : (b : ℕ) → sum n (λ v. F (v * b * (2 * h))) ≈ pos 0 → Halves (2 * b)
      for-even b z = ≈-plus first (≈-sum n _ _ (λ v l. even-line n h v e' b) ⊙ first)
        where
          first : sum n (λ v. F (v * (2 * b) * h)) ≈ pos 0
          first = ≈-is (sum_cong n _ _ (λ v l. ap F (omega arith))) ⊙ z

      go : (b r : ℕ) → 2 * b + r ≡ d → r < 2 → Earlier → Halves d
      go b zero f l rec = subst Halves same (for-even b (rec b (omega (arith, e')) (λ z. k (ap₂ ◌%◌ (sym same) (two_pow P) ∙ mod_double n b (pow_pos P) ∙ ap (λ (x : ℕ). 2 * x) z))))
        where
          same : 2 * b ≡ d
          same = omega arith
      go b (suc zero) f l rec = subst Halves f (for-odd b)
      go b (suc (suc r)) f l rec = absurd (omega arith)

-- ---- the lines' cas at two moments

module _ {C S : ℕ → ℤ} (turn : Turning C S) (P h : ℕ) (e : 2 ^ P * h ≡ 1024) where
  abbrev n : ℕ
  n = 2 ^ P

  cosines_cancel : (d : ℕ) → ¬ (d % n ≡ 0) → sum n (λ v. C (v * d * h)) ≈ pos 0
  cosines_cancel d k = lines_cancel C (cosine_after_half turn) (cosine_turns turn) P h d e k

  cosines_add : sum n (λ v. C (v * n * h)) ≈ pos n
  cosines_add = sum_ones n _ (λ v. at C (angle v) ⊙ cosine_turns turn 0 v ⊙ turn.cosine_start)
    where
      angle : (v : ℕ) → v * n * h ≡ 0 + v * 1024
      angle v = omega (arith, ap (λ (x : ℕ). v * x) e)

  sines_cancel : (d : ℕ) → sum n (λ v. S (v * d * h)) ≈ pos 0
  sines_cancel d = go (ℕ_discrete (d % n) 0)
    where
      angle : d % n ≡ 0 → (v : ℕ) → v * d * h ≡ 0 + v * (d / n) * 1024
      angle z v = turned (d / n) (div-add-mod' d n ∙ refl)
        where
          turned : (k : ℕ) → k * n + d % n ≡ d → v * d * h ≡ 0 + v * k * 1024
          turned k f = rw (sym f, z, sym e) (omega arith)

      go : Dec (d % n ≡ 0) → sum n (λ v. S (v * d * h)) ≈ pos 0
      go (yes z) = sum_zeros n _ (λ v l. at S (angle z v) ⊙ sine_turns turn 0 (v * (d / n)) ⊙ turn.sine_start)
      go (no k) = lines_cancel S (sine_after_half turn) (sine_turns turn) P h d e k

  module _ (t : ℕ) (l : t < n) where
    product_lines : (u : ℕ) → sum n (λ v. cas_of C S (v * u * h) *ℤ cas_of C S (t * v * h)) ≈ sum n (λ v. C (v * (u + (n - t)) * h)) +ℤ sum n (λ v. S (v * (u + t) * h))
    product_lines u = ≈-sum n _ _ (λ v k. cas_product turn (v * u * h) (t * v * h) (v * (n - t) * h) v (whole v) ⊙ ≈-plus (at C (omega arith)) (at S (omega arith)))
        ⊙ ≈-is (sum_plus n (λ v. C (v * (u + (n - t)) * h)) (λ v. S (v * (u + t) * h)))
      where
        all : n - t + t ≡ n
        all = omega arith

        whole : (v : ℕ) → v * (n - t) * h + t * v * h ≡ v * 1024
        whole v = rw (sym e) (omega (arith, ap (λ (x : ℕ). v * x * h) all))

    same_moment : sum n (λ v. cas_of C S (v * t * h) *ℤ cas_of C S (t * v * h)) ≈ pos n
    same_moment = product_lines t ⊙ ≈-plus (≈-is (sum_cong n _ _ (λ v k. ap (λ (d : ℕ). C (v * d * h)) all)) ⊙ cosines_add) (sines_cancel (t + t)) ⊙ ≈-is (ring (pos n ∷ []) (search quotes) tt)
      where
        all : t + (n - t) ≡ n
        all = omega arith

    other_moment : (u : ℕ) → u < n → ¬ (u ≡ t) → sum n (λ v. cas_of C S (v * u * h) *ℤ cas_of C S (t * v * h)) ≈ pos 0
    other_moment u k o = product_lines u ⊙ ≈-plus (cosines_cancel (u + (n - t)) apart) (sines_cancel (u + t))
      where
        go : (q : ℕ) → q * n ≡ u + (n - t) → ⊥
        go zero f = omega arith
        go (suc zero) f = o (omega arith)
        go (suc (suc q)) f = omega arith

        apart : ¬ ((u + (n - t)) % n ≡ 0)
        apart z = go ((u + (n - t)) / n) (omega (arith, div-add-mod' (u + (n - t)) n))

    -- ---- the direct sum of the direct sum

    pub twice_direct : (x : ℕ → ℤ) → direct C S n h (direct C S n h x) t ≈ x t *ℤ pos n
    twice_direct x = ≈-is (sum_exchange n n x (λ u v. cas_of C S (v * u * h)) (λ v. cas_of C S (t * v * h)))
        ⊙ sum_pick n t _ l (λ u k o. ≈-left (x u) (other_moment u k o) ⊙ ≈-is (ring (x u ∷ []) (search quotes) tt)) ⊙ ≈-left (x t) same_moment
