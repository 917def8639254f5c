-- The rule of source document 001, VII, modulo 2^31 − 1: the direct sum of the cyclic sum of samples and weights is X(v) We(v) + X(−v) Wo(v), where
-- We and Wo, the weights' sums with the cosine and with the sine, are the even and the odd part of W.
use mathlib.Core.Path.{◌≡◌, sym, ◌∙◌, ap, ap₂}
use mathlib.Core.List.{[], ◌∷◌}
use Prim.Native.Nat.{ℕ, ◌+◌, ◌*◌, ◌-◌, ◌%◌, ◌<◌}
use native.Mathlib.Nat.{mod-eq_of_lt, add-mod_right}
use native.Mathlib.Omega.{arith}
use lib.IntN.{ℤ, pos, neg_ℤ, ◌+ℤ◌, ◌-ℤ◌, ◌*ℤ◌}
use Rattle.ints.specs.Sum.{sum}
use Rattle.ints.proofs.Ring.{ring, quotes}
use Rattle.ints.proofs.Sums.{sum_cong, sum_plus}
use Rattle.residues.proofs.Congruent.{◌≈◌, ◌⊙◌, ≈-is, ≈-sym, ≈-times, ≈-left, ≈-sum}
use Rattle.turns.proofs.Turning.{Turning}
use Rattle.turns.proofs.Angles.{cas_of, opposite_of, at, cas_turns, cas-sum}
use Rattle.exact.proofs.DirectSums.{direct, direct_opposite, sum_parts}
use Rattle.exact.proofs.FiniteSums.{sum_exchange, sum_shift}

-- the cyclic sum of the samples x and the weights w at moment t
abbrev pub cyclic : ℕ → (ℕ → ℤ) → (ℕ → ℤ) → ℕ → ℤ
cyclic n x w t = sum n (λ u. x u *ℤ w ((t + n - u) % n))

-- the even and the odd part of a direct sum: it and its opposite add to twice the one and differ by twice the other
module _ (C S : ℕ → ℤ) (n h : ℕ) (w : ℕ → ℤ) (v : ℕ) where
  abbrev pub with_cosine : ℤ
  with_cosine = sum n (λ r. w r *ℤ C (v * r * h))

  abbrev pub with_sine : ℤ
  with_sine = sum n (λ r. w r *ℤ S (v * r * h))

  direct_parts : direct C S n h w v ≡ with_cosine +ℤ with_sine
  direct_parts = sum_cong n _ _ (λ r k. ring (w r ∷ C (v * r * h) ∷ S (v * r * h) ∷ []) (search quotes depth 40) tt) ∙ sum_plus n (λ r. w r *ℤ C (v * r * h)) (λ r. w r *ℤ S (v * r * h))

  opposite_parts : direct_opposite C S n h w v ≡ with_cosine -ℤ with_sine
  opposite_parts = sum_cong n _ _ (λ r k. ring (w r ∷ C (v * r * h) ∷ S (v * r * h) ∷ []) (search quotes depth 40) tt)
      ∙ sum_parts n w (λ r. C (v * r * h)) (λ r. S (v * r * h)) (pos 1) (neg_ℤ (pos 1)) ∙ ring (with_cosine ∷ with_sine ∷ []) (search quotes depth 40) tt

  pub even_part_lem : direct C S n h w v +ℤ direct_opposite C S n h w v ≡ with_cosine +ℤ with_cosine
  even_part_lem = ap₂ ◌+ℤ◌ direct_parts opposite_parts ∙ ring (with_cosine ∷ with_sine ∷ []) (search quotes depth 40) tt

  pub odd_part_lem : direct C S n h w v -ℤ direct_opposite C S n h w v ≡ with_sine +ℤ with_sine
  odd_part_lem = ap₂ ◌-ℤ◌ direct_parts opposite_parts ∙ ring (with_cosine ∷ with_sine ∷ []) (search quotes depth 40) tt

module _ {C S : ℕ → ℤ} (turn : Turning C S) (n h : ℕ) (z : 0 < n) (e : n * h ≡ 1024) (x w : ℕ → ℤ) (v : ℕ) where
  -- one sample's part: the weights moved round by u
  moved : (u : ℕ) → u < n → sum n (λ t. w ((t + n - u) % n) *ℤ cas_of C S (v * t * h))
      ≈ cas_of C S (v * u * h) *ℤ with_cosine C S n h w v +ℤ opposite_of C S (v * u * h) *ℤ with_sine C S n h w v
  moved u l = ≈-sym (sum_shift n F round u) ⊙ ≈-sum n _ _ (λ r k. ≈-times (≈-is (ap w (back r k))) (at (cas_of C S) (angle r) ⊙ cas-sum turn (v * u * h) (v * r * h))) ⊙ ≈-is parts
    where
      j : ℕ
      j = v * u * h

      parts : sum n (λ r. w r *ℤ (cas_of C S j *ℤ C (v * r * h) +ℤ opposite_of C S j *ℤ S (v * r * h))) ≡ cas_of C S j *ℤ with_cosine C S n h w v +ℤ opposite_of C S j *ℤ with_sine C S n h w v
      parts = sum_cong n _ _ (λ r k. ring (w r ∷ cas_of C S j ∷ opposite_of C S j ∷ C (v * r * h) ∷ S (v * r * h) ∷ []) (search quotes depth 40) tt)
          ∙ sum_parts n w (λ r. C (v * r * h)) (λ r. S (v * r * h)) (cas_of C S j) (opposite_of C S j)
          ∙ ring (cas_of C S j ∷ opposite_of C S j ∷ with_cosine C S n h w v ∷ with_sine C S n h w v ∷ []) (search quotes depth 40) tt

      F : ℕ → ℤ
      F t = w ((t + n - u) % n) *ℤ cas_of C S (v * t * h)

      back : (r : ℕ) → r < n → (r + u + n - u) % n ≡ r
      back r k = ap (λ (i : ℕ). i % n) plain ∙ add-mod_right r n ∙ mod-eq_of_lt k
        where
          plain : r + u + n - u ≡ r + n
          plain = omega arith

      angle : (r : ℕ) → v * (r + u) * h ≡ v * u * h + v * r * h
      angle r = omega arith

      round : (i : ℕ) → F (i + n) ≈ F i
      round i = ≈-times (≈-is (ap w (ap (λ (j : ℕ). j % n) more ∙ add-mod_right (i + n - u) n))) (at (cas_of C S) (whole i) ⊙ cas_turns turn (v * i * h) v)
        where
          more : i + n + n - u ≡ i + n - u + n
          more = omega arith

          whole : (i : ℕ) → v * (i + n) * h ≡ v * i * h + v * 1024
          whole i = rw (sym e) (omega arith)

  pub convolved : direct C S n h (cyclic n x w) v ≈ direct C S n h x v *ℤ with_cosine C S n h w v +ℤ direct_opposite C S n h x v *ℤ with_sine C S n h w v
  convolved = ≈-is (sum_exchange n n x (λ u t. w ((t + n - u) % n)) (λ t. cas_of C S (v * t * h))) ⊙ ≈-sum n _ _ (λ u k. ≈-left (x u) (moved u k))
      ⊙ ≈-is (sum_parts n x (λ u. cas_of C S (v * u * h)) (λ u. opposite_of C S (v * u * h)) (with_cosine C S n h w v) (with_sine C S n h w v))
