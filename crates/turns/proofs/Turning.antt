-- The turn by a pair: steps add up as angles do. Half of a full turn is (−1, 0): its square is (1, 0), so it is (1, 0) or (−1, 0), since the modulus
-- is prime, and half of a full turn does not lead back.
use mathlib.Core.Path.{◌≡◌, refl, ap}
use mathlib.Core.List.{[], ◌∷◌}
use mathlib.Core.Logic.{◌⊎◌, ⊎_elim}
use Prim.Native.Nat.{ℕ, zero, suc, ◌+◌, ◌<◌}
use native.Mathlib.Nat.{add-zero, add-suc}
use native.Mathlib.Omega.{arith}
use lib.IntN.{ℤ, pos, neg_ℤ, ◌+ℤ◌, ◌-ℤ◌, ◌*ℤ◌}
use Rattle.ints.proofs.Ring.{ring, quotes}
use Rattle.residues.specs.Residue.{MODULUS, residue}
use Rattle.residues.proofs.Congruent.{◌≈◌, ◌⊙◌, lin₂, ≈-refl, ≈-is, ≈-sym, ≈-plus, ≈-minus, ≈-times, ≈-left, ≈-right}
use Rattle.residues.proofs.Residues.{same_number, residue_≈, residue-lt, of_residues, double_zero}
use Rattle.residues.proofs.Prime.{root_of_zero, root_of_one}
use Rattle.turns.specs.Turn.{Pair, turned, steps, FullTurn, cosine_at, sine_at}

-- what the proofs of the transform use of cosine and sine
pub record Turning (C S : ℕ → ℤ) : Type 0 where
  pub cosine_start : C 0 ≈ pos 1
  pub sine_start : S 0 ≈ pos 0
  pub cosine-sum : (j k : ℕ) → C (j + k) ≈ C j *ℤ C k -ℤ S j *ℤ S k
  pub sine-sum : (j k : ℕ) → S (j + k) ≈ C j *ℤ S k +ℤ S j *ℤ C k
  pub squares : (j : ℕ) → C j *ℤ C j +ℤ S j *ℤ S j ≈ pos 1
  pub cosine-half : C 512 ≈ neg_ℤ (pos 1)
  pub sine-half : S 512 ≈ pos 0

-- congruent residues are the same number
module _ (q : Pair) where
  abbrev C : ℕ → ℤ
  C j = cosine_at q j

  abbrev S : ℕ → ℤ
  S j = sine_at q j

  abbrev c : ℤ
  c = pos q.cosine

  abbrev s : ℤ
  s = pos q.sine

  -- cosine and sine are residues
  pub steps-below : (j : ℕ) → ((steps q j).cosine < MODULUS) × ((steps q j).sine < MODULUS)
  unfolding steps turned
  steps-below zero = (omega arith, omega arith)
  steps-below (suc j) = (residue-lt (C j *ℤ c -ℤ S j *ℤ s), residue-lt (C j *ℤ s +ℤ S j *ℤ c))

  -- ---- one step more, and any number of steps

  cosine_next : (j : ℕ) → C (suc j) ≈ C j *ℤ c -ℤ S j *ℤ s
  unfolding steps turned
  cosine_next j = residue_≈ (C j *ℤ c -ℤ S j *ℤ s)

  sine_next : (j : ℕ) → S (suc j) ≈ C j *ℤ s +ℤ S j *ℤ c
  unfolding steps turned
  sine_next j = residue_≈ (C j *ℤ s +ℤ S j *ℤ c)

  abbrev Sum : ℕ → ℕ → Type 0
  Sum j k = (C (j + k) ≈ C j *ℤ C k -ℤ S j *ℤ S k) × (S (j + k) ≈ C j *ℤ S k +ℤ S j *ℤ C k)

  sum_law : (j k : ℕ) → Sum j k
  sum_law j zero = unfold steps in rw (add-zero j) (≈-is (ring (C j ∷ S j ∷ []) (search quotes depth 40) tt), ≈-is (ring (C j ∷ S j ∷ []) (search quotes depth 40) tt))
  sum_law j (suc k) = rw (add-suc j k) (go (sum_law j k))
    where
      one : (a b e d c s : ℤ) → (a *ℤ e -ℤ b *ℤ d) *ℤ c -ℤ (a *ℤ d +ℤ b *ℤ e) *ℤ s ≡ a *ℤ (e *ℤ c -ℤ d *ℤ s) -ℤ b *ℤ (e *ℤ s +ℤ d *ℤ c)
      one a b e d c s = ring (a ∷ b ∷ e ∷ d ∷ c ∷ s ∷ []) (search quotes depth 40) tt

      two : (a b e d c s : ℤ) → (a *ℤ e -ℤ b *ℤ d) *ℤ s +ℤ (a *ℤ d +ℤ b *ℤ e) *ℤ c ≡ a *ℤ (e *ℤ s +ℤ d *ℤ c) +ℤ b *ℤ (e *ℤ c -ℤ d *ℤ s)
      two a b e d c s = ring (a ∷ b ∷ e ∷ d ∷ c ∷ s ∷ []) (search quotes depth 40) tt

      go : Sum j k → (C (suc (j + k)) ≈ C j *ℤ C (suc k) -ℤ S j *ℤ S (suc k)) × (S (suc (j + k)) ≈ C j *ℤ S (suc k) +ℤ S j *ℤ C (suc k))
      go h = (
        cosine_next (j + k) ⊙ ≈-minus (≈-right h.0 c) (≈-right h.1 s) ⊙ ≈-is (one (C j) (S j) (C k) (S k) c s)
            ⊙ ≈-sym (≈-minus (≈-left (C j) (cosine_next k)) (≈-left (S j) (sine_next k))),
        sine_next (j + k) ⊙ ≈-plus (≈-right h.0 s) (≈-right h.1 c) ⊙ ≈-is (two (C j) (S j) (C k) (S k) c s)
            ⊙ ≈-sym (≈-plus (≈-left (C j) (sine_next k)) (≈-left (S j) (cosine_next k))),
      )

  module _ (full : FullTurn q) where
    unit_≈ : c *ℤ c +ℤ s *ℤ s ≈ pos 1
    unit_≈ = of_residues (unfold residue in full.unit)

    squares_law : (j : ℕ) → C j *ℤ C j +ℤ S j *ℤ S j ≈ pos 1
    squares_law zero = unfold steps in ≈-is refl
    squares_law (suc j) = ≈-plus (≈-times (cosine_next j) (cosine_next j)) (≈-times (sine_next j) (sine_next j)) ⊙ ≈-is (product (C j) (S j) c s)
        ⊙ ≈-times (squares_law j) unit_≈
      where
        product : (a b c s : ℤ) → (a *ℤ c -ℤ b *ℤ s) *ℤ (a *ℤ c -ℤ b *ℤ s) +ℤ (a *ℤ s +ℤ b *ℤ c) *ℤ (a *ℤ s +ℤ b *ℤ c) ≡ (a *ℤ a +ℤ b *ℤ b) *ℤ (c *ℤ c +ℤ s *ℤ s)
        product a b c s = ring (a ∷ b ∷ c ∷ s ∷ []) (search quotes depth 40 fits 20000) tt

    -- ---- half of the turn

    whole-cosine : C 1024 ≈ pos 1
    whole-cosine = ≈-is (ap (λ (x : Pair). pos x.cosine) full.whole)

    half-sine : S 512 ≈ pos 0
    half-sine = root_of_zero (S 512) (double_zero (lin₂ (pos 1) (squares_law 512) (neg_ℤ (pos 1)) (≈-sym (sum_law 512 512).0 ⊙ whole-cosine)
        (ring (C 512 ∷ S 512 ∷ []) (search quotes depth 40 fits 20000) tt)))

    half-cosine : (C 512 ≈ pos 1) ⊎ (C 512 ≈ neg_ℤ (pos 1))
    half-cosine = root_of_one (C 512) (lin₂ (pos 1) (≈-sym (sum_law 512 512).0 ⊙ whole-cosine) (S 512) half-sine (ring (C 512 ∷ S 512 ∷ []) (search quotes depth 40 fits 20000) tt))

    not_one : C 512 ≈ pos 1 → ⊥
    not_one h = full.least 512 (omega arith) (omega arith) (λ i. record {
      cosine = same_number (steps q 512).cosine 1 (steps-below 512).0 (omega arith) h i;
      sine = same_number (steps q 512).sine 0 (steps-below 512).1 (omega arith) half-sine i;
    })

    pub turning : Turning C S
    turning = record {
      cosine_start = unfold steps in ≈-refl;
      sine_start = unfold steps in ≈-refl;
      cosine-sum = λ j k. (sum_law j k).0;
      sine-sum = λ j k. (sum_law j k).1;
      squares = squares_law;
      cosine-half = ⊎_elim (λ h. absurd (not_one h)) (λ h. h) half-cosine;
      sine-half = half-sine;
    }
