-- One pair of halves a and b of n cells: lines v and n + v have the same operands, and half a turn on cosine and sine change their signs.
-- Example: `second-half` says that line n + v is a(v) + R(−(b(v) C + b(n − v) S)), with C and S at line v's step.
use mathlib.Core.Path.{◌≡◌, refl, sym, ◌∙◌, ap}
use mathlib.Core.List.{[], ◌∷◌}
use Prim.Native.Nat.{ℕ, ◌+◌, ◌*◌, ◌-◌, ◌/◌, ◌%◌, ◌<◌}
use native.Mathlib.Nat.{add-zero, mod-eq_of_lt, div-eq_of_lt, mul-add-div_right, mul-add-mod_self_right, add-mod_left, div-eq_of_eq-mul_left}
use native.Mathlib.Omega.{arith}
use lib.IntN.{ℤ, neg_ℤ, ◌+ℤ◌, ◌*ℤ◌}
use Rattle.ints.proofs.Ring.{ring, quotes}
use Rattle.spectrum.specs.Levels.{line, joined}

-- the steps of the turn between neighbouring lines of N: g, where N g is the whole turn
pub whole-steps : (N g a : ℕ) → 0 < N → N * g ≡ 1024 → a * 1024 / N ≡ a * g
whole-steps N g a z e = div-eq_of_eq-mul_left z (ap (λ (x : ℕ). a * x) (sym e) ∙ swap)
  where
    swap : a * (N * g) ≡ a * g * N
    swap = omega arith

module _ (R : ℤ → ℤ) (C S : ℕ → ℤ) (n : ℕ) (some : 0 < n) where
  module _ (a b : ℕ → ℤ) (g : ℕ) (turn : 2 * n * g ≡ 1024) (v : ℕ) (below : v < n) where
    abbrev products : ℤ
    products = b v *ℤ C (v * g) +ℤ b ((n - v) % n) *ℤ S (v * g)

    pub first-half : line R C S n a b v ≡ a v +ℤ R products
    first-half = rw (mod-eq_of_lt below, whole-steps (2 * n) g v (omega arith) turn) refl

    pub second-half : ((j : ℕ) → C (j + 512) ≡ neg_ℤ (C j)) → ((j : ℕ) → S (j + 512) ≡ neg_ℤ (S j)) → line R C S n a b (n + v) ≡ a v +ℤ R (neg_ℤ products)
    second-half hC hS = rw (add-mod_left n v, mod-eq_of_lt below, whole-steps (2 * n) g (n + v) (omega arith) turn, half, hC (v * g), hS (v * g))
        (ap (λ (y : ℤ). a v +ℤ R y) (out (b v) (C (v * g)) (b ((n - v) % n)) (S (v * g))))
      where
        half : (n + v) * g ≡ v * g + 512
        half = omega arith

        out : (b c b' s : ℤ) → b *ℤ neg_ℤ c +ℤ b' *ℤ neg_ℤ s ≡ neg_ℤ (b *ℤ c +ℤ b' *ℤ s)
        out b c b' s = ring (b ∷ c ∷ b' ∷ s ∷ []) (search quotes depth 40) tt

  -- cell i of the pair m is its line i
  pub in_pair : (x : ℕ → ℤ) (m i : ℕ) → i < 2 * n →
      joined R C S n x (m * (2 * n) + i) ≡ line R C S n (λ j. x (m * (2 * n) + j)) (λ j. x (m * (2 * n) + (n + j))) i
  in_pair x m i h = rw (mul-add-mod_self_right m (2 * n) i, mul-add-div_right two m i, div-eq_of_lt h, mod-eq_of_lt h, add-zero m) refl
    where
      two : 0 < 2 * n
      two = omega arith
