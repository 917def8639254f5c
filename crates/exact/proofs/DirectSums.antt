-- Direct sums modulo 2^31 − 1: with n h = 1,024, line v of the n samples x is the sum of sample(t) × cas(v t h). Lines repeat after n, the mirror
-- line has the opposite angles, and the sum of 2n samples comes from those of its even and odd moments by the level rule, exactly.
use mathlib.Core.Path.{◌≡◌, sym, ◌∙◌, ap}
use mathlib.Core.List.{[], ◌∷◌}
use Prim.Native.Nat.{ℕ, zero, suc, ◌+◌, ◌*◌, ◌/◌, ◌%◌, ◌<◌}
use native.Mathlib.Omega.{arith}
use lib.IntN.{ℤ, ◌+ℤ◌, ◌*ℤ◌}
use Rattle.ints.specs.Sum.{sum}
use Rattle.ints.proofs.Ring.{ring, quotes}
use Rattle.ints.proofs.Sums.{sum_cong, sum-even_odd}
use Rattle.spectrum.proofs.DirectSplit.{same_angle, mirror, with_mirror}
use Rattle.residues.proofs.Congruent.{◌≈◌, ◌⊙◌, ≈-is, ≈-sym, ≈-plus, ≈-left, ≈-sum}
use Rattle.turns.proofs.Turning.{Turning}
use Rattle.turns.proofs.Angles.{cas_of, opposite_of, at, cas_turns, cas-opposite, cas-sum}

module _ (C S : ℕ → ℤ) (n h : ℕ) (x : ℕ → ℤ) where
  abbrev pub direct : ℕ → ℤ
  direct v = sum n (λ t. x t *ℤ cas_of C S (v * t * h))

  abbrev pub direct_opposite : ℕ → ℤ
  direct_opposite v = sum n (λ t. x t *ℤ opposite_of C S (v * t * h))

-- a sum of a(t) times f(t) p + g(t) q, with fixed p and q
pub sum_parts : (n : ℕ) (a f g : ℕ → ℤ) (p q : ℤ) → sum n (λ t. a t *ℤ (f t *ℤ p +ℤ g t *ℤ q)) ≡ sum n (λ t. a t *ℤ f t) *ℤ p +ℤ sum n (λ t. a t *ℤ g t) *ℤ q
unfolding sum
sum_parts zero a f g p q = ring (p ∷ q ∷ []) (search quotes depth 40) tt
sum_parts (suc n) a f g p q = ap (λ (z : ℤ). z +ℤ a n *ℤ (f n *ℤ p +ℤ g n *ℤ q)) (sum_parts n a f g p q)
    ∙ ring (sum n (λ t. a t *ℤ f t) ∷ sum n (λ t. a t *ℤ g t) ∷ a n ∷ f n ∷ g n ∷ p ∷ q ∷ []) (search quotes depth 40 fits 20000) tt

module _ {C S : ℕ → ℤ} (turn : Turning C S) where
  module _ (n h : ℕ) (z : zero < n) (e : n * h ≡ 1024) (x : ℕ → ℤ) (v : ℕ) where
    pub line-within : direct C S n h x (v % n) ≈ direct C S n h x v
    line-within = ≈-sum n _ _ (λ t k. ≈-left (x t) (≈-sym (at (cas_of C S) (same_angle n h v t e) ⊙ cas_turns turn (v % n * t * h) (v / n * t))))

    pub line_mirror : direct C S n h x (mirror n v) ≈ direct_opposite C S n h x v
    line_mirror = go (with_mirror n v z)
      where
        go : (m : ℕ) × (mirror n v + v ≡ m * n) → direct C S n h x (mirror n v) ≈ direct_opposite C S n h x v
        go m = ≈-sum n _ _ (λ t k. ≈-left (x t) (cas-opposite turn (mirror n v * t * h) (v * t * h) (m.0 * t) (turns t)))
          where
            turns : (t : ℕ) → mirror n v * t * h + v * t * h ≡ m.0 * t * 1024
            turns t = rw (sym e) (omega (arith, ap (λ (y : ℕ). y * (t * h)) m.1))

  -- ---- even and odd moments

  pub direct_split : (n g : ℕ) (x : ℕ → ℤ) (v : ℕ) →
      direct C S (2 * n) g x v ≈ direct C S n (2 * g) (λ u. x (2 * u)) v
      +ℤ (direct C S n (2 * g) (λ u. x (2 * u + 1)) v *ℤ C (v * g) +ℤ direct_opposite C S n (2 * g) (λ u. x (2 * u + 1)) v *ℤ S (v * g))
  direct_split n g x v = ≈-is (sum-even_odd n (λ t. x t *ℤ cas_of C S (v * t * g)))
      ⊙ ≈-plus (≈-is (sum_cong n _ _ (λ u k. ap (λ (j : ℕ). x (2 * u) *ℤ cas_of C S j) (even u))))
      (≈-sum n _ _ (λ u k. ≈-left (x (2 * u + 1)) (at (cas_of C S) (odd u) ⊙ cas-sum turn (v * u * (2 * g)) (v * g)))
      ⊙ ≈-is (sum_parts n (λ u. x (2 * u + 1)) (λ u. cas_of C S (v * u * (2 * g))) (λ u. opposite_of C S (v * u * (2 * g))) (C (v * g)) (S (v * g))))
    where
      even : (u : ℕ) → v * (2 * u) * g ≡ v * u * (2 * g)
      even u = omega arith

      odd : (u : ℕ) → v * (2 * u + 1) * g ≡ v * u * (2 * g) + v * g
      odd u = omega arith
