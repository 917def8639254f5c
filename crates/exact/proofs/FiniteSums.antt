-- Laws of finite sums: exchanged and in two halves; and modulo 2^31 − 1 of zeros, of ones, picked, and shifted round a cycle.
use mathlib.Core.Path.{◌≡◌, refl, sym, ◌∙◌, ap}
use mathlib.Core.List.{[], ◌∷◌}
use Prim.Native.Nat.{ℕ, zero, suc, ◌+◌, ◌<◌}
use native.Mathlib.Nat.{add-zero, add-suc, zero-add}
use native.Mathlib.Decide.{dec_lt}
use native.Mathlib.Omega.{arith}
use lib.IntN.{ℤ, pos, ◌+ℤ◌, ◌-ℤ◌, ◌*ℤ◌, +ℤ_idr, +ℤ_assoc}
use Rattle.ints.specs.Sum.{sum}
use Rattle.ints.proofs.Ring.{ring, quotes}
use Rattle.ints.proofs.Sums.{sum_cong}
use Rattle.residues.proofs.Congruent.{◌≈◌, ◌⊙◌, lin₂, ≈-refl, ≈-is, ≈-plus}

-- ---- the order of two sums

sum_out : (n : ℕ) (x A B : ℕ → ℤ) (b : ℤ) → sum n (λ u. x u *ℤ A u) +ℤ sum n (λ u. x u *ℤ B u) *ℤ b ≡ sum n (λ u. x u *ℤ (A u +ℤ B u *ℤ b))
unfolding sum
sum_out zero x A B b = ring (b ∷ []) (search quotes depth 40) tt
sum_out (suc n) x A B b = ring (sum n (λ u. x u *ℤ A u) ∷ sum n (λ u. x u *ℤ B u) ∷ x n ∷ A n ∷ B n ∷ b ∷ []) (search quotes depth 40 fits 20000) tt
    ∙ ap (λ (z : ℤ). z +ℤ x n *ℤ (A n +ℤ B n *ℤ b)) (sum_out n x A B b)

sum_none : (n : ℕ) (x : ℕ → ℤ) → pos 0 ≡ sum n (λ u. x u *ℤ pos 0)
unfolding sum
sum_none zero x = refl
sum_none (suc n) x = ring (x n ∷ []) (search quotes depth 40) tt ∙ ap (λ (z : ℤ). z +ℤ x n *ℤ pos 0) (sum_none n x)

pub sum_exchange : (m n : ℕ) (x : ℕ → ℤ) (a : ℕ → ℕ → ℤ) (b : ℕ → ℤ) →
    sum m (λ t. sum n (λ u. x u *ℤ a u t) *ℤ b t) ≡ sum n (λ u. x u *ℤ sum m (λ t. a u t *ℤ b t))
unfolding sum
sum_exchange zero n x a b = sum_none n x
sum_exchange (suc m) n x a b = ap (λ (z : ℤ). z +ℤ sum n (λ u. x u *ℤ a u m) *ℤ b m) (sum_exchange m n x a b)
    ∙ sum_out n x (λ u. sum m (λ t. a u t *ℤ b t)) (λ u. a u m) (b m)

-- ---- two halves

pub sum-halves : (m n : ℕ) (f : ℕ → ℤ) → sum (m + n) f ≡ sum m f +ℤ sum n (λ i. f (m + i))
unfolding sum
sum-halves m zero f = ap (λ (k : ℕ). sum k f) (add-zero m) ∙ sym (+ℤ_idr (sum m f))
sum-halves m (suc n) f = ap (λ (k : ℕ). sum k f) (add-suc m n) ∙ ap (λ (z : ℤ). z +ℤ f (m + n)) (sum-halves m n f) ∙ +ℤ_assoc (sum m f) (sum n (λ i. f (m + i))) (f (m + n))

-- ---- terms that are 0 or 1, and all but one of them 0

pub sum_zeros : (n : ℕ) (f : ℕ → ℤ) → ((i : ℕ) → i < n → f i ≈ pos 0) → sum n f ≈ pos 0
unfolding sum
sum_zeros zero f h = ≈-refl
sum_zeros (suc n) f h = ≈-plus (sum_zeros n f (λ i k. h i (omega arith))) (h n (omega arith))

pub sum_ones : (n : ℕ) (f : ℕ → ℤ) → ((i : ℕ) → f i ≈ pos 1) → sum n f ≈ pos n
unfolding sum
sum_ones zero f h = ≈-refl
sum_ones (suc n) f h = ≈-plus (sum_ones n f h) (h n) ⊙ ≈-is (ap pos (omega arith))

pub sum_pick : (n t : ℕ) (f : ℕ → ℤ) → t < n → ((u : ℕ) → u < n → ¬ (u ≡ t) → f u ≈ pos 0) → sum n f ≈ f t
unfolding sum
sum_pick zero t f l h = absurd (omega arith)
sum_pick (suc n) t f l h = go (dec_lt t n) (sum_pick n t f)
  where
    go : Dec (t < n) → (t < n → ((u : ℕ) → u < n → ¬ (u ≡ t) → f u ≈ pos 0) → sum n f ≈ f t) → sum (suc n) f ≈ f t
    go (yes k) rec = ≈-plus (rec k (λ u j. h u (omega arith))) (h n (omega arith) (omega arith)) ⊙ ≈-is (+ℤ_idr (f t))
    go (no k) rec = ≈-plus (sum_zeros n f (λ u j. h u (omega arith) (omega arith))) (≈-is (ap f last)) ⊙ ≈-is (ring (f t ∷ []) (search quotes) tt)
      where
        last : n ≡ t
        last = omega arith

-- ---- round a cycle

shift_one : (n : ℕ) (G : ℕ → ℤ) → sum n (λ r. G (suc r)) +ℤ G 0 ≡ sum n G +ℤ G n
unfolding sum
shift_one zero G = refl
shift_one (suc n) G = ring (sum n (λ r. G (suc r)) ∷ G (suc n) ∷ G 0 ∷ []) (search quotes depth 40) tt ∙ ap (λ (z : ℤ). z +ℤ G (suc n)) (shift_one n G)

pub sum_shift : (n : ℕ) (F : ℕ → ℤ) → ((i : ℕ) → F (i + n) ≈ F i) → (u : ℕ) → sum n (λ r. F (r + u)) ≈ sum n F
sum_shift n F h zero = ≈-is (sum_cong n _ _ (λ r k. ap F (add-zero r)))
sum_shift n F h (suc u) = lin₂ (pos 1) (≈-is (shift_one n G)) (pos 1) back (by_terms (sum n (λ r. F (r + suc u))) (sum n (λ r. G (suc r))) (G 0) (sum n G) (G n) same) ⊙ sum_shift n F h u
  where
    G : ℕ → ℤ
    G r = F (r + u)

    same : sum n (λ r. F (r + suc u)) ≡ sum n (λ r. G (suc r))
    same = sum_cong n _ _ (λ r k. ap F (omega arith))

    back : G n ≈ G 0
    back = ≈-is (ap F (omega arith)) ⊙ h u ⊙ ≈-is (ap F (sym (zero-add u)))

    by_terms : (a b g s e : ℤ) → a ≡ b → a -ℤ s ≡ pos 1 *ℤ (b +ℤ g -ℤ (s +ℤ e)) +ℤ pos 1 *ℤ (e -ℤ g)
    by_terms a b g s e h = rw h (ring (b ∷ g ∷ s ∷ e ∷ []) (search quotes depth 40) tt)
