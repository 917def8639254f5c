-- Laws of finite sums: term by term, linear, split into even and odd places, and a bound.
-- Example: `sum_abs n B f h : nat_abs (sum n f) ≤ n * B`, with h : (i : ℕ) → i < n → nat_abs (f i) ≤ B.
use mathlib.Core.Path.{◌≡◌, refl, ◌∙◌, ap, ap₂}
use mathlib.Core.List.{[], ◌∷◌}
use Prim.Native.Nat.{ℕ, zero, suc, ◌+◌, ◌*◌, ◌≤◌, ◌<◌}
use native.Mathlib.Omega.{arith}
use lib.IntN.{ℤ, nat_abs, ◌+ℤ◌, ◌*ℤ◌}
use Rattle.ints.specs.Sum.{sum}
use Rattle.ints.proofs.Ring.{ring, quotes}
use Rattle.ints.proofs.Abs.{abs_plus}

-- ---- term by term

pub sum_cong : (n : ℕ) (f g : ℕ → ℤ) → ((i : ℕ) → i < n → f i ≡ g i) → sum n f ≡ sum n g
unfolding sum
sum_cong zero f g h = refl
sum_cong (suc n) f g h = ap₂ ◌+ℤ◌ (sum_cong n f g (λ i k. h i (omega arith))) (h n (omega arith))

-- ---- linear

pub sum_plus : (n : ℕ) (f g : ℕ → ℤ) → sum n (λ i. f i +ℤ g i) ≡ sum n f +ℤ sum n g
unfolding sum
sum_plus zero f g = refl
sum_plus (suc n) f g = ap (λ (z : ℤ). z +ℤ (f n +ℤ g n)) (sum_plus n f g) ∙ ring (sum n f ∷ sum n g ∷ f n ∷ g n ∷ []) (search quotes) tt

pub sum_times : (n : ℕ) (c : ℤ) (f : ℕ → ℤ) → sum n (λ i. c *ℤ f i) ≡ c *ℤ sum n f
unfolding sum
sum_times zero c f = ring (c ∷ []) (search quotes) tt
sum_times (suc n) c f = ap (λ (z : ℤ). z +ℤ c *ℤ f n) (sum_times n c f) ∙ ring (sum n f ∷ f n ∷ c ∷ []) (search quotes) tt

-- ---- even and odd places

pub sum-even_odd : (n : ℕ) (f : ℕ → ℤ) → sum (2 * n) f ≡ sum n (λ i. f (2 * i)) +ℤ sum n (λ i. f (2 * i + 1))
unfolding sum
sum-even_odd zero f = refl
sum-even_odd (suc n) f = ap (λ (k : ℕ). sum k f) two ∙ ap₂ (λ (z w : ℤ). z +ℤ f (2 * n) +ℤ w) (sum-even_odd n f) (ap f one)
    ∙ ring (sum n (λ i. f (2 * i)) ∷ sum n (λ i. f (2 * i + 1)) ∷ f (2 * n) ∷ f (2 * n + 1) ∷ []) (search quotes) tt
  where
    two : 2 * suc n ≡ suc (suc (2 * n))
    two = omega arith

    one : suc (2 * n) ≡ 2 * n + 1
    one = omega arith

-- ---- a bound

pub sum_abs : (n B : ℕ) (f : ℕ → ℤ) → ((i : ℕ) → i < n → nat_abs (f i) ≤ B) → nat_abs (sum n f) ≤ n * B
unfolding sum
sum_abs zero B f h = omega arith
sum_abs (suc n) B f h = omega (arith, abs_plus (sum n f) (f n), sum_abs n B f (λ i k. h i (omega arith)), h n (omega arith))
