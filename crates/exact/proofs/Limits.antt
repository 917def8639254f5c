-- The magnitude of a cyclic sum is at most the loudest sample's times the weights' magnitudes added: taken round the cycle from any moment backwards,
-- these add to the same total.
use mathlib.Core.Path.{◌≡◌, refl, sym, ◌∙◌, ap, ap₂}
use mathlib.Core.List.{List}
use Prim.Native.Nat.{ℕ, zero, suc, ◌+◌, ◌*◌, ◌-◌, ◌%◌, ◌^◌, ◌≤◌, ◌<◌}
use native.Mathlib.Nat.{add-zero, zero-add, add-mod_right, mod-eq_of_lt, mul-le-mul_right}
use native.Mathlib.Omega.{arith}
use lib.IntN.{ℤ, nat_abs, ◌*ℤ◌}
use Rattle.ints.specs.Cells.{cell}
use Rattle.ints.specs.Sum.{sum}
use Rattle.ints.proofs.Abs.{abs_plus, abs_times}
use Rattle.kind.specs.Loudness.{LOUDEST_SAMPLE}
use Rattle.exact.specs.Smoothing.{cyclic_sum, running, LARGEST_WEIGHTS}

-- the first n numbers of f added
unfoldable total : ℕ → (ℕ → ℕ) → ℕ
total zero f = 0
total (suc n) f = total n f + f n

running-is_total : (ws : List ℤ) (n : ℕ) → running ws n ≡ total n (λ i. nat_abs (cell ws i))
unfolding running total
running-is_total ws zero = refl
running-is_total ws (suc n) = ap (λ (k : ℕ). k + nat_abs (cell ws n)) (running-is_total ws n)

total_cong : (n : ℕ) (f g : ℕ → ℕ) → ((i : ℕ) → i < n → f i ≡ g i) → total n f ≡ total n g
unfolding total
total_cong zero f g h = refl
total_cong (suc n) f g h = ap₂ ◌+◌ (total_cong n f g (λ i k. h i (omega arith))) (h n (omega arith))

-- the first term apart
total_front : (n : ℕ) (f : ℕ → ℕ) → total (suc n) f ≡ f 0 + total n (λ i. f (suc i))
unfolding total
total_front zero f = omega arith
total_front (suc n) f = omega (arith, total_front n f)

-- in reverse
total_reversed : (n : ℕ) (f : ℕ → ℕ) → total n (λ u. f (n - suc u)) ≡ total n f
total_reversed zero f = unfold total in refl
total_reversed (suc n) f = total_front n (λ u. f (suc n - suc u)) ∙ ap₂ ◌+◌ (ap f last) (total_cong n _ _ (λ i k. ap f (next i)) ∙ total_reversed n f) ∙ unfold total in omega arith
  where
    last : suc n - suc 0 ≡ n
    last = omega arith

    next : (i : ℕ) → suc n - suc (suc i) ≡ n - suc i
    next i = omega arith

-- round the cycle
total_moved : (n : ℕ) (F : ℕ → ℕ) → ((i : ℕ) → F (i + n) ≡ F i) → (u : ℕ) → total n (λ r. F (r + u)) ≡ total n F
unfolding total
total_moved n F h zero = total_cong n _ _ (λ r k. ap F (add-zero r))
total_moved n F h (suc u) = go (total_front n (λ r. F (r + u))) ∙ total_moved n F h u
  where
    again : F (n + u) ≡ F u
    again = ap F (omega arith) ∙ h u

    next : total n (λ r. F (r + suc u)) ≡ total n (λ r. F (suc r + u))
    next = total_cong n _ _ (λ r k. ap F (omega arith))

    go : total (suc n) (λ r. F (r + u)) ≡ F (0 + u) + total n (λ r. F (suc r + u)) → total n (λ r. F (r + suc u)) ≡ total n (λ r. F (r + u))
    go e = next ∙ omega (arith, e, again, ap F (zero-add u))

-- from moment t backwards
total_backwards : (n t : ℕ) (f : ℕ → ℕ) → t < n → total n (λ u. f ((t + n - u) % n)) ≡ total n f
total_backwards n t f l = total_cong n _ _ (λ u k. ap (λ (i : ℕ). f (i % n)) (place u k)) ∙ total_reversed n (λ r. f ((r + suc t) % n))
    ∙ total_moved n (λ i. f (i % n)) (λ i. ap f (add-mod_right i n)) (suc t) ∙ total_cong n _ _ (λ i k. ap f (mod-eq_of_lt k))
  where
    place : (u : ℕ) → u < n → t + n - u ≡ n - suc u + suc t
    place u k = omega arith

-- ---- samples of magnitude B at most, and those within the limits

products : (n B : ℕ) (x y : ℕ → ℤ) → ((u : ℕ) → nat_abs (x u) ≤ B) → nat_abs (sum n (λ u. x u *ℤ y u)) ≤ B * total n (λ u. nat_abs (y u))
unfolding sum total
products zero B x y h = omega arith
products (suc n) B x y h = omega (arith, abs_plus (sum n (λ u. x u *ℤ y u)) (x n *ℤ y n), products n B x y h, abs_times (x n) (y n), mul-le-mul_right (nat_abs (y n)) (h n))

pub cyclic_size : (N B : ℕ) (xs ws : List ℤ) → ((u : ℕ) → nat_abs (cell xs u) ≤ B) → (t : ℕ) → t < N → nat_abs (cyclic_sum N xs ws t) ≤ B * running ws N
unfolding cyclic_sum
cyclic_size N B xs ws h t l = rw (running-is_total ws N, sym (total_backwards N t (λ i. nat_abs (cell ws i)) l)) (products N B (cell xs) (λ u. cell ws ((t + N - u) % N)) h)

pub cyclic_small : (N : ℕ) (xs ws : List ℤ) → ((u : ℕ) → nat_abs (cell xs u) ≤ LOUDEST_SAMPLE) → running ws N ≤ LARGEST_WEIGHTS → (t : ℕ) → t < N → nat_abs (cyclic_sum N xs ws t) < 2 ^ 30
cyclic_small N xs ws h k t l = omega (arith, cyclic_size N LOUDEST_SAMPLE xs ws h t l)
