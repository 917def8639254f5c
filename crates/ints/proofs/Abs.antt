-- The absolute value, a natural number. Example: `abs_plus a b : nat_abs (a +ℤ b) ≤ nat_abs a + nat_abs b`.
-- For `omega` a value |z| is what `abs_fact Γ z (search quotes)` says of it; Γ lists the atoms of z, as for `ring`.
use mathlib.Core.Path.{◌≡◌, refl, sym, ◌∙◌, ap}
use mathlib.Core.List.{List, [], ◌∷◌}
use Prim.Native.Nat.{ℕ, suc, ◌+◌, ◌*◌, ◌≤◌, min}
use native.Mathlib.Omega.{arith}
use lib.IntN.{ℤ, pos, negsuc, neg_ℤ, nat_abs, ◌+ℤ◌, ◌-ℤ◌, ◌*ℤ◌}
use Rattle.ints.proofs.Ring.{Built, ring, quotes, normal}
use Rattle.ints.proofs.Order.{◌≼◌, pos_inj, gained, lost, built_parts, le_goal}

-- ---- for `omega`: |P − M| is P + M less twice the smaller

of_parts : (z : ℤ) (P M : ℕ) → pos P ≡ z +ℤ pos M → nat_abs z + (min P M + min P M) ≡ P + M
of_parts (pos n) P M h = omega (arith, pos_inj h)
of_parts (negsuc n) P M h = omega (arith, pos_inj g)
  where
    out : (x m : ℤ) → m ≡ x +ℤ (neg_ℤ x +ℤ m)
    out x m = ring (x ∷ m ∷ []) (search quotes) tt

    g : pos M ≡ pos (suc n + P)
    g = out (pos (suc n)) (pos M) ∙ ap (λ (z : ℤ). pos (suc n) +ℤ z) (sym h)

pub abs_fact : (Γ : List ℤ) (z : ℤ) (q : Built Γ z) → let P = gained Γ (normal q) in let M = lost Γ (normal q) in nat_abs z + (min P M + min P M) ≡ P + M
abs_fact Γ z q = of_parts z (gained Γ (normal q)) (lost Γ (normal q)) (built_parts Γ q)

-- ---- of a negative, a sum, a difference and a product

pub abs_neg : (a : ℤ) → nat_abs (neg_ℤ a) ≡ nat_abs a
abs_neg a = let Γ = a ∷ [] in omega (arith, abs_fact Γ a (search quotes), abs_fact Γ (neg_ℤ a) (search quotes))

pub abs_plus : (a b : ℤ) → nat_abs (a +ℤ b) ≤ nat_abs a + nat_abs b
abs_plus a b = let Γ = a ∷ b ∷ [] in
    omega (arith, abs_fact Γ a (search quotes), abs_fact Γ b (search quotes), abs_fact Γ (a +ℤ b) (search quotes))

pub abs_minus : (a b : ℤ) → nat_abs (a -ℤ b) ≤ nat_abs a + nat_abs b
abs_minus a b = omega (arith, abs_plus a (neg_ℤ b), abs_neg b)

pub abs_times : (a b : ℤ) → nat_abs (a *ℤ b) ≡ nat_abs a * nat_abs b
abs_times (pos a) (pos b) = refl
abs_times (pos a) (negsuc b) = abs_neg (pos (a * suc b))
abs_times (negsuc a) (pos b) = abs_neg (pos (suc a * b))
abs_times (negsuc a) (negsuc b) = refl

-- ---- |z| ≤ n, as two orders

pub abs_upper : {z : ℤ} {n : ℕ} → nat_abs z ≤ n → z ≼ pos n
abs_upper {z} {n} h = let Γ = z ∷ pos n ∷ [] in le_goal Γ (search quotes) (omega (arith, abs_fact Γ z (search quotes)))

pub abs_lower : {z : ℤ} {n : ℕ} → nat_abs z ≤ n → neg_ℤ (pos n) ≼ z
abs_lower {z} {n} h = let Γ = z ∷ pos n ∷ [] in le_goal Γ (search quotes) (omega (arith, abs_fact Γ z (search quotes)))

-- ---- |z| = 0

pub abs_zero : (z : ℤ) → nat_abs z ≤ 0 → z ≡ pos 0
abs_zero (pos n) h = ap pos (omega arith)
abs_zero (negsuc n) h = absurd (never n h)
  where
    never : (n : ℕ) → suc n ≤ 0 → ⊥
    never n h = omega arith
