-- The ring laws of ℤ that the library lacks: the product distributes over the sum, is associative, and carries a sign out.
-- Example: `*ℤ-distl c m k : c *ℤ (m +ℤ k) ≡ c *ℤ m +ℤ c *ℤ k`. Where an equation needs several of them, `ring` (Ring.antt) finds them.
use mathlib.Core.Path.{◌≡◌, refl, sym, ◌∙◌, ap, ap₂}
use Prim.Native.Nat.{zero, suc}
use lib.IntN.{ℤ, pos, negsuc, suc_ℤ, pred_ℤ, neg_ℤ, ◌+ℤ◌, ◌-ℤ◌, ◌*ℤ◌, +ℤ_idl, +ℤ_assoc, +ℤ_comm, suc_ℤ-+ℤ, pred_ℤ-+ℤ, suc_ℤ-*ℤ, pred_ℤ-*ℤ, zero-*ℤ, *ℤ_comm, neg_ℤ-neg_ℤ}

-- ---- induction: from 0, one step up or down at a time

by_steps : (P : ℤ → Type 0) → P (pos zero) → ((m : ℤ) → P m → P (suc_ℤ m)) → ((m : ℤ) → P m → P (pred_ℤ m)) → (m : ℤ) → P m
by_steps P z up down (pos zero) = z
by_steps P z up down (pos (suc n)) = up (pos n) (by_steps P z up down (pos n))
by_steps P z up down (negsuc zero) = down (pos zero) z
by_steps P z up down (negsuc (suc n)) = down (negsuc n) (by_steps P z up down (negsuc n))

-- ---- sums in another order

pub +ℤ-left-comm : (a b c : ℤ) → a +ℤ (b +ℤ c) ≡ b +ℤ (a +ℤ c)
+ℤ-left-comm a b c = sym (+ℤ_assoc a b c) ∙ ap (λ (x : ℤ). x +ℤ c) (+ℤ_comm a b) ∙ +ℤ_assoc b a c

+ℤ-right-comm : (a b c : ℤ) → a +ℤ b +ℤ c ≡ a +ℤ c +ℤ b
+ℤ-right-comm a b c = +ℤ_assoc a b c ∙ ap (λ (x : ℤ). a +ℤ x) (+ℤ_comm b c) ∙ sym (+ℤ_assoc a c b)

-- ---- the product over a sum, with a sign, and of three factors

pub *ℤ-distr : (m k c : ℤ) → (m +ℤ k) *ℤ c ≡ m *ℤ c +ℤ k *ℤ c
*ℤ-distr m k c = by_steps (λ m. (m +ℤ k) *ℤ c ≡ m *ℤ c +ℤ k *ℤ c)
    (rw (+ℤ_idl k, zero-*ℤ c, +ℤ_idl (k *ℤ c)))
    (λ m h. ap (λ (x : ℤ). x *ℤ c) (suc_ℤ-+ℤ m k) ∙ suc_ℤ-*ℤ (m +ℤ k) c ∙ ap (λ (x : ℤ). x +ℤ c) h ∙ +ℤ-right-comm (m *ℤ c) (k *ℤ c) c
    ∙ ap (λ (x : ℤ). x +ℤ k *ℤ c) (sym (suc_ℤ-*ℤ m c)))
    (λ m h. ap (λ (x : ℤ). x *ℤ c) (pred_ℤ-+ℤ m k) ∙ pred_ℤ-*ℤ (m +ℤ k) c ∙ ap (λ (x : ℤ). x -ℤ c) h ∙ +ℤ-right-comm (m *ℤ c) (k *ℤ c) (neg_ℤ c)
    ∙ ap (λ (x : ℤ). x +ℤ k *ℤ c) (sym (pred_ℤ-*ℤ m c)))
    m

pub *ℤ-distl : (c m k : ℤ) → c *ℤ (m +ℤ k) ≡ c *ℤ m +ℤ c *ℤ k
*ℤ-distl c m k = *ℤ_comm c (m +ℤ k) ∙ *ℤ-distr m k c ∙ ap₂ ◌+ℤ◌ (*ℤ_comm m c) (*ℤ_comm k c)

pub negℤ_*ℤ : (m k : ℤ) → neg_ℤ m *ℤ k ≡ neg_ℤ (m *ℤ k)
negℤ_*ℤ (pos zero) k = zero-*ℤ k ∙ ap neg_ℤ (sym (zero-*ℤ k))
negℤ_*ℤ (pos (suc a)) (pos b) = refl
negℤ_*ℤ (pos (suc a)) (negsuc b) = sym (neg_ℤ-neg_ℤ _)
negℤ_*ℤ (negsuc a) (pos b) = sym (neg_ℤ-neg_ℤ _)
negℤ_*ℤ (negsuc a) (negsuc b) = refl

pub *ℤ-assoc : (a b c : ℤ) → (a *ℤ b) *ℤ c ≡ a *ℤ (b *ℤ c)
*ℤ-assoc a b c = by_steps (λ a. (a *ℤ b) *ℤ c ≡ a *ℤ (b *ℤ c))
    (rw (zero-*ℤ b, zero-*ℤ c, zero-*ℤ (b *ℤ c)))
    (λ a h. ap (λ (x : ℤ). x *ℤ c) (suc_ℤ-*ℤ a b) ∙ *ℤ-distr (a *ℤ b) b c ∙ ap (λ (x : ℤ). x +ℤ b *ℤ c) h ∙ sym (suc_ℤ-*ℤ a (b *ℤ c)))
    (λ a h. ap (λ (x : ℤ). x *ℤ c) (pred_ℤ-*ℤ a b) ∙ *ℤ-distr (a *ℤ b) (neg_ℤ b) c ∙ ap₂ ◌+ℤ◌ h (negℤ_*ℤ b c) ∙ sym (pred_ℤ-*ℤ a (b *ℤ c)))
    a
