-- The fine cosines of a quarter: the half-angle law as document 01 has it, with F on both sides, and the two ends.
-- Example: `fine_end : fine 256 ≡ 0`.
use mathlib.Core.Path.{◌≡◌, refl, sym, ◌∙◌, ap, subst}
use mathlib.Core.Bool.{Bool, true, false, not}
use Prim.Native.Nat.{ℕ, zero, suc, ◌+◌, ◌*◌, ◌-◌, ◌^◌, ◌≤◌, ◌<◌}
use native.Mathlib.Nat.{pow-suc}
use native.Mathlib.Omega.{arith}
use borrow.Author.Tests.{ne_eqb, eqb-true, eqb-false}
use lib.Dec.{T, leb, eqb, leb→le, nleb→lt}
use lib.IntN.{pos, neg_ℤ}
use Rattle.cosine.specs.Cosine.{half_turn, half_angle, fine_with, fine}
use Rattle.cosine.proofs.Turn.{half_turn_near, half_turn_far}

pub fine_top : fine 0 ≡ 2 ^ 60
unfolding fine fine_with
fine_top = refl

pub fine_end : fine 256 ≡ 0
unfolding fine fine_with
fine_end = refl

-- ---- d doublings are enough at j where they lead to a multiple of 256

abbrev Leads : ℕ → ℕ → Type 0
Leads d j = (m : ℕ) × (j * 2 ^ d ≡ m * 256)

-- F and G agree where the doubled angle reads them
doubled : (F G : ℕ → ℕ) (d j : ℕ) → j ≤ 256 → Leads (suc d) j → ((k : ℕ) → k ≤ 256 → Leads d k → F k ≡ G k) → half_turn F (2 * j) ≡ half_turn G (2 * j)
doubled F G d j h l same = go (leb (2 * j) 256) (leb→le (2 * j) 256) (nleb→lt (2 * j) 256)
  where
    twice : 2 ^ suc d ≡ 2 ^ d * 2
    twice = pow-suc 2 d

    near : Leads d (2 * j)
    near = (l.0, omega (arith, l.1, ap (λ (x : ℕ). j * x) twice))

    far : 256 < 2 * j → Leads d (512 - 2 * j)
    far k = (2 * 2 ^ d - l.0, rest (512 - 2 * j) (omega arith))
      where
        rest : (k : ℕ) → k + 2 * j ≡ 512 → k * 2 ^ d ≡ (2 * 2 ^ d - l.0) * 256
        rest k e = omega (arith, ap (λ (x : ℕ). x * 2 ^ d) e, l.1, ap (λ (x : ℕ). j * x) twice)

    go : (t : Bool) → (T t → 2 * j ≤ 256) → (T (not t) → 256 < 2 * j) → half_turn F (2 * j) ≡ half_turn G (2 * j)
    go true f g = half_turn_near F (2 * j) (f tt) ∙ ap pos (same (2 * j) (f tt) near) ∙ sym (half_turn_near G (2 * j) (f tt))
    go false f g = half_turn_far F (2 * j) (g tt) ∙ ap (λ (x : ℕ). neg_ℤ (pos x)) (same (512 - 2 * j) (omega (arith, g tt)) (far (g tt))) ∙ sym (half_turn_far G (2 * j) (g tt))

-- ---- the ends of a quarter, and what lies between

ends_or_between : (P : ℕ → Type 0) → P 0 → P 256 → ((j : ℕ) → 0 < j → j < 256 → P j) → (j : ℕ) → j ≤ 256 → P j
ends_or_between P first last inner j h = go (eqb j 0) refl (eqb j 256) refl
  where
    go : (s : Bool) → eqb j 0 ≡ s → (t : Bool) → eqb j 256 ≡ t → P j
    go true e t f = subst P (sym (eqb-true j 0 e)) first
    go false e true f = subst P (sym (eqb-true j 256 f)) last
    go false e false f = inner j (omega (arith, eqb-false j 0 e)) (omega (arith, eqb-false j 256 f))

module _ (b : ℕ) where
  pub at_top : (d : ℕ) → fine_with b d 0 ≡ 2 ^ b
  unfolding fine_with
  at_top zero = refl
  at_top (suc d) = refl

  at_end : (d : ℕ) → fine_with b d 256 ≡ 0
  unfolding fine_with
  at_end zero = refl
  at_end (suc d) = refl

  pub between : (d j : ℕ) → 0 < j → j < 256 → fine_with b (suc d) j ≡ half_angle b (half_turn (fine_with b d) (2 * j))
  unfolding fine_with
  between d j low high = rw (ne_eqb j 0 (λ e. omega arith), ne_eqb j 256 (λ e. omega arith)) refl

  settled : (d j : ℕ) → j ≤ 256 → Leads d j → fine_with b d j ≡ fine_with b (suc d) j
  settled zero = ends_or_between (λ j. Leads 0 j → fine_with b 0 j ≡ fine_with b 1 j)
      (λ l. at_top 0 ∙ sym (at_top 1)) (λ l. at_end 0 ∙ sym (at_end 1)) (λ j low high l. absurd (never j low high l))
    where
      never : (j : ℕ) → 0 < j → j < 256 → Leads 0 j → ⊥
      never j low high l = omega (arith, l.1)
  settled (suc d) = ends_or_between (λ j. Leads (suc d) j → fine_with b (suc d) j ≡ fine_with b (suc (suc d)) j)
      (λ l. at_top (suc d) ∙ sym (at_top (suc (suc d)))) (λ l. at_end (suc d) ∙ sym (at_end (suc (suc d))))
      (λ j low high l. between d j low high
      ∙ ap (half_angle b) (doubled (fine_with b d) (fine_with b (suc d)) d j (omega arith) l (settled d)) ∙ sym (between (suc d) j low high))

  -- the half-angle law with F itself on both sides, at every scale
  pub half_angle_at : (j : ℕ) → 0 < j → j < 256 → fine_with b 8 j ≡ half_angle b (half_turn (fine_with b 8) (2 * j))
  half_angle_at j low high = between 7 j low high ∙ ap (half_angle b) (doubled (fine_with b 7) (fine_with b 8) 7 j (omega arith) (j, refl) (settled 7))

-- document 01's
pub half_angle_lem : (j : ℕ) → 0 < j → j < 256 → fine j ≡ half_angle 60 (half_turn fine (2 * j))
unfolding fine
half_angle_lem = half_angle_at 60
