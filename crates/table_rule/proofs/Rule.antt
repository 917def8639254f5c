-- The rule as the two functions have it, over any number of places b: what each test of theirs means, and the sizes.
-- Example: `beyond b d j h : 0 ≡ fine_with b d j`, with h : 256 ≤ j.
use mathlib.Core.Path.{◌≡◌, refl, sym, ◌∙◌, ap, subst}
use mathlib.Core.Bool.{Bool, true, false, cond}
use mathlib.Core.List.{[], ◌∷◌}
use Prim.Native.Nat.{ℕ, zero, suc, ◌+◌, ◌*◌, ◌-◌, ◌^◌, ◌≤◌, ◌<◌}
use native.Mathlib.Nat.{le_trans, lt_of_not-le, le_of_suc-le-suc, mul-le-mul, mul-le-mul_right}
use native.Mathlib.Numerals.{add-one}
use native.Mathlib.Omega.{arith}
use borrow.Author.Tests.{ne_eqb}
use lib.Dec.{leb, eqb}
use lib.IntN.{ℤ, pos, neg_ℤ, nat_abs, ◌+ℤ◌, ◌*ℤ◌}
use Rattle.ints.proofs.Abs.{abs_plus, abs_neg, abs_times}
use Rattle.ints.proofs.Powers.{two_pow_pred}
use Rattle.ints.proofs.Ring.{ring, quotes}
use Rattle.cosine.specs.Root.{root}
use Rattle.cosine.specs.Cosine.{away, cosine, half_angle, half_turn, fine_with}
use Rattle.cosine.proofs.Root.{root-holds, root_is}
use Rattle.cosine.proofs.Turn.{half_turn_far, cosine-half_turn}
use Rattle.cosine.proofs.HalfAngle.{at_top, between}

-- ---- the tests of the quarter's cosine

cond_none : (t : Bool) (x : ℕ) → x ≡ 0 → cond t 0 x ≡ 0
cond_none true x e = refl
cond_none false x e = e

gone : (x y : ℤ) → (x +ℤ neg_ℤ x) *ℤ y ≡ pos 0
gone x y = ring (x ∷ y ∷ []) (search quotes depth 40) tt

module _ (b : ℕ) where
  pub top : (d j : ℕ) → j ≡ 0 → 2 ^ b ≡ fine_with b d j
  top d j e = rw e (sym (at_top b d))

  halved-away : (F : ℕ → ℕ) (j : ℕ) → F 0 ≡ 2 ^ b → 256 ≤ j → half_angle b (half_turn F (2 * j)) ≡ 0
  halved-away F j e h =
      ap (half_angle b) (half_turn_far F (2 * j) (omega arith) ∙ ap (λ (k : ℕ). neg_ℤ (pos (F k))) none ∙ ap (λ (x : ℕ). neg_ℤ (pos x)) e)
      ∙ ap (λ (z : ℤ). root (nat_abs z)) (gone (pos (2 ^ b)) (pos (2 ^ (b - 1)))) ∙ root_is 0 0 (omega arith) (omega arith)
    where
      none : 512 - 2 * j ≡ 0
      none = omega arith

  pub beyond : (d j : ℕ) → 256 ≤ j → 0 ≡ fine_with b d j
  unfolding fine_with
  beyond zero j h = rw (ne_eqb j 0 (λ e. omega arith)) refl
  beyond (suc d) j h = rw (ne_eqb j 0 (λ e. omega arith)) (sym (cond_none (eqb j 256) _ (halved-away (fine_with b d) j (at_top b d) h)))

  pub spent : (d j : ℕ) → 0 < j → d ≡ 0 → 0 ≡ fine_with b d j
  unfolding fine_with
  spent d j h e = rw (e, ne_eqb j 0 (λ k. omega arith)) refl

  -- from the whole turn's cosine at i, twice the angle, with e doublings left, one less
  pub inside : (d e j i : ℕ) → 0 < j → j < 256 → d ≡ e + 1 → i ≡ 2 * j → half_angle b (cosine (fine_with b e) i) ≡ fine_with b d j
  inside d e j i low high h k = rw (h, add-one e, k) (ap (half_angle b) (cosine-half_turn (fine_with b e) (2 * j) (omega arith)) ∙ sym (between b e j low high))

-- ---- no cosine is larger than the scale

root-le : (x n : ℕ) → x ≤ n * n → root x ≤ n
root-le x n h = le_of_suc-le-suc (lt_of_not-le (λ (g : suc n ≤ root x). over (le_trans (mul-le-mul g g) (le_trans (root-holds x).low h))))
  where
    over : suc n * suc n ≤ n * n → ⊥
    over k = omega arith

cond_le : (t : Bool) (x y n : ℕ) → x ≤ n → y ≤ n → cond t x y ≤ n
cond_le true x y n h k = h
cond_le false x y n h k = k

half_turn_le : (F : ℕ → ℕ) (n : ℕ) → ((j : ℕ) → F j ≤ n) → (k : ℕ) → nat_abs (half_turn F k) ≤ n
unfolding half_turn
half_turn_le F n h k = go (leb k 256)
  where
    go : (t : Bool) → nat_abs (elim t [ true ↦ pos (F k) | false ↦ neg_ℤ (pos (F (512 - k))) ]) ≤ n
    go true = h k
    go false = rw abs_neg (h (512 - k))

module _ (b : ℕ) (some : 0 < b) where
  -- the number whose root is taken, and its room
  pub radicand : (G : ℤ) → nat_abs ((pos (2 ^ b) +ℤ G) *ℤ pos (2 ^ (b - 1))) ≡ nat_abs (pos (2 ^ b) +ℤ G) * 2 ^ (b - 1)
  radicand G = abs_times (pos (2 ^ b) +ℤ G) (pos (2 ^ (b - 1)))

  half_angle_le : (G : ℤ) → nat_abs G ≤ 2 ^ b → half_angle b G ≤ 2 ^ b
  half_angle_le G h = root-le _ (2 ^ b) (subst (λ (x : ℕ). x ≤ 2 ^ b * 2 ^ b) (sym (radicand G)) (room (2 ^ b) (2 ^ (b - 1)) (nat_abs (pos (2 ^ b) +ℤ G)) (two_pow_pred b some) (omega (arith, abs_plus (pos (2 ^ b)) G))))
    where
      room : (u v a : ℕ) → u ≡ 2 * v → a ≤ 2 * u → a * v ≤ u * u
      room u v a e k = le_trans (mul-le-mul_right v k) (omega (arith, ap (λ (x : ℕ). u * x) e))

  pub fine_le : (d j : ℕ) → fine_with b d j ≤ 2 ^ b
  unfolding fine_with
  fine_le zero j = cond_le (eqb j 0) (2 ^ b) 0 (2 ^ b) (omega arith) (omega arith)
  fine_le (suc d) j = let next = half_turn (fine_with b d) (2 * j) in
      cond_le (eqb j 0) (2 ^ b) _ (2 ^ b) (omega arith)
      (cond_le (eqb j 256) 0 (half_angle b next) (2 ^ b) (omega arith) (half_angle_le next (half_turn_le (fine_with b d) (2 ^ b) (fine_le d) (2 * j))))

  pub turn_le : (d step : ℕ) → nat_abs (cosine (fine_with b d) step) ≤ 2 ^ b
  unfolding cosine
  turn_le d step = half_turn_le (fine_with b d) (2 ^ b) (fine_le d) (away step)
