-- The whole turn of a quarter F: its periods and symmetries, and, where F 256 = 0, what a quarter turn more does.
-- Example: `cosine_quarter F end j : cosine F (j + 256) ≡ neg_ℤ (sine F j)`, with end : F 256 ≡ 0.
use mathlib.Core.Path.{◌≡◌, refl, sym, ◌∙◌, ap, subst}
use mathlib.Core.Bool.{Bool, true, false, not}
use Prim.Native.Nat.{ℕ, zero, suc, ◌+◌, ◌*◌, ◌-◌, ◌/◌, ◌%◌, ◌≤◌, ◌<◌, min}
use native.Mathlib.Nat.{add-mul-mod_self_right, mod-add-mod, mod-lt}
use native.Mathlib.Omega.{arith}
use lib.Dec.{T, leb, ltb, leb→le, nleb→lt, le→leb, ltb→lt, nltb→le}
use lib.IntN.{ℤ, pos, neg_ℤ, neg_ℤ-neg_ℤ}
use Rattle.ints.specs.Tabulate.{tabulate}
use Rattle.ints.proofs.Tables.{get_d_tabulate}
use Rattle.cosine.specs.Cosine.{entries, half_turn, away, cosine, sine}

-- ---- the way to the nearest whole turn

away-even : (i j m : ℕ) → i + j ≡ m * 1024 → away i ≡ away j
away-even i j m e = go (m - (i / 1024 + j / 1024)) (i % 1024) (j % 1024) (mod-lt i (omega arith)) (mod-lt j (omega arith)) (omega arith)
  where
    go : (w a b : ℕ) → a < 1024 → b < 1024 → a + b ≡ w * 1024 → min a (1024 - a) ≡ min b (1024 - b)
    go zero a b ha hb f = omega arith
    go (suc zero) a b ha hb f = omega arith
    go (suc (suc w)) a b ha hb f = omega arith

away-half : (j : ℕ) → away (j + 512) ≡ 512 - away j
away-half j = rw (sym (mod-add-mod j 1024 512)) (go (j % 1024) (mod-lt j (omega arith)) (ltb (j % 1024) 512) (ltb→lt (j % 1024) 512) (nltb→le (j % 1024) 512))
  where
    low : (r : ℕ) → r < 512 → (r + 512) % 1024 ≡ r + 512
    low r h = omega arith

    high : (r : ℕ) → 512 ≤ r → r < 1024 → (r + 512) % 1024 ≡ r - 512
    high r h k = omega arith

    go : (r : ℕ) → r < 1024 → (t : Bool) → (T t → r < 512) → (T (not t) → 512 ≤ r) → min ((r + 512) % 1024) (1024 - (r + 512) % 1024) ≡ 512 - min r (1024 - r)
    go r h true f g = rw (low r (f tt)) (omega (arith, f tt))
    go r h false f g = rw (high r (g tt) h) (omega (arith, g tt))

-- ---- for every quarter

module _ (F : ℕ → ℕ) where
  pub half_turn_near : (k : ℕ) → k ≤ 256 → half_turn F k ≡ pos (F k)
  unfolding half_turn
  half_turn_near k h = go (leb k 256) (le→leb k 256 h)
    where
      go : (t : Bool) → T t → elim t [ true ↦ pos (F k) | false ↦ neg_ℤ (pos (F (512 - k))) ] ≡ pos (F k)
      go true t = refl
      go false t = absurd t

  pub half_turn_far : (k : ℕ) → 256 < k → half_turn F k ≡ neg_ℤ (pos (F (512 - k)))
  unfolding half_turn
  half_turn_far k h = go (leb k 256) (leb→le k 256)
    where
      never : k ≤ 256 → ⊥
      never l = omega arith

      go : (t : Bool) → (T t → k ≤ 256) → elim t [ true ↦ pos (F k) | false ↦ neg_ℤ (pos (F (512 - k))) ] ≡ neg_ℤ (pos (F (512 - k)))
      go true f = absurd (never (f tt))
      go false f = refl

  -- the cosine at a step that is k steps from the nearest whole turn, by the quarter's at i: in the first quarter, and in the second
  module _ (step k i : ℕ) (e : k ≡ away step) where
    pub cosine_near : k ≤ 256 → i ≡ k → pos (F i) ≡ cosine F step
    unfolding cosine
    cosine_near h j = ap (λ (x : ℕ). pos (F x)) j ∙ sym (half_turn_near k h) ∙ ap (half_turn F) e

    pub cosine_far : 256 < k → i ≡ 512 - k → neg_ℤ (pos (F i)) ≡ cosine F step
    unfolding cosine
    cosine_far h j = ap (λ (x : ℕ). neg_ℤ (pos (F x))) j ∙ sym (half_turn_far k h) ∙ ap (half_turn F) e

  pub cosine_periodic : (j m : ℕ) → cosine F (j + m * 1024) ≡ cosine F j
  unfolding cosine
  cosine_periodic j m = ap (λ (r : ℕ). half_turn F (min r (1024 - r))) (add-mul-mod_self_right j m 1024)

  pub sine_periodic : (j m : ℕ) → sine F (j + m * 1024) ≡ sine F j
  unfolding sine
  sine_periodic j m = ap (cosine F) (swap j (m * 1024)) ∙ cosine_periodic (j + 768) m
    where
      swap : (j x : ℕ) → j + x + 768 ≡ j + 768 + x
      swap j x = omega arith

  pub cosine-even : (i j m : ℕ) → i + j ≡ m * 1024 → cosine F i ≡ cosine F j
  unfolding cosine
  cosine-even i j m e = ap (half_turn F) (away-even i j m e)

  pub cosine-half_turn : (k : ℕ) → k ≤ 512 → cosine F k ≡ half_turn F k
  unfolding cosine
  cosine-half_turn k h = ap (half_turn F) same
    where
      same : away k ≡ k
      same = omega arith

  pub cosine-first : (i : ℕ) → i ≤ 256 → cosine F i ≡ pos (F i)
  cosine-first i h = cosine-half_turn i (omega arith) ∙ half_turn_near i h

  pub sine-first : (i : ℕ) → i ≤ 256 → sine F i ≡ pos (F (256 - i))
  unfolding sine cosine
  sine-first i h = ap (half_turn F) same ∙ half_turn_near (256 - i) (omega arith)
    where
      same : away (i + 768) ≡ 256 - i
      same = omega arith

-- ---- what holds of the numbers of two quarters, and then of their negatives, holds over their turns

module _ (F G : ℕ → ℕ) (P : ℤ → ℤ → Type 0) (turned : (a b : ℤ) → P a b → P (neg_ℤ a) (neg_ℤ b)) (held : (j : ℕ) → j ≤ 256 → P (pos (F j)) (pos (G j))) where
  over_half : (k : ℕ) → k ≤ 512 → P (half_turn F k) (half_turn G k)
  over_half k h = go (leb k 256) (leb→le k 256) (nleb→lt k 256)
    where
      go : (t : Bool) → (T t → k ≤ 256) → (T (not t) → 256 < k) → P (half_turn F k) (half_turn G k)
      go true f g = rw (half_turn_near F k (f tt), half_turn_near G k (f tt)) (held k (f tt))
      go false f g = rw (half_turn_far F k (g tt), half_turn_far G k (g tt)) (turned _ _ (held (512 - k) (omega (arith, g tt))))

  pub over_cosine : (j : ℕ) → P (cosine F j) (cosine G j)
  unfolding cosine
  over_cosine j = over_half (away j) (omega arith)

  pub over_sine : (j : ℕ) → P (sine F j) (sine G j)
  unfolding sine
  over_sine j = over_cosine (j + 768)

-- two quarters that agree make the same turn
module _ (F G : ℕ → ℕ) (same : (j : ℕ) → j ≤ 256 → F j ≡ G j) where
  pub cosine_cong : (j : ℕ) → cosine F j ≡ cosine G j
  cosine_cong = over_cosine F G (λ a b. a ≡ b) (λ a b. ap neg_ℤ) (λ j h. ap pos (same j h))

  pub sine_cong : (j : ℕ) → sine F j ≡ sine G j
  sine_cong = over_sine F G (λ a b. a ≡ b) (λ a b. ap neg_ℤ) (λ j h. ap pos (same j h))

-- so a quarter may be listed
pub listed : (F : ℕ → ℕ) (j : ℕ) → j ≤ 256 → entries (tabulate 257 F) j ≡ F j
listed F j h = get_d_tabulate 257 F 0 j (omega arith)

pub cosine-listed : (F : ℕ → ℕ) (j : ℕ) → cosine (entries (tabulate 257 F)) j ≡ cosine F j
cosine-listed F = cosine_cong (entries (tabulate 257 F)) F (listed F)

pub sine-listed : (F : ℕ → ℕ) (j : ℕ) → sine (entries (tabulate 257 F)) j ≡ sine F j
sine-listed F = sine_cong (entries (tabulate 257 F)) F (listed F)

-- ---- for a quarter that ends in 0

module _ (F : ℕ → ℕ) (end : F 256 ≡ 0) where
  half_turn_odd : (k : ℕ) → k ≤ 512 → half_turn F (512 - k) ≡ neg_ℤ (half_turn F k)
  half_turn_odd k h = go (ltb k 256) (ltb→lt k 256) (nltb→le k 256) (ltb 256 k) (ltb→lt 256 k) (nltb→le 256 k)
    where
      back : (k : ℕ) → k ≤ 512 → 512 - (512 - k) ≡ k
      back k h = omega arith

      middle : 256 ≤ k → k ≤ 256 → half_turn F (512 - k) ≡ neg_ℤ (half_turn F k)
      middle a b = rw e (half_turn_near F 256 (omega arith) ∙ ap pos end ∙ ap neg_ℤ (sym (half_turn_near F 256 (omega arith) ∙ ap pos end)))
        where
          e : k ≡ 256
          e = omega arith

      go : (s : Bool) → (T s → k < 256) → (T (not s) → 256 ≤ k) → (t : Bool) → (T t → 256 < k) → (T (not t) → k ≤ 256) → half_turn F (512 - k) ≡ neg_ℤ (half_turn F k)
      go true f g t p q = half_turn_far F (512 - k) (omega (arith, f tt)) ∙ ap (λ (x : ℕ). neg_ℤ (pos (F x))) (back k h) ∙ ap neg_ℤ (sym (half_turn_near F k (omega (arith, f tt))))
      go false f g true p q = half_turn_near F (512 - k) (omega (arith, p tt)) ∙ sym (ap neg_ℤ (half_turn_far F k (p tt)) ∙ neg_ℤ-neg_ℤ (pos (F (512 - k))))
      go false f g false p q = middle (g tt) (q tt)

  pub cosine-half : (j : ℕ) → cosine F (j + 512) ≡ neg_ℤ (cosine F j)
  unfolding cosine
  cosine-half j = ap (half_turn F) (away-half j) ∙ half_turn_odd (away j) (omega arith)

  pub sine-half : (j : ℕ) → sine F (j + 512) ≡ neg_ℤ (sine F j)
  unfolding sine
  sine-half j = ap (cosine F) (on j) ∙ cosine-half (j + 768)
    where
      on : (j : ℕ) → j + 512 + 768 ≡ j + 768 + 512
      on j = omega arith

  -- a quarter turn on
  pub cosine_quarter : (j : ℕ) → cosine F (j + 256) ≡ neg_ℤ (sine F j)
  unfolding sine
  cosine_quarter j = sym (ap (λ (k : ℕ). neg_ℤ (cosine F k)) (on j) ∙ ap neg_ℤ (cosine-half (j + 256)) ∙ neg_ℤ-neg_ℤ (cosine F (j + 256)))
    where
      on : (j : ℕ) → j + 768 ≡ j + 256 + 512
      on j = omega arith

  pub sine_quarter : (j : ℕ) → sine F (j + 256) ≡ cosine F j
  unfolding sine
  sine_quarter j = ap (cosine F) (on j) ∙ cosine_periodic F j 1
    where
      on : (j : ℕ) → j + 256 + 768 ≡ j + 1 * 1024
      on j = omega arith

  pub sine_odd : (i j m : ℕ) → i + j ≡ m * 1024 → sine F i ≡ neg_ℤ (sine F j)
  unfolding sine
  sine_odd i j m e = cosine-even F (i + 768) (j + 768 + 512) (m + 2) (omega arith) ∙ cosine-half (j + 768)

-- ---- induction: the first quarter, and a quarter turn on

pub by_quarters : (P : ℕ → Type 0) → ((i : ℕ) → i < 256 → P i) → ((j : ℕ) → P j → P (j + 256)) → (j : ℕ) → P j
by_quarters P first next j = subst P (whole j) (go (j / 256))
  where
    whole : (j : ℕ) → j % 256 + j / 256 * 256 ≡ j
    whole j = omega arith

    none : (r : ℕ) → r ≡ r + 0 * 256
    none r = omega arith

    more : (r m : ℕ) → r + m * 256 + 256 ≡ r + suc m * 256
    more r m = omega arith

    go : (m : ℕ) → P (j % 256 + m * 256)
    go zero = subst P (none (j % 256)) (first (j % 256) (mod-lt j (omega arith)))
    go (suc m) = subst P (more (j % 256) m) (next (j % 256 + m * 256) (go m))
