-- Step 2 of the proof of demand 3: the direct sum of 2n samples from those of n. The even moments' part is their own direct sum De(v). The odd
-- moments' part has each angle moved by k, the step of line v; by the sum law of cas it is near Do(v) c(k) + Do(n − v) s(k), which is just what
-- a level computes from the odd half's line v and its mirror. And the sizes of direct sums.
-- Example: `direct_split n g z e x v`, with e : 2 * n * g ≡ 1024, is the split; `odd_near` is the sum law under the sum.
use mathlib.Core.Path.{◌≡◌, sym, ◌∙◌, ap, ap₂}
use mathlib.Core.List.{List, [], ◌∷◌}
use Prim.Native.Nat.{ℕ, zero, suc, ◌+◌, ◌*◌, ◌-◌, ◌/◌, ◌%◌, ◌^◌, ◌≤◌, ◌<◌}
use native.Mathlib.Nat.{sub-zero, mod-lt, mod-eq_of_lt, mod_self, div-add-mod', mul-le-mul}
use native.Mathlib.Omega.{arith}
use lib.IntN.{ℤ, pos, nat_abs, ◌+ℤ◌, ◌-ℤ◌, ◌*ℤ◌}
use lib.ListN.{length}
use Rattle.ints.specs.Sum.{sum}
use Rattle.ints.proofs.Ring.{ring, quotes}
use Rattle.ints.proofs.Abs.{abs_fact, abs_plus, abs_times}
use Rattle.ints.proofs.Sums.{sum_cong, sum-even_odd, sum_abs}
use Rattle.cosine.specs.Cosine.{cosine, sine, cas, fine}
use Rattle.cosine.proofs.Turn.{cosine_periodic, sine_periodic, cosine-even, sine_odd}
use Rattle.cosine.proofs.HalfAngle.{fine_end}
use Rattle.cosine.proofs.FineTurn.{opposite, FineSize, fine-size}
use Rattle.ints.specs.Cells.{cell}
use Rattle.spectrum.specs.Distance.{direct_sum}
use Rattle.spectrum.proofs.Pairs.{whole-steps}

-- line v of the direct sum of the n samples x 0, x 1, ..
abbrev pub direct : ℕ → (ℕ → ℤ) → ℕ → ℤ
direct n x v = sum n (λ t. x t *ℤ cas fine (v * t * 1024 / n % 1024))

-- and those of its samples at even and at odd moments
abbrev pub even_sum : ℕ → (ℕ → ℤ) → ℕ → ℤ
even_sum n x w = direct n (λ u. x (2 * u)) w

abbrev pub odd_sum : ℕ → (ℕ → ℤ) → ℕ → ℤ
odd_sum n x w = direct n (λ u. x (2 * u + 1)) w

pub direct_sum-is : (xs : List ℤ) (v : ℕ) → direct_sum fine xs v ≡ direct (length xs) (cell xs) v
unfolding direct_sum cas
direct_sum-is xs v = sum_cong (length xs) _ _ (λ t k. let j = v * t * 1024 / length xs % 1024 in
    ring (cell xs t ∷ cosine fine j ∷ sine fine j ∷ []) (search quotes) tt)

-- ---- cas over whole turns and at opposite angles

cas_periodic : (j m : ℕ) → cas fine (j + m * 1024) ≡ cas fine j
unfolding cas
cas_periodic j m = ap₂ ◌+ℤ◌ (cosine_periodic fine j m) (sine_periodic fine j m)

cas-within : (j : ℕ) → cas fine (j % 1024) ≡ cas fine j
cas-within j = sym (cas_periodic (j % 1024) (j / 1024)) ∙ ap (cas fine) (omega arith)

cas-opposite : (i j m : ℕ) → i + j ≡ m * 1024 → cas fine i ≡ opposite j
unfolding cas
cas-opposite i j m e = ap₂ ◌+ℤ◌ (cosine-even fine i j m e) (sine_odd fine fine_end i j m e)

-- the sum law of cas at k: the angle j + k by way of j and its opposite, within ε
abbrev pub CasNear : ℕ → ℕ → Type 0
CasNear k ε = (j : ℕ) → nat_abs (cas fine (j + k) *ℤ pos (2 ^ 60) -ℤ (cas fine j *ℤ cosine fine k +ℤ opposite j *ℤ sine fine k)) ≤ ε

-- ---- angles. With n h = 1,024 the angle of sample t at line v is v t h, and nothing is divided.

-- (v mod n) u h and v u h are one angle
pub same_angle : (n h v u : ℕ) → n * h ≡ 1024 → v * u * h ≡ v % n * u * h + v / n * u * 1024
same_angle n h v u e = go (v / n) (v % n) (div-add-mod' v n)
  where
    go : (d m : ℕ) → d * n + m ≡ v → v * u * h ≡ m * u * h + d * u * 1024
    go d m f = rw (sym f) (rw (sym e) (omega arith))

-- the mirror of line v among n lines
abbrev pub mirror : ℕ → ℕ → ℕ
mirror n v = (n - v % n) % n

-- v and its mirror come to a multiple of n
pub with_mirror : (n v : ℕ) → zero < n → (m : ℕ) × (mirror n v + v ≡ m * n)
with_mirror n v z = go (v % n) (div-add-mod' v n) (mod-lt v z)
  where
    go : (w : ℕ) → v / n * n + w ≡ v → w < n → (m : ℕ) × ((n - w) % n + v ≡ m * n)
    go zero f h = (v / n, ap (λ (x : ℕ). x % n + v) (sub-zero n) ∙ ap (λ (x : ℕ). x + v) (mod_self n) ∙ omega arith)
    go (suc w) f h = (v / n + 1, ap (λ (x : ℕ). x + v) (mod-eq_of_lt less) ∙ omega arith)
      where
        less : n - suc w < n
        less = omega arith

-- ---- the direct sum without its division, at a line and at its mirror

plain : (n h : ℕ) → zero < n → n * h ≡ 1024 → (x : ℕ → ℤ) (v : ℕ) → direct n x v ≡ sum n (λ t. x t *ℤ cas fine (v * t * h))
plain n h z e x v = sum_cong n _ _ (λ t k. ap (λ (y : ℤ). x t *ℤ y) (cas-within (v * t * 1024 / n) ∙ ap (cas fine) (whole-steps n h (v * t) z e)))

module _ (n h : ℕ) (z : zero < n) (e : n * h ≡ 1024) (x : ℕ → ℤ) (v : ℕ) where
  line-sum : direct n x (v % n) ≡ sum n (λ t. x t *ℤ cas fine (v * t * h))
  line-sum = plain n h z e x (v % n)
      ∙ sum_cong n _ _ (λ t k. ap (λ (y : ℤ). x t *ℤ y) (sym (cas_periodic (v % n * t * h) (v / n * t)) ∙ ap (cas fine) (sym (same_angle n h v t e))))

  mirror_sum : direct n x (mirror n v) ≡ sum n (λ t. x t *ℤ opposite (v * t * h))
  mirror_sum = plain n h z e x (mirror n v) ∙ go (with_mirror n v z)
    where
      go : (m : ℕ) × (mirror n v + v ≡ m * n) → sum n (λ t. x t *ℤ cas fine (mirror n v * t * h)) ≡ sum n (λ t. x t *ℤ opposite (v * t * h))
      go m = sum_cong n _ _ (λ t k. ap (λ (y : ℤ). x t *ℤ y) (cas-opposite _ _ (m.0 * t) (turns t)))
        where
          turns : (t : ℕ) → mirror n v * t * h + v * t * h ≡ m.0 * t * 1024
          turns t = rw (sym e) (omega (arith, ap (λ (y : ℕ). y * (t * h)) m.1))

-- ---- the split: the even moments' direct sum, and the rest

pub direct_split : (n g : ℕ) → zero < n → 2 * n * g ≡ 1024 → (x : ℕ → ℤ) (v : ℕ) →
    direct (2 * n) x v ≡ even_sum n x (v % n) +ℤ sum n (λ u. x (2 * u + 1) *ℤ cas fine (v * u * (2 * g) + v * g))
direct_split n g z e x v = plain (2 * n) g (omega arith) e x v ∙ sum-even_odd n (λ t. x t *ℤ cas fine (v * t * g))
    ∙ ap₂ ◌+ℤ◌ (sum_cong n _ _ (λ u k. ap (λ (j : ℕ). x (2 * u) *ℤ cas fine j) (even u)) ∙ sym (line-sum n (2 * g) z (omega arith) (λ u. x (2 * u)) v))
    (sum_cong n _ _ (λ u k. ap (λ (j : ℕ). x (2 * u + 1) *ℤ cas fine j) (odd u)))
  where
    even : (u : ℕ) → v * (2 * u) * g ≡ v * u * (2 * g)
    even u = omega arith

    odd : (u : ℕ) → v * (2 * u + 1) * g ≡ v * u * (2 * g) + v * g
    odd u = omega arith

-- ---- what is near term by term is near in the sum, and so are sizes

sums_near : (n B : ℕ) (f g h : ℕ → ℤ) (a b d : ℤ) → ((u : ℕ) → nat_abs (f u *ℤ a -ℤ (g u *ℤ b +ℤ h u *ℤ d)) ≤ B) →
    nat_abs (sum n f *ℤ a -ℤ (sum n g *ℤ b +ℤ sum n h *ℤ d)) ≤ n * B
unfolding sum
sums_near zero B f g h a b d near = rw none (omega arith)
  where
    none : pos 0 *ℤ a -ℤ (pos 0 *ℤ b +ℤ pos 0 *ℤ d) ≡ pos 0
    none = ring (a ∷ b ∷ d ∷ []) (search quotes depth 40) tt
sums_near (suc n) B f g h a b d near = rw (apart (sum n f) (f n) (sum n g) (g n) (sum n h) (h n))
    (omega (arith, abs_plus (sum n f *ℤ a -ℤ (sum n g *ℤ b +ℤ sum n h *ℤ d)) (f n *ℤ a -ℤ (g n *ℤ b +ℤ h n *ℤ d)), sums_near n B f g h a b d near, near n))
  where
    apart : (F i G j H k : ℤ) → (F +ℤ i) *ℤ a -ℤ ((G +ℤ j) *ℤ b +ℤ (H +ℤ k) *ℤ d) ≡ F *ℤ a -ℤ (G *ℤ b +ℤ H *ℤ d) +ℤ (i *ℤ a -ℤ (j *ℤ b +ℤ k *ℤ d))
    apart F i G j H k = ring (F ∷ i ∷ G ∷ j ∷ H ∷ k ∷ a ∷ b ∷ d ∷ []) (search quotes depth 40 fits 20000) tt

sums_size : (n B : ℕ) (f g : ℕ → ℤ) → ((u : ℕ) → nat_abs (f u) + nat_abs (g u) ≤ B) → nat_abs (sum n f) + nat_abs (sum n g) ≤ n * B
unfolding sum
sums_size zero B f g h = omega arith
sums_size (suc n) B f g h = omega (arith, abs_plus (sum n f) (f n), abs_plus (sum n g) (g n), sums_size n B f g h, h n)

-- ---- sizes and the odd part, for samples of magnitude M at most

-- a line alone: |c + s| is at most √2
pub direct_size : (n : ℕ) (x : ℕ → ℤ) (M : ℕ) → ((t : ℕ) → nat_abs (x t) ≤ M) → (v : ℕ) → nat_abs (direct n x v) ≤ n * (M * (92682 * 2 ^ 44))
unfolding cas
direct_size n x M quiet v = sum_abs n (M * (92682 * 2 ^ 44)) _ (λ t k. one (x t) _ _ (quiet t) (fine-size (v * t * 1024 / n % 1024)))
  where
    one : (a c s : ℤ) → nat_abs a ≤ M → FineSize c s → nat_abs (a *ℤ (c +ℤ s)) ≤ M * (92682 * 2 ^ 44)
    one a c s ha k = rw abs_times (mul-le-mul ha (omega (arith, abs_plus c s, k.pair_size)))

module _ (n h : ℕ) (z : zero < n) (e : n * h ≡ 1024) (x : ℕ → ℤ) (M : ℕ) (quiet : (t : ℕ) → nat_abs (x t) ≤ M) (v : ℕ) where
  -- a line and its mirror together: |c + s| + |c − s| is twice the larger of |c| and |s|
  pub direct_pair_size : nat_abs (direct n x (v % n)) + nat_abs (direct n x (mirror n v)) ≤ 2 * (n * M) * 2 ^ 60
  unfolding cas
  direct_pair_size = rw (line-sum n h z e x v, mirror_sum n h z e x v)
      (widen (2 ^ 60) (sums_size n (M * (2 * 2 ^ 60)) _ _ (λ t. one (x t) (cosine fine (v * t * h)) (sine fine (v * t * h)) (quiet t) (fine-size (v * t * h)))))
    where
      both : (c s : ℤ) (U : ℕ) → nat_abs c ≤ U → nat_abs s ≤ U → nat_abs (c +ℤ s) + nat_abs (c -ℤ s) ≤ 2 * U
      both c s U h k = let Γ = c ∷ s ∷ [] in
          omega (arith, abs_fact Γ c (search quotes), abs_fact Γ s (search quotes), abs_fact Γ (c +ℤ s) (search quotes), abs_fact Γ (c -ℤ s) (search quotes))

      one : (a c s : ℤ) → nat_abs a ≤ M → FineSize c s → nat_abs (a *ℤ (c +ℤ s)) + nat_abs (a *ℤ (c -ℤ s)) ≤ M * (2 * 2 ^ 60)
      one a c s ha k = omega (arith, abs_times a (c +ℤ s), abs_times a (c -ℤ s), mul-le-mul ha (both c s (2 ^ 60) k.cosine-size k.sine-size))

      widen : (U : ℕ) {w : ℕ} → w ≤ n * (M * (2 * U)) → w ≤ 2 * (n * M) * U
      widen U k = omega arith

  -- the sum law at one k, under the sum: what is lost is ε a sample (2^67 in general, 0 where k is a multiple of a quarter turn)
  pub odd_near : (k ε : ℕ) → CasNear k ε →
      nat_abs (sum n (λ u. x u *ℤ cas fine (v * u * h + k)) *ℤ pos (2 ^ 60)
      -ℤ (direct n x (v % n) *ℤ cosine fine k +ℤ direct n x (mirror n v) *ℤ sine fine k)) ≤ n * (M * ε)
  odd_near k ε law = rw (line-sum n h z e x v, mirror_sum n h z e x v)
      (sums_near n (M * ε) _ _ _ (pos (2 ^ 60)) (cosine fine k) (sine fine k)
      (λ u. one (x u) _ _ _ (pos (2 ^ 60)) (cosine fine k) (sine fine k) (quiet u) (law (v * u * h))))
    where
      out : (a i j l w c s : ℤ) → a *ℤ i *ℤ w -ℤ (a *ℤ j *ℤ c +ℤ a *ℤ l *ℤ s) ≡ a *ℤ (i *ℤ w -ℤ (j *ℤ c +ℤ l *ℤ s))
      out a i j l w c s = ring (a ∷ i ∷ j ∷ l ∷ w ∷ c ∷ s ∷ []) (search quotes depth 40) tt

      one : (a i j l w c s : ℤ) → nat_abs a ≤ M → nat_abs (i *ℤ w -ℤ (j *ℤ c +ℤ l *ℤ s)) ≤ ε → nat_abs (a *ℤ i *ℤ w -ℤ (a *ℤ j *ℤ c +ℤ a *ℤ l *ℤ s)) ≤ M * ε
      one a i j l w c s ha hi = rw (out a i j l w c s, abs_times) (mul-le-mul ha hi)
