-- Step 3 of the proof of demand 3: for one line of one level, its distance from the direct sum by those of the two halves. Whole numbers only.
-- The line is a + r, where r is b C + b' S over q, rounded; a is a line of the even half, b one of the odd half and b' its mirror; De, Do and
-- Do' are the direct sums at those three and D the one at the line itself; C and S are the table's cosine and sine, c and s the fine ones.
-- Example: `sizes` bounds |b| + |b'|, `exact` is the case in which nothing is lost, `step` the general one.
use mathlib.Core.Path.{◌≡◌, sym}
use mathlib.Core.List.{[], ◌∷◌}
use Prim.Native.Nat.{ℕ, zero, ◌+◌, ◌*◌, ◌-◌, ◌≤◌, ◌<◌}
use native.Mathlib.Nat.{mul-le-mul_left, mul-le-mul_right, le_of_mul-le-mul_left, le_of_mul-le-mul_right, div-add-mod, mod-lt, le_trans}
use native.Mathlib.Omega.{arith}
use lib.IntN.{ℤ, pos, nat_abs, ◌+ℤ◌, ◌-ℤ◌, ◌*ℤ◌}
use Rattle.ints.proofs.Ring.{ring, quotes}
use Rattle.ints.proofs.Abs.{abs_plus, abs_minus, abs_times}
use Rattle.spectrum.specs.Distance.{ceiling}

-- ---- the size of a line h, from its distance from the direct sum D

pub size_of_near : (U : ℕ) (h D : ℤ) → nat_abs h * U ≤ nat_abs (h *ℤ pos U -ℤ D) + nat_abs D
size_of_near U h D = rw (sym (abs_times h (pos U))) (rw back at (abs_plus (h *ℤ pos U -ℤ D) D))
  where
    back : h *ℤ pos U -ℤ D +ℤ D ≡ h *ℤ pos U
    back = ring (h ∷ D ∷ pos U ∷ []) (search quotes) tt

-- a line and its mirror, G being n M
pub sizes : (U G B : ℕ) (b b' Do Do' : ℤ) → zero < U → nat_abs (b *ℤ pos U -ℤ Do) ≤ B * U → nat_abs (b' *ℤ pos U -ℤ Do') ≤ B * U →
    nat_abs Do + nat_abs Do' ≤ 2 * G * U → nat_abs b + nat_abs b' ≤ 2 * G + 2 * B
sizes U G B b b' Do Do' z h h' k = le_of_mul-le-mul_right {k = U} (omega (arith, size_of_near U b Do, size_of_near U b' Do')) z

-- ---- the identity: q U times the line's distance is a sum of five terms, each with one distance as a factor: the even half's, the table's
-- (times b and b'), the rounding's, the odd half's (times c and s), and the sum law's. No inequality is in it.

identity : (q U a r b b' C S c s De Do Do' D : ℤ) →
    q *ℤ (U *ℤ ((a +ℤ r) *ℤ U -ℤ D)) ≡
    q *ℤ (U *ℤ (a *ℤ U -ℤ De)) +ℤ U *ℤ (b *ℤ (C *ℤ U -ℤ c *ℤ q) +ℤ b' *ℤ (S *ℤ U -ℤ s *ℤ q)) +ℤ U *ℤ (U *ℤ (q *ℤ r -ℤ (b *ℤ C +ℤ b' *ℤ S)))
    +ℤ q *ℤ ((b *ℤ U -ℤ Do) *ℤ c +ℤ (b' *ℤ U -ℤ Do') *ℤ s) -ℤ q *ℤ ((D -ℤ De) *ℤ U -ℤ (Do *ℤ c +ℤ Do' *ℤ s))
identity q U a r b b' C S c s De Do Do' D =
    ring (q ∷ U ∷ a ∷ r ∷ b ∷ b' ∷ C ∷ S ∷ c ∷ s ∷ De ∷ Do ∷ Do' ∷ D ∷ []) (search quotes depth 40 fits 20000) tt

abs_two_products : (x y z w : ℤ) → nat_abs (x *ℤ y +ℤ z *ℤ w) ≤ nat_abs x * nat_abs y + nat_abs z * nat_abs w
abs_two_products x y z w = omega (arith, abs_plus (x *ℤ y) (z *ℤ w), abs_times x y, abs_times z w)

-- the absolute value of its right side
module _ (q U : ℕ) (A b t b' t' e g c g' s z : ℤ) where
  abs_of_terms : nat_abs (pos q *ℤ (pos U *ℤ A) +ℤ pos U *ℤ (b *ℤ t +ℤ b' *ℤ t') +ℤ pos U *ℤ (pos U *ℤ e) +ℤ pos q *ℤ (g *ℤ c +ℤ g' *ℤ s) -ℤ pos q *ℤ z)
      ≤ q * (U * nat_abs A) + U * (nat_abs b * nat_abs t + nat_abs b' * nat_abs t') + U * (U * nat_abs e) + q * (nat_abs g * nat_abs c + nat_abs g' * nat_abs s) + q * nat_abs z
  abs_of_terms = le_trans (five (pos q *ℤ (pos U *ℤ A)) (pos U *ℤ (b *ℤ t +ℤ b' *ℤ t')) (pos U *ℤ (pos U *ℤ e)) (pos q *ℤ (g *ℤ c +ℤ g' *ℤ s)) (pos q *ℤ z))
      (rw (scaled q (pos U *ℤ A), scaled U A, scaled U (b *ℤ t +ℤ b' *ℤ t'), scaled U (pos U *ℤ e), scaled U e, scaled q (g *ℤ c +ℤ g' *ℤ s), scaled q z)
      (omega (arith, mul-le-mul_left U (abs_two_products b t b' t'), mul-le-mul_left q (abs_two_products g c g' s))))
    where
      scaled : (k : ℕ) (y : ℤ) → nat_abs (pos k *ℤ y) ≡ k * nat_abs y
      scaled k y = abs_times (pos k) y

      five : (a b c d e : ℤ) → nat_abs (a +ℤ b +ℤ c +ℤ d -ℤ e) ≤ nat_abs a + nat_abs b + nat_abs c + nat_abs d + nat_abs e
      five a b c d e = omega (arith, abs_minus (a +ℤ b +ℤ c +ℤ d) e, abs_plus (a +ℤ b +ℤ c) d, abs_plus (a +ℤ b) c, abs_plus a b)

-- ---- the same in ℕ: X the line's distance, A, g, g' those of its three parts, t, t' of the table, e of the rounding, z of the sum law

abbrev Terms : (q U X A b t b' t' e g c g' s z : ℕ) → Type 0
Terms q U X A b t b' t' e g c g' s z = q * (U * X) ≤ q * (U * A) + U * (b * t + b' * t') + U * (U * e) + q * (g * c + g' * s) + q * z

-- each distance by its bound, and U divided out; Z bounds |c| + |s|
module _ (q U Z G B : ℕ) (U-positive : zero < U) where
  shares : (X A b t b' t' e g c g' s z : ℕ) → Terms q U X A b t b' t' e g c g' s z →
      A ≤ B * U → g ≤ B * U → g' ≤ B * U → 2 * t ≤ U → 2 * t' ≤ U → 2 * e ≤ q → 2 * z ≤ U * U → c + s ≤ Z → b + b' ≤ 2 * G + 2 * B →
      q * X ≤ q * (B * U) + (G + B) * U + q * U + q * (B * Z)
  shares X A b t b' t' e g c g' s z h hA hg hg' ht ht' he hz hcs hb = le_of_mul-le-mul_left {k = 2 * U}
      (total (q * (U * A)) (b * t + b' * t') (U * e) (q * (g * c + g' * s)) h
      (mul-le-mul_left q (mul-le-mul_left U hA))
      (mul-le-mul_left U (omega (arith, mul-le-mul_left b ht, mul-le-mul_left b' ht', mul-le-mul_right U hb)))
      (mul-le-mul_left U (omega (arith, mul-le-mul_left U he)))
      (mul-le-mul_left q (omega (arith, mul-le-mul_right c hg, mul-le-mul_right s hg', mul-le-mul_left (B * U) hcs)))
      (mul-le-mul_left q hz)) (omega arith)
    where
      total : (i j k l : ℕ) → q * (U * X) ≤ i + U * j + U * k + l + q * z →
          i ≤ q * (U * (B * U)) → U * (2 * j) ≤ U * ((2 * G + 2 * B) * U) → U * (2 * k) ≤ U * (U * q) → l ≤ q * (B * U * Z) → q * (2 * z) ≤ q * (U * U) →
          2 * U * (q * X) ≤ 2 * U * (q * (B * U) + (G + B) * U + q * U + q * (B * Z))
      total i j k l h1 h2 h3 h4 h5 h6 = omega (arith, h1, h2, h3, h4, h5, h6)

pub ceiling-enough : (a b : ℕ) → zero < b → a ≤ b * ceiling a b
ceiling-enough a b z = omega (arith, div-add-mod (a + (b - 1)) b, mod-lt (a + (b - 1)) z)

-- q divided out. U is 65,536 W and Z is 92,682 W, that is, √2 U: 1 + 92,682 / 65,536 + 1 / q is at most 5/2 from q = 12 on.
divided : (q W G B X : ℕ) → 12 ≤ q → q * X ≤ q * (B * (65536 * W)) + (G + B) * (65536 * W) + q * (65536 * W) + q * (B * (92682 * W)) →
    X ≤ (ceiling (5 * B) 2 + ceiling G q + 1) * (65536 * W)
divided q W G B X hq h = go (ceiling (5 * B) 2) (ceiling G q) (omega arith) (ceiling-enough G q (omega arith))
  where
    go : (x y : ℕ) → 5 * B ≤ 2 * x → G ≤ q * y → X ≤ (x + y + 1) * (65536 * W)
    go x y hx hy = le_of_mul-le-mul_left {k = q} (omega (arith, h, mul-le-mul_left (q * W) hx, mul-le-mul_left W hy, mul-le-mul_left (B * W) hq)) (omega arith)

-- ---- the step: what is proved so far, at the line's own distances

module _ (q W : ℕ) (a r b b' C S c s De Do Do' D : ℤ) where
  abbrev U : ℕ
  U = 65536 * W

  terms : Terms q U (nat_abs ((a +ℤ r) *ℤ pos U -ℤ D)) (nat_abs (a *ℤ pos U -ℤ De)) (nat_abs b) (nat_abs (C *ℤ pos U -ℤ c *ℤ pos q))
      (nat_abs b') (nat_abs (S *ℤ pos U -ℤ s *ℤ pos q)) (nat_abs (pos q *ℤ r -ℤ (b *ℤ C +ℤ b' *ℤ S)))
      (nat_abs (b *ℤ pos U -ℤ Do)) (nat_abs c) (nat_abs (b' *ℤ pos U -ℤ Do')) (nat_abs s) (nat_abs ((D -ℤ De) *ℤ pos U -ℤ (Do *ℤ c +ℤ Do' *ℤ s)))
  terms = rw (
    sym (abs_times (pos U) ((a +ℤ r) *ℤ pos U -ℤ D)),
    sym (abs_times (pos q) (pos U *ℤ ((a +ℤ r) *ℤ pos U -ℤ D))),
    identity (pos q) (pos U) a r b b' C S c s De Do Do' D,
  )
      (abs_of_terms q U (a *ℤ pos U -ℤ De) b (C *ℤ pos U -ℤ c *ℤ pos q) b' (S *ℤ pos U -ℤ s *ℤ pos q) (pos q *ℤ r -ℤ (b *ℤ C +ℤ b' *ℤ S))
      (b *ℤ pos U -ℤ Do) c (b' *ℤ pos U -ℤ Do') s ((D -ℤ De) *ℤ pos U -ℤ (Do *ℤ c +ℤ Do' *ℤ s)))

  -- nothing is lost where the parts, the table, the rounding and the sum law are exact
  pub exact : zero < q → zero < W → nat_abs (a *ℤ pos U -ℤ De) ≤ 0 → nat_abs (b *ℤ pos U -ℤ Do) ≤ 0 → nat_abs (b' *ℤ pos U -ℤ Do') ≤ 0 →
      nat_abs (C *ℤ pos U -ℤ c *ℤ pos q) ≤ 0 → nat_abs (S *ℤ pos U -ℤ s *ℤ pos q) ≤ 0 → nat_abs (pos q *ℤ r -ℤ (b *ℤ C +ℤ b' *ℤ S)) ≤ 0 →
      nat_abs ((D -ℤ De) *ℤ pos U -ℤ (Do *ℤ c +ℤ Do' *ℤ s)) ≤ 0 → nat_abs ((a +ℤ r) *ℤ pos U -ℤ D) ≤ 0
  exact hq hW ha hb hb' hC hS hr hz = none _ _ _ _ _ _ _ _ _ _ _ _ terms ha hb hb' hC hS hr hz
    where
      none : (X A b t b' t' e g c g' s z : ℕ) → Terms q U X A b t b' t' e g c g' s z → A ≤ 0 → g ≤ 0 → g' ≤ 0 → t ≤ 0 → t' ≤ 0 → e ≤ 0 → z ≤ 0 → X ≤ 0
      none X A b t b' t' e g c g' s z h hA hg hg' ht ht' he hz = le_of_mul-le-mul_left {k = U} (le_of_mul-le-mul_left {k = q}
          (omega (arith, rw (nil hA, nil hg, nil hg', nil ht, nil ht', nil he, nil hz) at h)) hq) (omega arith)
        where
          nil : {y : ℕ} → y ≤ 0 → y ≡ 0
          nil k = omega arith

  -- B bounds the distances in the halves, the table and the rounding are to the nearest, and the sum law's distance is at most half of U · U
  pub step : (G B : ℕ) → 12 ≤ q → zero < W → nat_abs (a *ℤ pos U -ℤ De) ≤ B * U → nat_abs (b *ℤ pos U -ℤ Do) ≤ B * U → nat_abs (b' *ℤ pos U -ℤ Do') ≤ B * U →
      2 * nat_abs (C *ℤ pos U -ℤ c *ℤ pos q) ≤ U → 2 * nat_abs (S *ℤ pos U -ℤ s *ℤ pos q) ≤ U → 2 * nat_abs (pos q *ℤ r -ℤ (b *ℤ C +ℤ b' *ℤ S)) ≤ q →
      2 * nat_abs ((D -ℤ De) *ℤ pos U -ℤ (Do *ℤ c +ℤ Do' *ℤ s)) ≤ U * U → nat_abs c + nat_abs s ≤ 92682 * W → nat_abs Do + nat_abs Do' ≤ 2 * G * U →
      nat_abs ((a +ℤ r) *ℤ pos U -ℤ D) ≤ (ceiling (5 * B) 2 + ceiling G q + 1) * U
  step G B hq hW ha hb hb' hC hS hr hz hcs hD = divided q W G B _ hq
      (shares q U (92682 * W) G B (omega arith) _ _ _ _ _ _ _ _ _ _ _ _ terms ha hb hb' hC hS hr hz hcs (sizes U G B b b' Do Do' (omega arith) hb hb' hD))
