-- What the lines of one pair of halves are, where the first half begins at cell 0 of x and the second at cell n: since the rounding is odd, lines v and
-- n + v are x(v) plus and minus one quotient; that of line n − v has the same two cells, with cosine and sine exchanged and the cosine's sign changed.
use mathlib.Core.Path.{◌≡◌, ◌∙◌, ap, ap₂}
use mathlib.Core.List.{[], ◌∷◌}
use Prim.Native.Nat.{ℕ, ◌+◌, ◌*◌, ◌-◌, ◌%◌, ◌^◌, ◌≤◌, ◌<◌}
use native.Mathlib.Nat.{mod-eq_of_lt, mul-le-mul_right, zero-mul}
use native.Mathlib.Omega.{arith}
use lib.IntN.{ℤ, pos, neg_ℤ, neg_ℤ-neg_ℤ, ◌+ℤ◌, ◌-ℤ◌, ◌*ℤ◌}
use lib.Pow.{pow_pos}
use Rattle.ints.specs.Quotient.{rounded}
use Rattle.ints.proofs.Ring.{ring, quotes}
use Rattle.ints.proofs.Rounding.{rounded_odd}
use Rattle.cosine.specs.Cosine.{quarter_table}
use Rattle.cosine.proofs.FineTurn.{quarter_unit}
use Rattle.cosine.proofs.Turn.{cosine-first, sine-first, cosine-half, sine-half, cosine-even, sine_odd}
use Rattle.cosine.proofs.TableNear.{table-end}
use Rattle.spectrum.specs.Spectrum.{table_cosine, table_sine}
use Rattle.spectrum.proofs.Nearest.{Nearest, nearest_at, exact-quotient}
use Rattle.spectrum.proofs.Pairs.{first-half, second-half}
use Rattle.pair.specs.Pair.{pair_line, turned}

-- ---- no product: at step 0 and at a quarter turn the quotient is exact

module _ (s : ℕ) (least : 4 ≤ s) (most : s ≤ 22) where
  near : Nearest (2 ^ s) (rounded (2 ^ s)) (table_cosine s) (table_sine s)
  near = nearest_at s least (omega arith)

  -- the quotient at step j of the two cells b and b'
  abbrev pub quotient_at : ℕ → ℤ → ℤ → ℤ
  quotient_at j b b' = rounded (2 ^ s) (b *ℤ table_cosine s j +ℤ b' *ℤ table_sine s j)

  pub plain_start : (b b' : ℤ) → quotient_at 0 b b' ≡ b
  unfolding quarter_unit
  plain_start b b' = exact-quotient near 0 b b' ∙ ring (b ∷ b' ∷ []) (search quotes depth 40) tt

  pub plain_quarter : (b b' : ℤ) → quotient_at 256 b b' ≡ b'
  unfolding quarter_unit
  plain_quarter b b' = exact-quotient near 1 b b' ∙ ring (b ∷ b' ∷ []) (search quotes depth 40) tt

-- ---- a pair whose halves have n = 2 k cells, with g steps of the turn between neighbouring lines

module _ (s : ℕ) (least : 4 ≤ s) (most : s ≤ 22) (k n g : ℕ) (pairs : 0 < k) (half : n ≡ 2 * k) (quarter : k * g ≡ 256) (x : ℕ → ℤ) where
  turn : 2 * n * g ≡ 1024
  turn = rw half (omega (arith, quarter))

  end : quarter_table s 256 ≡ 0
  end = table-end s (omega arith)

  -- the rounded quotient of line v
  abbrev pub Q : ℕ → ℤ
  Q v = rounded (2 ^ s) (x (n + v) *ℤ table_cosine s (v * g) +ℤ x (n + (n - v) % n) *ℤ table_sine s (v * g))

  pub line_first : (v : ℕ) → v < n → pair_line s n x v ≡ x v +ℤ Q v
  line_first v h = first-half (rounded (2 ^ s)) (table_cosine s) (table_sine s) n (omega arith) x (λ j. x (n + j)) g turn v h

  pub line_second : (v : ℕ) → v < n → pair_line s n x (n + v) ≡ x v -ℤ Q v
  line_second v h = second-half (rounded (2 ^ s)) (table_cosine s) (table_sine s) n (omega arith) x (λ j. x (n + j)) g turn v h (cosine-half (quarter_table s) end) (sine-half (quarter_table s) end)
      ∙ ap (λ (y : ℤ). x v +ℤ y) (rounded_odd (2 ^ s) (pow_pos s) _)

  -- ---- no product

  pub Q_zero : Q 0 ≡ x (n + 0)
  Q_zero = ap (λ (j : ℕ). quotient_at s least most j (x (n + 0)) (x (n + (n - 0) % n))) (zero-mul g) ∙ plain_start s least most (x (n + 0)) (x (n + (n - 0) % n))

  -- the middle line is its own mirror
  pub Q_middle : Q k ≡ x (n + k)
  Q_middle = ap (λ (j : ℕ). quotient_at s least most j (x (n + k)) (x (n + (n - k) % n))) quarter ∙ plain_quarter s least most (x (n + k)) (x (n + (n - k) % n)) ∙ ap (λ (j : ℕ). x (n + j)) mirror
    where
      same : n - k ≡ k
      same = omega arith

      mirror : (n - k) % n ≡ k
      mirror = ap (λ (j : ℕ). j % n) same ∙ mod-eq_of_lt (omega arith)

  -- ---- lines v and n − v

  module _ (v : ℕ) (first : 0 < v) (below : v < k) where
    abbrev pub cosine_at : ℤ
    cosine_at = pos (quarter_table s (v * g))

    abbrev pub sine_at : ℤ
    sine_at = pos (quarter_table s (256 - v * g))

    inside : v * g ≤ 256
    inside = omega (arith, quarter, mul-le-mul_right g v≤k)
      where
        v≤k : v ≤ k
        v≤k = omega arith

    pub Q_line : Q v ≡ turned s (x (n + v)) (x (n + (n - v))) cosine_at sine_at
    Q_line = ap₂ (λ (c d : ℤ). rounded (2 ^ s) (x (n + v) *ℤ c +ℤ x (n + (n - v) % n) *ℤ d)) (cosine-first (quarter_table s) (v * g) inside) (sine-first (quarter_table s) (v * g) inside)
        ∙ ap (λ (j : ℕ). rounded (2 ^ s) (x (n + v) *ℤ cosine_at +ℤ x (n + j) *ℤ sine_at)) (mod-eq_of_lt (omega arith))

    -- the steps of line n − v and those of line v make half a turn
    steps : (n - v) * g + (v * g + 512) ≡ 1 * 1024
    steps = go (n - v) (omega arith)
      where
        go : (d : ℕ) → d + v ≡ 2 * k → d * g + (v * g + 512) ≡ 1 * 1024
        go d e = omega (arith, quarter, ap (λ (y : ℕ). y * g) e)

    pub Q_mirror : Q (n - v) ≡ turned s (x (n + v)) (x (n + (n - v))) sine_at (neg_ℤ cosine_at)
    Q_mirror = ap₂ (λ (c d : ℤ). rounded (2 ^ s) (x (n + (n - v)) *ℤ c +ℤ x (n + (n - (n - v)) % n) *ℤ d)) cosine-is sine-is
        ∙ ap (λ (j : ℕ). rounded (2 ^ s) (x (n + (n - v)) *ℤ neg_ℤ cosine_at +ℤ x (n + j) *ℤ sine_at)) back ∙ ap (rounded (2 ^ s)) (swap (x (n + (n - v))) (neg_ℤ cosine_at) (x (n + v)) sine_at)
      where
        twice : n - (n - v) ≡ v
        twice = omega arith

        back : (n - (n - v)) % n ≡ v
        back = ap (λ (j : ℕ). j % n) twice ∙ mod-eq_of_lt (omega arith)

        cosine-is : table_cosine s ((n - v) * g) ≡ neg_ℤ cosine_at
        cosine-is = cosine-even (quarter_table s) ((n - v) * g) (v * g + 512) 1 steps ∙ cosine-half (quarter_table s) end (v * g) ∙ ap neg_ℤ (cosine-first (quarter_table s) (v * g) inside)

        sine-is : table_sine s ((n - v) * g) ≡ sine_at
        sine-is = sine_odd (quarter_table s) end ((n - v) * g) (v * g + 512) 1 steps ∙ ap neg_ℤ (sine-half (quarter_table s) end (v * g)) ∙ neg_ℤ-neg_ℤ _ ∙ sine-first (quarter_table s) (v * g) inside

        swap : (a b c d : ℤ) → a *ℤ b +ℤ c *ℤ d ≡ c *ℤ d +ℤ a *ℤ b
        swap a b c d = ring (a ∷ b ∷ c ∷ d ∷ []) (search quotes depth 40) tt
