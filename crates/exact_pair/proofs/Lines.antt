-- What the lines of one pair of halves are modulo 2^31 − 1, where the first half begins at cell 0 of x and the second at cell n: lines v and n + v are x(v)
-- plus and minus one sum of two products; that of line n − v has the same two cells, with cosine and sine exchanged and the cosine's sign changed.
use mathlib.Core.Path.{◌≡◌, refl, ◌∙◌, ap}
use mathlib.Core.List.{[], ◌∷◌}
use Prim.Native.Nat.{ℕ, ◌+◌, ◌*◌, ◌-◌, ◌%◌, ◌<◌}
use native.Mathlib.Nat.{add-mod_left, mod-eq_of_lt, zero-mul}
use native.Mathlib.Omega.{arith}
use lib.IntN.{ℤ, pos, neg_ℤ, ◌+ℤ◌, ◌-ℤ◌, ◌*ℤ◌}
use Rattle.ints.proofs.Ring.{ring, quotes}
use Rattle.spectrum.specs.Levels.{line}
use Rattle.spectrum.proofs.Pairs.{first-half, whole-steps}
use Rattle.residues.proofs.Congruent.{◌≈◌, ◌⊙◌, lin₂, ≈-is, ≈-plus, ≈-left}
use Rattle.turns.proofs.Turning.{Turning}
use Rattle.turns.proofs.Angles.{cosine_after_half, sine_after_half, cosine-even, sine_odd}

-- a pair whose halves have n = 2 k cells, with g steps of the turn between neighbouring lines
module _ {C S : ℕ → ℤ} (turn : Turning C S) (cosine_quarter : C 256 ≈ pos 0) (sine_quarter : S 256 ≈ pos 1) (k n g : ℕ) (some : 0 < k) (half : n ≡ 2 * k) (quarter : k * g ≡ 256) (x : ℕ → ℤ) where
  whole : 2 * n * g ≡ 1024
  whole = rw half (omega (arith, quarter))

  abbrev line_of : ℕ → ℤ
  line_of v = line (λ z. z) C S n x (λ j. x (n + j)) v

  -- the two products of line v
  abbrev pub Q : ℕ → ℤ
  Q v = x (n + v) *ℤ C (v * g) +ℤ x (n + (n - v) % n) *ℤ S (v * g)

  pub line_first : (v : ℕ) → v < n → line_of v ≈ x v +ℤ Q v
  line_first v h = ≈-is (first-half (λ z. z) C S n (omega arith) x (λ j. x (n + j)) g whole v h)

  pub line_second : (v : ℕ) → v < n → line_of (n + v) ≈ x v -ℤ Q v
  line_second v h = ≈-is moved ⊙ lin₂ (x (n + v)) (cosine_after_half turn (v * g)) (x (n + (n - v) % n)) (sine_after_half turn (v * g))
      (ring (x v ∷ x (n + v) ∷ x (n + (n - v) % n) ∷ C (v * g + 512) ∷ S (v * g + 512) ∷ C (v * g) ∷ S (v * g) ∷ []) (search quotes depth 40 fits 20000) tt)
    where
      on : (n + v) * g ≡ v * g + 512
      on = omega (arith, whole)

      moved : line_of (n + v) ≡ x v +ℤ (x (n + v) *ℤ C (v * g + 512) +ℤ x (n + (n - v) % n) *ℤ S (v * g + 512))
      moved = rw (add-mod_left n v, mod-eq_of_lt h, whole-steps (2 * n) g (n + v) (omega arith) whole, on) refl

  -- ---- no product

  pub Q_zero : Q 0 ≈ x (n + 0)
  Q_zero = ≈-is (ap (λ (j : ℕ). x (n + 0) *ℤ C j +ℤ x (n + (n - 0) % n) *ℤ S j) (zero-mul g)) ⊙ lin₂ (x (n + 0)) turn.cosine_start (x (n + (n - 0) % n)) turn.sine_start
      (ring (x (n + 0) ∷ x (n + (n - 0) % n) ∷ C 0 ∷ S 0 ∷ []) (search quotes depth 40 fits 20000) tt)

  -- the middle line is its own mirror
  pub Q_middle : Q k ≈ x (n + k)
  Q_middle = ≈-is (ap (λ (j : ℕ). x (n + k) *ℤ C j +ℤ x (n + (n - k) % n) *ℤ S j) quarter) ⊙ lin₂ (x (n + k)) cosine_quarter (x (n + (n - k) % n)) sine_quarter
      (ring (x (n + k) ∷ x (n + (n - k) % n) ∷ C 256 ∷ S 256 ∷ []) (search quotes depth 40 fits 20000) tt) ⊙ ≈-is (ap (λ (j : ℕ). x (n + j)) mirror)
    where
      same : n - k ≡ k
      same = omega arith

      mirror : (n - k) % n ≡ k
      mirror = ap (λ (j : ℕ). j % n) same ∙ mod-eq_of_lt (omega arith)

  -- ---- lines v and n − v

  module _ (v : ℕ) (first : 0 < v) (below : v < k) where
    pub Q_line : Q v ≡ x (n + v) *ℤ C (v * g) +ℤ x (n + (n - v)) *ℤ S (v * g)
    Q_line = ap (λ (j : ℕ). x (n + v) *ℤ C (v * g) +ℤ x (n + j) *ℤ S (v * g)) (mod-eq_of_lt (omega arith))

    -- the steps of line n − v and those of line v make half a turn
    steps : (n - v) * g + (v * g + 512) ≡ 1 * 1024
    steps = go (n - v) (omega arith)
      where
        go : (d : ℕ) → d + v ≡ 2 * k → d * g + (v * g + 512) ≡ 1 * 1024
        go d e = omega (arith, quarter, ap (λ (y : ℕ). y * g) e)

    sine-same : S ((n - v) * g) ≈ S (v * g)
    sine-same = lin₂ (pos 1) (sine_odd turn ((n - v) * g) (v * g + 512) 1 steps) (neg_ℤ (pos 1)) (sine_after_half turn (v * g))
        (ring (S ((n - v) * g) ∷ S (v * g + 512) ∷ S (v * g) ∷ []) (search quotes depth 40 fits 20000) tt)

    pub Q_mirror : Q (n - v) ≈ x (n + v) *ℤ S (v * g) +ℤ x (n + (n - v)) *ℤ neg_ℤ (C (v * g))
    Q_mirror = ≈-is (ap (λ (j : ℕ). x (n + (n - v)) *ℤ C ((n - v) * g) +ℤ x (n + j) *ℤ S ((n - v) * g)) back)
        ⊙ ≈-plus (≈-left (x (n + (n - v))) (cosine-even turn ((n - v) * g) (v * g + 512) 1 steps ⊙ cosine_after_half turn (v * g)))
        (≈-left (x (n + v)) sine-same)
        ⊙ ≈-is (ring (x (n + v) ∷ x (n + (n - v)) ∷ C (v * g) ∷ S (v * g) ∷ []) (search quotes depth 40) tt)
      where
        twice : n - (n - v) ≡ v
        twice = omega arith

        back : (n - (n - v)) % n ≡ v
        back = ap (λ (j : ℕ). j % n) twice ∙ mod-eq_of_lt (omega arith)
