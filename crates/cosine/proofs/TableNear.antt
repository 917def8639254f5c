-- The quarter table at every scale 2^s with s < 60: within half a unit of the fine cosines over the whole turn, and no larger than its scale.
-- Example: `cosine_near 15 (lit< tt) j : nat_abs (cosine (quarter_table 15) j *ℤ pos (2 ^ 60) -ℤ cosine fine j *ℤ pos (2 ^ 15)) ≤ 2 ^ 59`.
use mathlib.Core.Path.{◌≡◌, refl, sym, ◌∙◌, ap}
use mathlib.Core.List.{[], ◌∷◌}
use Prim.Native.Nat.{ℕ, suc, ◌+◌, ◌*◌, ◌-◌, ◌/◌, ◌^◌, ◌≤◌, ◌<◌}
use native.Mathlib.Nat.{mul-le-mul_left, div-lt_iff_lt-mul, div-eq_of_lt}
use native.Mathlib.Omega.{arith}
use lib.IntN.{ℤ, pos, neg_ℤ, nat_abs, ◌-ℤ◌, ◌*ℤ◌}
use lib.Pow.{pow_pos, pow-add}
use Rattle.ints.proofs.Ring.{ring, quotes}
use Rattle.ints.proofs.Abs.{abs_neg, abs_times}
use Rattle.ints.proofs.Powers.{two_pow}
use Rattle.ints.proofs.Rounding.{size_near}
use Rattle.cosine.specs.Cosine.{cosine, sine, fine, quarter_table}
use Rattle.cosine.proofs.Turn.{over_cosine, over_sine}
use Rattle.cosine.proofs.HalfAngle.{fine_end}
use Rattle.cosine.proofs.FineQuarter.{quarter_size}

-- ---- f / 2h to the nearest, over plain numbers

module _ (h : ℕ) (z : 0 < h) (f : ℕ) where
  nearest : ℕ
  nearest = (f + h) / (2 * h)

  scaled : (q : ℕ) → nat_abs (pos nearest *ℤ pos (2 * (h * q)) -ℤ pos f *ℤ pos q) ≤ h * q
  unfolding nearest
  scaled q = rw (out (pos ((f + h) / (2 * h))), abs_times) (omega (arith, mul-le-mul_left q (size_near h z f)))
    where
      out : (t : ℤ) → t *ℤ pos (2 * (h * q)) -ℤ pos f *ℤ pos q ≡ pos q *ℤ (pos (2 * h) *ℤ t -ℤ pos f)
      out t = ring (t ∷ pos f ∷ pos q ∷ pos h ∷ []) (search quotes depth 40) tt

  at_most : (q : ℕ) → f ≤ 2 * (h * q) → nearest ≤ q
  unfolding nearest
  at_most q k = below ((div-lt_iff_lt-mul {x = f + h} {y = suc q} (omega arith)).1 (omega arith))
    where
      below : {a b : ℕ} → a < suc b → a ≤ b
      below l = omega arith

-- ---- the table

module _ (s : ℕ) (fits : s < 60) where
  half : 2 ^ (60 - s) ≡ 2 * 2 ^ (59 - s)
  half = ap (λ (k : ℕ). 2 ^ k) up ∙ two_pow (59 - s)
    where
      up : 60 - s ≡ suc (59 - s)
      up = omega arith

  scale : 2 ^ (59 - s) * 2 ^ s ≡ 2 ^ 59
  scale = sym (pow-add 2 (59 - s) s) ∙ ap (λ (k : ℕ). 2 ^ k) whole
    where
      whole : 59 - s + s ≡ 59
      whole = omega arith

  table_is : (j : ℕ) → quarter_table s j ≡ nearest (2 ^ (59 - s)) (pow_pos (59 - s)) (fine j)
  unfolding quarter_table nearest
  table_is j = rw half refl

  -- the last number is 0, so that the table's turn is odd about 256
  pub table-end : quarter_table s 256 ≡ 0
  unfolding quarter_table
  table-end = rw (half, fine_end) (div-eq_of_lt (omega (arith, pow_pos (59 - s))))

  -- ---- near the fine cosines

  abbrev Near : ℤ → ℤ → Type 0
  Near t f = nat_abs (t *ℤ pos (2 ^ 60) -ℤ f *ℤ pos (2 ^ s)) ≤ 2 ^ 59

  turned : (t f : ℤ) → Near t f → Near (neg_ℤ t) (neg_ℤ f)
  turned t f h = rw (out t f (pos (2 ^ 60)) (pos (2 ^ s)), abs_neg) h
    where
      out : (t f u q : ℤ) → neg_ℤ t *ℤ u -ℤ neg_ℤ f *ℤ q ≡ neg_ℤ (t *ℤ u -ℤ f *ℤ q)
      out t f u q = ring (t ∷ f ∷ u ∷ q ∷ []) (search quotes depth 40) tt

  entry_near : (j : ℕ) → j ≤ 256 → Near (pos (quarter_table s j)) (pos (fine j))
  entry_near j h = rw table_is (rw scale at (scaled (2 ^ (59 - s)) (pow_pos (59 - s)) (fine j) (2 ^ s)))

  pub cosine_near : (j : ℕ) → nat_abs (cosine (quarter_table s) j *ℤ pos (2 ^ 60) -ℤ cosine fine j *ℤ pos (2 ^ s)) ≤ 2 ^ 59
  cosine_near = over_cosine (quarter_table s) fine Near turned entry_near

  pub sine_near : (j : ℕ) → nat_abs (sine (quarter_table s) j *ℤ pos (2 ^ 60) -ℤ sine fine j *ℤ pos (2 ^ s)) ≤ 2 ^ 59
  sine_near = over_sine (quarter_table s) fine Near turned entry_near

  -- ---- no larger than the scale

  pub entry_size : (j : ℕ) → j ≤ 256 → quarter_table s j ≤ 2 ^ s
  entry_size j h = rw table_is (at_most (2 ^ (59 - s)) (pow_pos (59 - s)) (fine j) (2 ^ s) (rw scale (quarter_size j h).alone))
