-- Cosine and sine over whole turns, after half a turn and at opposite angles, modulo 2^31 − 1; cas and its sum law. All of it follows from the sums
-- of angles, the squares and half a turn, which is (−1, 0).
use mathlib.Core.Path.{◌≡◌, ap}
use mathlib.Core.List.{[], ◌∷◌}
use Prim.Native.Nat.{ℕ, zero, suc, ◌+◌, ◌*◌}
use native.Mathlib.Omega.{arith}
use lib.IntN.{ℤ, pos, neg_ℤ, ◌+ℤ◌, ◌-ℤ◌, ◌*ℤ◌}
use Rattle.ints.proofs.Ring.{ring, quotes}
use Rattle.residues.proofs.Congruent.{◌≈◌, ◌⊙◌, lin₂, lin₃, ≈-is, ≈-sym, ≈-plus, ≈-minus, ≈-left}
use Rattle.turns.proofs.Turning.{Turning}

-- cosine and sine added, at an angle and at its opposite
abbrev pub cas_of : (ℕ → ℤ) → (ℕ → ℤ) → ℕ → ℤ
cas_of C S j = C j +ℤ S j

abbrev pub opposite_of : (ℕ → ℤ) → (ℕ → ℤ) → ℕ → ℤ
opposite_of C S j = C j -ℤ S j

pub at : (F : ℕ → ℤ) {i j : ℕ} → i ≡ j → F i ≈ F j
at F e = ≈-is (ap F e)

module _ {C S : ℕ → ℤ} (turn : Turning C S) where
  -- ---- half a turn changes the signs, a whole one nothing

  pub cosine_after_half : (j : ℕ) → C (j + 512) ≈ neg_ℤ (C j)
  cosine_after_half j = turn.cosine-sum j 512 ⊙ lin₂ (C j) turn.cosine-half (neg_ℤ (S j)) turn.sine-half (ring (C j ∷ S j ∷ C 512 ∷ S 512 ∷ []) (search quotes depth 40 fits 20000) tt)

  pub sine_after_half : (j : ℕ) → S (j + 512) ≈ neg_ℤ (S j)
  sine_after_half j = turn.sine-sum j 512 ⊙ lin₂ (S j) turn.cosine-half (C j) turn.sine-half (ring (C j ∷ S j ∷ C 512 ∷ S 512 ∷ []) (search quotes depth 40 fits 20000) tt)

  twice-negative : (F : ℕ → ℤ) → ((j : ℕ) → F (j + 512) ≈ neg_ℤ (F j)) → (j : ℕ) → F (j + 512 + 512) ≈ F j
  twice-negative F h j = lin₂ (pos 1) (h (j + 512)) (neg_ℤ (pos 1)) (h j) (ring (F (j + 512 + 512) ∷ F (j + 512) ∷ F j ∷ []) (search quotes depth 40 fits 20000) tt)

  turns : (F : ℕ → ℤ) → ((j : ℕ) → F (j + 512) ≈ neg_ℤ (F j)) → (j m : ℕ) → F (j + m * 1024) ≈ F j
  turns F h j zero = at F (omega arith)
  turns F h j (suc m) = at F more ⊙ twice-negative F h (j + m * 1024) ⊙ turns F h j m
    where
      more : j + suc m * 1024 ≡ j + m * 1024 + 512 + 512
      more = omega arith

  pub cosine_turns : (j m : ℕ) → C (j + m * 1024) ≈ C j
  cosine_turns = turns C cosine_after_half

  pub sine_turns : (j m : ℕ) → S (j + m * 1024) ≈ S j
  sine_turns = turns S sine_after_half

  whole-cosine : (m : ℕ) → C (m * 1024) ≈ pos 1
  whole-cosine m = at C (omega arith) ⊙ cosine_turns 0 m ⊙ turn.cosine_start

  whole-sine : (m : ℕ) → S (m * 1024) ≈ pos 0
  whole-sine m = at S (omega arith) ⊙ sine_turns 0 m ⊙ turn.sine_start

  -- ---- opposite angles

  module _ (i j m : ℕ) (e : i + j ≡ m * 1024) where
    one : C i *ℤ C j -ℤ S i *ℤ S j ≈ pos 1
    one = ≈-sym (turn.cosine-sum i j) ⊙ at C e ⊙ whole-cosine m

    none : C i *ℤ S j +ℤ S i *ℤ C j ≈ pos 0
    none = ≈-sym (turn.sine-sum i j) ⊙ at S e ⊙ whole-sine m

    pub cosine-even : C i ≈ C j
    cosine-even = lin₃ (C j) one (S j) none (neg_ℤ (C i)) (turn.squares j) (ring (C i ∷ S i ∷ C j ∷ S j ∷ []) (search quotes depth 40 fits 20000) tt)

    pub sine_odd : S i ≈ neg_ℤ (S j)
    sine_odd = lin₃ (neg_ℤ (S j)) one (C j) none (neg_ℤ (S i)) (turn.squares j) (ring (C i ∷ S i ∷ C j ∷ S j ∷ []) (search quotes depth 40 fits 20000) tt)

    pub cas-opposite : cas_of C S i ≈ opposite_of C S j
    cas-opposite = ≈-plus cosine-even sine_odd

  -- ---- where a quarter of the turn is (0, 1), the sine is the cosine of what is left to the quarter

  module _ (quarter-cosine : C 256 ≈ pos 0) (quarter-sine : S 256 ≈ pos 1) where
    pub sine_by_cosine : (i j : ℕ) → i + j ≡ 256 → S i ≈ C j
    sine_by_cosine i j e = lin₃ (C j) (≈-sym (turn.sine-sum i j) ⊙ at S e ⊙ quarter-sine) (neg_ℤ (S j)) (≈-sym (turn.cosine-sum i j) ⊙ at C e ⊙ quarter-cosine)
        (neg_ℤ (S i)) (turn.squares j) (ring (C i ∷ S i ∷ C j ∷ S j ∷ []) (search quotes depth 40 fits 20000) tt)

  -- ---- cas

  pub cas_turns : (j m : ℕ) → cas_of C S (j + m * 1024) ≈ cas_of C S j
  cas_turns j m = ≈-plus (cosine_turns j m) (sine_turns j m)

  -- the angle j + k by way of j and its opposite
  pub cas-sum : (j k : ℕ) → cas_of C S (j + k) ≈ cas_of C S j *ℤ C k +ℤ opposite_of C S j *ℤ S k
  cas-sum j k = ≈-plus (turn.cosine-sum j k) (turn.sine-sum j k) ⊙ ≈-is (ring (C j ∷ S j ∷ C k ∷ S k ∷ []) (search quotes depth 40 fits 20000) tt)

  -- a product of two: with the opposite o of k, cas j cas k is the cosine of j + o and the sine of j + k
  pub cas_product : (j k o m : ℕ) → o + k ≡ m * 1024 → cas_of C S j *ℤ cas_of C S k ≈ C (j + o) +ℤ S (j + k)
  cas_product j k o m e = ≈-sym (≈-plus (turn.cosine-sum j o ⊙ ≈-minus (≈-left (C j) (cosine-even o k m e)) (≈-left (S j) (sine_odd o k m e))) (turn.sine-sum j k)
      ⊙ ≈-is (ring (C j ∷ S j ∷ C k ∷ S k ∷ []) (search quotes depth 40 fits 20000) tt))
