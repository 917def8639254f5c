-- A block and its negative have spectra that are negatives of each other, line by line (document 02, Item 1): where the rounding is odd, so is every
-- step. The same for a spectrum and backward.
-- Example: `forward-negated 3 xs : forward 3 (negated xs) ≡ negated (forward 3 xs)`.
use mathlib.Core.Path.{◌≡◌, refl, ◌∙◌, ap}
use mathlib.Core.List.{List, [], ◌∷◌, map}
use Prim.Native.Nat.{ℕ, zero, suc, ◌^◌}
use lib.IntN.{ℤ, neg_ℤ, ◌+ℤ◌, ◌*ℤ◌}
use lib.ListN.{length}
use lib.Pow.{pow_pos}
use Rattle.ints.specs.Cells.{cell, negated}
use Rattle.ints.specs.Quotient.{rounded}
use Rattle.ints.specs.Tabulate.{tabulate}
use Rattle.ints.proofs.Ring.{ring, quotes}
use Rattle.ints.proofs.Rounding.{rounded_odd}
use Rattle.ints.proofs.Negation.{cell-negated, length-negated, map-negated, tabulate-negated}
use Rattle.kind.specs.BlockKinds.{SCALE_DIGITS}
use Rattle.spectrum.specs.Levels.{reversed, permuted, joined, level, levels, transformed}
use Rattle.spectrum.specs.Spectrum.{table_cosine, table_sine, forward_at, forward, backward}

permuted-negated : (P : ℕ) (xs : List ℤ) → permuted P (negated xs) ≡ negated (permuted P xs)
unfolding permuted
permuted-negated P xs = tabulate-negated (2 ^ P) _ _ (λ i. cell-negated xs (reversed P i))

module _ (R : ℤ → ℤ) (odd : (x : ℤ) → R (neg_ℤ x) ≡ neg_ℤ (R x)) (C S : ℕ → ℤ) where
  -- a line, of cell i of the first half and cells j and k of the second
  line-negated : (xs : List ℤ) (i j k : ℕ) (c s : ℤ) → cell (negated xs) i +ℤ R (cell (negated xs) j *ℤ c +ℤ cell (negated xs) k *ℤ s)
      ≡ neg_ℤ (cell xs i +ℤ R (cell xs j *ℤ c +ℤ cell xs k *ℤ s))
  line-negated xs i j k c s = rw (cell-negated xs i, cell-negated xs j, cell-negated xs k) (go (cell xs i) (cell xs j) (cell xs k))
    where
      go : (a b b' : ℤ) → neg_ℤ a +ℤ R (neg_ℤ b *ℤ c +ℤ neg_ℤ b' *ℤ s) ≡ neg_ℤ (a +ℤ R (b *ℤ c +ℤ b' *ℤ s))
      go a b b' = ap (λ (z : ℤ). neg_ℤ a +ℤ R z) (ring (b ∷ b' ∷ c ∷ s ∷ []) (search quotes depth 40) tt)
          ∙ ap (λ (z : ℤ). neg_ℤ a +ℤ z) (odd (b *ℤ c +ℤ b' *ℤ s)) ∙ ring (a ∷ R (b *ℤ c +ℤ b' *ℤ s) ∷ []) (search quotes) tt

  level-negated : (n : ℕ) (xs : List ℤ) → level R C S n (negated xs) ≡ negated (level R C S n xs)
  unfolding level
  level-negated n xs = ap (λ (N : ℕ). tabulate N (joined R C S n (cell (negated xs)))) (length-negated xs)
      ∙ tabulate-negated (length xs) (joined R C S n (cell (negated xs))) (joined R C S n (cell xs))
      (λ i. line-negated xs _ _ _ _ _)

  levels-negated : (L : ℕ) (xs : List ℤ) → levels R C S L (negated xs) ≡ negated (levels R C S L xs)
  unfolding levels
  levels-negated zero xs = refl
  levels-negated (suc L) xs = ap (level R C S (2 ^ L)) (levels-negated L xs) ∙ level-negated (2 ^ L) (levels R C S L xs)

  transformed-negated : (P : ℕ) (xs : List ℤ) → transformed R C S P (negated xs) ≡ negated (transformed R C S P xs)
  unfolding transformed
  transformed-negated P xs = ap (levels R C S P) (permuted-negated P xs) ∙ levels-negated P (permuted P xs)

-- ---- at every scale 2^s, and in force

pub forward-negated_at : (s P : ℕ) (xs : List ℤ) → forward_at s P (negated xs) ≡ negated (forward_at s P xs)
unfolding forward_at
forward-negated_at s = transformed-negated (rounded (2 ^ s)) (rounded_odd (2 ^ s) (pow_pos s)) (table_cosine s) (table_sine s)

pub forward-negated : (P : ℕ) (xs : List ℤ) → forward P (negated xs) ≡ negated (forward P xs)
unfolding forward
forward-negated = forward-negated_at SCALE_DIGITS

pub backward-negated : (P : ℕ) (xs : List ℤ) → backward P (negated xs) ≡ negated (backward P xs)
unfolding backward
backward-negated P xs = ap (map _) (forward-negated P xs) ∙ map-negated _ (rounded_odd (2 ^ P) (pow_pos P)) (forward P xs)
