-- Levels 1 and 2 of four cells, modulo 2^31 − 1: a line is a sum where cosine and sine add to 1, and a difference where they add to −1.
use mathlib.Core.Path.{◌≡◌, refl}
use mathlib.Core.List.{List, [], ◌∷◌}
use Prim.Native.Nat.{ℕ, zero, suc, ◌+◌, ◌*◌, ◌≤◌, ◌<◌}
use native.Mathlib.Omega.{arith}
use lib.IntN.{ℤ, pos, neg_ℤ, nat_abs, ◌+ℤ◌, ◌-ℤ◌, ◌*ℤ◌}
use lib.ListN.{length, set}
use Rattle.ints.specs.Cells.{cell}
use Rattle.ints.proofs.Ring.{ring, quotes}
use Rattle.ints.proofs.Abs.{abs_plus, abs_minus}
use Rattle.spectrum.specs.Levels.{levels}
use Rattle.spectrum.proofs.Stages.{levels-cell}
use Rattle.residues.proofs.Congruent.{◌≈◌, ◌⊙◌, lin₁, ≈-is, ≈-sym, ≈-plus, ≈-minus}
use Rattle.residues.proofs.Residues.{same-residue}
use Rattle.turns.specs.Turn.{CHOSEN, cosine_at, sine_at}
use Rattle.turns.proofs.Angles.{cosine_after_half, sine_after_half}
use Rattle.turns.proofs.Chosen.{chosen_turn, cosine_quarter, sine_quarter}
use Rattle.exact_pair.specs.Pair.{NoneAbove, Stands}
use Rattle.exact_levels.specs.Ready.{exact_levels}

-- ---- cosine and sine at the quarters of the turn

abbrev C : ℕ → ℤ
C j = cosine_at CHOSEN j

abbrev S : ℕ → ℤ
S j = sine_at CHOSEN j

at_start : C 0 +ℤ S 0 ≈ pos 1
at_start = ≈-plus chosen_turn.cosine_start chosen_turn.sine_start

at_quarter : C 256 +ℤ S 256 ≈ pos 1
at_quarter = ≈-plus cosine_quarter sine_quarter

half_on : (j : ℕ) → C j +ℤ S j ≈ pos 1 → C (j + 512) +ℤ S (j + 512) ≈ neg_ℤ (pos 1)
half_on j h = ≈-plus (cosine_after_half chosen_turn j) (sine_after_half chosen_turn j) ⊙ lin₁ (neg_ℤ (pos 1)) h (ring (C j ∷ S j ∷ []) (search quotes depth 40) tt)

sum-line : (j : ℕ) → C j +ℤ S j ≈ pos 1 → (a b : ℤ) → a +ℤ (b *ℤ C j +ℤ b *ℤ S j) ≈ a +ℤ b
sum-line j h a b = lin₁ b h (ring (a ∷ b ∷ C j ∷ S j ∷ []) (search quotes depth 40) tt)

difference_line : (j : ℕ) → C j +ℤ S j ≈ neg_ℤ (pos 1) → (a b : ℤ) → a +ℤ (b *ℤ C j +ℤ b *ℤ S j) ≈ a -ℤ b
difference_line j h a b = lin₁ b h (ring (a ∷ b ∷ C j ∷ S j ∷ []) (search quotes depth 40) tt)

-- ---- the lines

abbrev four_lines : (ℕ → ℤ) → List ℤ
four_lines x = ((x 0 +ℤ x 1) +ℤ (x 2 +ℤ x 3)) ∷ ((x 0 -ℤ x 1) +ℤ (x 2 -ℤ x 3)) ∷ ((x 0 +ℤ x 1) -ℤ (x 2 +ℤ x 3)) ∷ ((x 0 -ℤ x 1) -ℤ (x 2 -ℤ x 3)) ∷ []

module _ (xs : List ℤ) (long : length xs ≡ 4) where
  abbrev x : ℕ → ℤ
  x i = cell xs i

  abbrev y : ℕ → ℤ
  y i = cell (exact_levels 1 xs) i

  sum_0 : y 0 ≈ x 0 +ℤ x 1
  unfolding levels
  sum_0 = ≈-is (levels-cell (λ z. z) C S 0 xs 0 (omega arith)) ⊙ sum-line 0 at_start (x 0) (x 1)

  difference_0 : y 1 ≈ x 0 -ℤ x 1
  unfolding levels
  difference_0 = ≈-is (levels-cell (λ z. z) C S 0 xs 1 (omega arith)) ⊙ difference_line 512 (half_on 0 at_start) (x 0) (x 1)

  sum_2 : y 2 ≈ x 2 +ℤ x 3
  unfolding levels
  sum_2 = ≈-is (levels-cell (λ z. z) C S 0 xs 2 (omega arith)) ⊙ sum-line 0 at_start (x 2) (x 3)

  difference_2 : y 3 ≈ x 2 -ℤ x 3
  unfolding levels
  difference_2 = ≈-is (levels-cell (λ z. z) C S 0 xs 3 (omega arith)) ⊙ difference_line 512 (half_on 0 at_start) (x 2) (x 3)

  lines : (i : ℕ) → i < 4 → cell (exact_levels 2 xs) i ≈ cell (four_lines x) i
  lines zero h = ≈-is (levels-cell (λ z. z) C S 1 xs 0 (omega arith)) ⊙ sum-line 0 at_start (y 0) (y 2) ⊙ ≈-plus sum_0 sum_2
  lines (suc zero) h = ≈-is (levels-cell (λ z. z) C S 1 xs 1 (omega arith)) ⊙ sum-line 256 at_quarter (y 1) (y 3) ⊙ ≈-plus difference_0 difference_2
  lines (suc (suc zero)) h = ≈-is (levels-cell (λ z. z) C S 1 xs 2 (omega arith)) ⊙ difference_line 512 (half_on 0 at_start) (y 0) (y 2) ⊙ ≈-minus sum_0 sum_2
  lines (suc (suc (suc zero))) h = ≈-is (levels-cell (λ z. z) C S 1 xs 3 (omega arith)) ⊙ difference_line 768 (half_on 256 at_quarter) (y 1) (y 3) ⊙ ≈-minus difference_0 difference_2
  lines (suc (suc (suc (suc i)))) h = absurd (never h)
    where
      never : suc (suc (suc (suc i))) < 4 → ⊥
      never h = omega arith

-- ---- four cells that hold them

-- no line is above four times what no cell is above
lines_small : (b : ℕ) (x : ℕ → ℤ) → ((i : ℕ) → nat_abs (x i) ≤ b) → (i : ℕ) → nat_abs (cell (four_lines x) i) ≤ 4 * b
lines_small b x h zero = omega (arith, abs_plus (x 0 +ℤ x 1) (x 2 +ℤ x 3), abs_plus (x 0) (x 1), abs_plus (x 2) (x 3), h 0, h 1, h 2, h 3)
lines_small b x h (suc zero) = omega (arith, abs_plus (x 0 -ℤ x 1) (x 2 -ℤ x 3), abs_minus (x 0) (x 1), abs_minus (x 2) (x 3), h 0, h 1, h 2, h 3)
lines_small b x h (suc (suc zero)) = omega (arith, abs_minus (x 0 +ℤ x 1) (x 2 +ℤ x 3), abs_plus (x 0) (x 1), abs_plus (x 2) (x 3), h 0, h 1, h 2, h 3)
lines_small b x h (suc (suc (suc zero))) = omega (arith, abs_minus (x 0 -ℤ x 1) (x 2 -ℤ x 3), abs_minus (x 0) (x 1), abs_minus (x 2) (x 3), h 0, h 1, h 2, h 3)
lines_small b x h (suc (suc (suc (suc i)))) = omega arith

four_stand : (b : ℕ) (xs : List ℤ) → length xs ≡ 4 → NoneAbove b xs → Stands (4 * b) 4 (cell (exact_levels 2 xs)) (four_lines (cell xs))
four_stand b xs long small = record { long = refl; same = λ i h. same-residue (≈-sym (lines xs long i h)); small = lines_small b (cell xs) small }

-- all four written over
four_set : (xs : List ℤ) (a b c d : ℤ) → length xs ≡ 4 → set (set (set (set xs 0 a) 1 b) 2 c) 3 d ≡ a ∷ b ∷ c ∷ d ∷ []
four_set (_ ∷ _ ∷ _ ∷ _ ∷ []) a b c d e = refl
four_set [] a b c d e = absurd (omega arith)
four_set (_ ∷ []) a b c d e = absurd (omega arith)
four_set (_ ∷ _ ∷ []) a b c d e = absurd (omega arith)
four_set (_ ∷ _ ∷ _ ∷ []) a b c d e = absurd (omega arith)
four_set (_ ∷ _ ∷ _ ∷ _ ∷ _ ∷ _) a b c d e = absurd (omega arith)

-- x are the cells as they were read, and p, q, r and s what is written over them
pub four_written : (b : ℕ) (xs : List ℤ) → length xs ≡ 4 → NoneAbove b xs → (x : ℕ → ℤ) → ((i : ℕ) → x i ≡ cell xs i) → (p q r s : ℤ) →
    p ≡ (x 0 +ℤ x 1) +ℤ (x 2 +ℤ x 3) → q ≡ (x 0 -ℤ x 1) +ℤ (x 2 -ℤ x 3) → r ≡ (x 0 +ℤ x 1) -ℤ (x 2 +ℤ x 3) → s ≡ (x 0 -ℤ x 1) -ℤ (x 2 -ℤ x 3) →
    Stands (4 * b) 4 (cell (exact_levels 2 xs)) (set (set (set (set xs 0 p) 1 q) 2 r) 3 s)
four_written b xs long small x same p q r s e f g h = rw (four_set xs p q r s long, e, f, g, h, same 0, same 1, same 2, same 3) (four_stand b xs long small)
