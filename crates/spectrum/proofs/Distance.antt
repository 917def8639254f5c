-- Step 5 of the proof of demand 3, the distance theorem, for every scale of at least 12, every rounding and table to the nearest, and every bound
-- M of the samples up to 2^43: each line of the transform, times 2^60, is at most `bound` × 2^60 from the direct sum. By induction over the levels, of
-- which `line_near` and `line-exact` are the step: levels 1 and 2 turn by quarters and lose nothing, and each level after them makes B into
-- 5/2 B + n M / q + 1, rounded up.
-- Example: `distance near 32768 M-small P few xs long quiet v h`, with near : Nearest q R C S and M-small : 32768 ≤ LARGEST_M.
use mathlib.Core.Path.{◌≡◌, refl, sym, ◌∙◌, ap, ap₂}
use mathlib.Core.List.{List, [], ◌∷◌}
use Prim.Native.Nat.{ℕ, zero, suc, ◌+◌, ◌*◌, ◌-◌, ◌^◌, ◌≤◌, ◌<◌}
use native.Mathlib.Nat.{eq_of_mul-eq-mul_left}
use native.Mathlib.Omega.{arith}
use lib.IntN.{ℤ, pos, nat_abs, ◌+ℤ◌, ◌-ℤ◌, ◌*ℤ◌}
use lib.ListN.{length}
use lib.Pow.{pow_pos, pow-add}
use Rattle.ints.specs.Sum.{sum}
use Rattle.ints.specs.Tabulate.{tabulate}
use Rattle.ints.proofs.Ring.{ring, quotes}
use Rattle.ints.proofs.Powers.{two_pow}
use Rattle.cosine.specs.Cosine.{cas, fine}
use Rattle.cosine.proofs.FineTurn.{cosine_zero, sine_zero}
use Rattle.ints.specs.Cells.{cell}
use Rattle.spectrum.specs.Levels.{reversed, levels, transformed}
use Rattle.spectrum.specs.Distance.{ceiling, bound, direct_sum}
use Rattle.spectrum.proofs.EvenOdd.{lines, transformed_lines, even_odd}
use Rattle.spectrum.proofs.DirectSplit.{direct, direct_sum-is}
use Rattle.spectrum.proofs.Nearest.{LARGEST_M, Nearest}
use Rattle.spectrum.proofs.OneLevel.{line_near, line-exact}

-- a turn has 2^P steps of 2^(10−P)
pub whole_turn : (P : ℕ) → P ≤ 10 → 2 ^ P * 2 ^ (10 - P) ≡ 1024
whole_turn P few = sym (pow-add 2 P (10 - P)) ∙ ap (λ (k : ℕ). 2 ^ k) ten
  where
    ten : P + (10 - P) ≡ 10
    ten = omega arith

cas_zero : cas fine 0 ≡ pos (2 ^ 60)
unfolding cas
cas_zero = ap₂ ◌+ℤ◌ cosine_zero sine_zero

module _ {q : ℕ} {R : ℤ → ℤ} {C S : ℕ → ℤ} (near : Nearest q R C S) (M : ℕ) (M-small : M ≤ LARGEST_M) where
  -- all lines of 2^P samples are within B. The induction carries g with 2^P g = 1,024.
  abbrev AllNear : ℕ → ℕ → Type 0
  AllNear P B = (g : ℕ) → 2 ^ P * g ≡ 1024 → (x : ℕ → ℤ) → ((t : ℕ) → nat_abs (x t) ≤ M) → (v : ℕ) → v < 2 ^ P →
      nat_abs (lines R C S P x v *ℤ pos (2 ^ 60) -ℤ direct (2 ^ P) x v) ≤ B * 2 ^ 60

  -- one sample is its own spectrum
  near_zero : AllNear 0 0
  unfolding sum tabulate levels reversed
  near_zero g e x quiet v h = rw (first, cas_zero, none (x 0) (pos (2 ^ 60))) (omega arith)
    where
      first : v ≡ 0
      first = omega arith

      none : (y u : ℤ) → y *ℤ u -ℤ (pos 0 +ℤ y *ℤ u) ≡ pos 0
      none y u = ring (y ∷ u ∷ []) (search quotes depth 40) tt

  module _ (P g : ℕ) (e : 2 ^ suc P * g ≡ 1024) where
    doubled : 2 * 2 ^ P * g ≡ 1024
    doubled = rw (two_pow P) at e

    halved : 2 ^ P * (2 * g) ≡ 1024
    halved = omega (arith, doubled)

  near_suc : (P B : ℕ) → AllNear P B → AllNear (suc P) (ceiling (5 * B) 2 + ceiling (2 ^ P * M) q + 1)
  near_suc P B ih g e x quiet v h = rw (even_odd R C S P x v h, two_pow P)
      (line_near (2 ^ P) g (pow_pos P) (doubled P g e) x M quiet v near (lines R C S P (λ u. x (2 * u))) (lines R C S P (λ u. x (2 * u + 1))) B M-small
      (ih (2 * g) (halved P g e) (λ u. x (2 * u)) (λ u. quiet (2 * u))) (ih (2 * g) (halved P g e) (λ u. x (2 * u + 1)) (λ u. quiet (2 * u + 1))))

  -- where a step of the turn is m quarters, the distance stays 0
  near_exact : (P m : ℕ) → 2 ^ suc P * (m * 256) ≡ 1024 → AllNear P 0 → AllNear (suc P) 0
  near_exact P m k ih g e x quiet v h = rw (even_odd R C S P x v h, two_pow P)
      (line-exact (2 ^ P) g (pow_pos P) (doubled P g e) x M quiet v near (lines R C S P (λ u. x (2 * u))) (lines R C S P (λ u. x (2 * u + 1)))
      m (eq_of_mul-eq-mul_left (2 ^ suc P) (pow_pos (suc P)) g (m * 256) (e ∙ sym k))
      (ih (2 * g) (halved P g e) (λ u. x (2 * u)) (λ u. quiet (2 * u))) (ih (2 * g) (halved P g e) (λ u. x (2 * u + 1)) (λ u. quiet (2 * u + 1))))

  near_bound : (P : ℕ) → AllNear P (bound q M P)
  unfolding bound
  near_bound zero = near_zero
  near_bound (suc zero) = near_exact 0 2 refl near_zero
  near_bound (suc (suc zero)) = near_exact 1 1 refl (near_exact 0 2 refl near_zero)
  near_bound (suc (suc (suc P))) = near_suc (suc (suc P)) (bound q M (suc (suc P))) (near_bound (suc (suc P)))

  -- ---- for samples in a function, and for those of a list

  pub lines_near : (P : ℕ) → P ≤ 10 → (x : ℕ → ℤ) → ((t : ℕ) → nat_abs (x t) ≤ M) → (v : ℕ) → v < 2 ^ P →
      nat_abs (lines R C S P x v *ℤ pos (2 ^ 60) -ℤ direct (2 ^ P) x v) ≤ bound q M P * 2 ^ 60
  lines_near P few = near_bound P (2 ^ (10 - P)) (whole_turn P few)

  pub distance : (P : ℕ) → P ≤ 10 → (xs : List ℤ) → length xs ≡ 2 ^ P → ((t : ℕ) → nat_abs (cell xs t) ≤ M) → (v : ℕ) → v < 2 ^ P →
      nat_abs (cell (transformed R C S P xs) v *ℤ pos (2 ^ 60) -ℤ direct_sum fine xs v) ≤ bound q M P * 2 ^ 60
  distance P few xs long quiet v h = rw (transformed_lines R C S P xs v, direct_sum-is xs v, long) (lines_near P few (cell xs) quiet v h)
