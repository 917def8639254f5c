-- Line 0 of the transform is the sum of the samples, exactly: at v = 0 every level has C = q and S = 0, and the rounding of q b is b.
-- Example: `first-line near 2 xs : cell (transformed R C S 2 xs) 0 ≡ sum 4 (cell xs)`.
use mathlib.Core.Path.{◌≡◌, sym, ◌∙◌, ap, ap₂}
use mathlib.Core.List.{List, [], ◌∷◌}
use Prim.Native.Nat.{ℕ, zero, suc, ◌+◌, ◌*◌, ◌-◌, ◌/◌, ◌%◌, ◌^◌, ◌<◌}
use native.Mathlib.Nat.{zero-mod, div-eq_of_lt}
use native.Mathlib.Omega.{arith}
use lib.IntN.{ℤ, pos, ◌+ℤ◌, ◌*ℤ◌, +ℤ_idl}
use lib.Pow.{pow_pos}
use Rattle.ints.specs.Sum.{sum}
use Rattle.ints.specs.Tabulate.{tabulate}
use Rattle.ints.proofs.Ring.{ring, quotes}
use Rattle.ints.proofs.Powers.{two_pow}
use Rattle.ints.proofs.Sums.{sum-even_odd}
use Rattle.cosine.proofs.FineTurn.{quarter_unit}
use Rattle.ints.specs.Cells.{cell}
use Rattle.spectrum.specs.Levels.{reversed, permuted, line, levels, transformed}
use Rattle.spectrum.proofs.EvenOdd.{lines, even_odd}
use Rattle.spectrum.proofs.Nearest.{Nearest, exact-quotient}

module _ {q : ℕ} {R : ℤ → ℤ} {C S : ℕ → ℤ} (near : Nearest q R C S) where
  joined-first : (n : ℕ) → zero < n → (a b : ℕ → ℤ) → line R C S n a b 0 ≡ a 0 +ℤ b 0
  unfolding quarter_unit
  joined-first n z a b = rw (zero-mod n, still) (ap (λ (y : ℤ). a 0 +ℤ y) (exact-quotient near 0 (b 0) (b ((n - 0) % n)) ∙ alone (b 0) (b ((n - 0) % n))))
    where
      still : 0 * 1024 / (2 * n) ≡ 0
      still = div-eq_of_lt (omega arith)

      alone : (c d : ℤ) → c *ℤ pos 1 +ℤ d *ℤ pos 0 ≡ c
      alone c d = ring (c ∷ d ∷ []) (search quotes) tt

  lines_first : (P : ℕ) (x : ℕ → ℤ) → lines R C S P x 0 ≡ sum (2 ^ P) x
  unfolding sum tabulate levels reversed
  lines_first zero x = sym (+ℤ_idl (x 0))
  lines_first (suc P) x = even_odd R C S P x 0 (pow_pos (suc P)) ∙ joined-first (2 ^ P) (pow_pos P) (lines R C S P (λ t. x (2 * t))) (lines R C S P (λ t. x (2 * t + 1)))
      ∙ ap₂ ◌+ℤ◌ (lines_first P (λ t. x (2 * t))) (lines_first P (λ t. x (2 * t + 1))) ∙ sym (ap (λ (N : ℕ). sum N x) (two_pow P) ∙ sum-even_odd (2 ^ P) x)

  pub first-line : (P : ℕ) (xs : List ℤ) → cell (transformed R C S P xs) 0 ≡ sum (2 ^ P) (cell xs)
  unfolding transformed permuted
  first-line P xs = lines_first P (cell xs)
