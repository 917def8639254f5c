-- Step 1 of the proof of demand 3, the even/odd law: the spectrum of 2n samples joins those of the samples at even and at odd moments, because
-- the reversed digits put the even moments first. The induction runs on it. More generally, what stands in the cells between the levels are
-- spectra of samples that are 2^K moments apart.
-- Example: `even_odd R C S 2 x 5 h` says line 5 of the 8 samples x is joined from the lines of x 0, x 2, x 4, x 6 and of x 1, x 3, x 5, x 7.
use mathlib.Core.Path.{◌≡◌, refl, sym, ◌∙◌, ap, fun_ext}
use mathlib.Core.List.{List}
use Prim.Native.Nat.{ℕ, suc, ◌+◌, ◌*◌, ◌^◌, ◌≤◌, ◌<◌}
use native.Mathlib.Nat.{add-zero, mod-eq_of_lt, div-eq_of_lt, mul-le-mul_right}
use native.Mathlib.Omega.{arith}
use lib.IntN.{ℤ, pos}
use lib.Pow.{pow_pos, pow-add}
use Rattle.ints.specs.Tabulate.{tabulate}
use Rattle.ints.proofs.Powers.{two_pow}
use Rattle.ints.proofs.Tables.{get_d_tabulate, length-tabulate}
use Rattle.ints.specs.Cells.{cell}
use Rattle.spectrum.specs.Levels.{reversed, permuted, line, levels, transformed}
use Rattle.spectrum.proofs.Reversal.{reversed-split}
use Rattle.spectrum.proofs.Stages.{levels-cell, line_cong, levels-within}

-- the 2^P samples x 0, x 1, .. in reversed order
abbrev pub placed : ℕ → (ℕ → ℤ) → List ℤ
placed P x = tabulate (2 ^ P) (λ i. x (reversed P i))

module _ (R : ℤ → ℤ) (C S : ℕ → ℤ) where
  -- the lines of their spectrum
  abbrev pub lines : ℕ → (ℕ → ℤ) → ℕ → ℤ
  lines P x v = cell (levels R C S P (placed P x)) v

  pub transformed_lines : (P : ℕ) (xs : List ℤ) (v : ℕ) → cell (transformed R C S P xs) v ≡ lines P (cell xs) v
  unfolding transformed permuted
  transformed_lines P xs v = refl

  -- ---- after L levels, block m of 2^L cells is a spectrum of samples that stand 2^K moments apart

  pub block_lines_lem : (L K P : ℕ) → P ≡ L + K → (x : ℕ → ℤ) (m j : ℕ) → m < 2 ^ K → j < 2 ^ L →
      cell (levels R C S L (placed P x)) (m * 2 ^ L + j) ≡ lines L (λ t. x (t * 2 ^ K + reversed K m)) j
  block_lines_lem L K P e x m j hm hj = levels-within R C S L m 1 (placed P x) (placed L y)
      (rw (length-tabulate (2 ^ P) (λ i. x (reversed P i))) room) (rw (length-tabulate (2 ^ L) (λ i. y (reversed L i))) (omega arith))
      (λ i hi. get_d_tabulate (2 ^ P) (λ i. x (reversed P i)) (pos 0) (m * 2 ^ L + i) (omega (arith, room))
      ∙ ap x (reversed-split L K P m i e (omega (arith, hi))) ∙ sym (get_d_tabulate (2 ^ L) (λ i. y (reversed L i)) (pos 0) i (omega (arith, hi)))) j (omega arith)
    where
      y : ℕ → ℤ
      y t = x (t * 2 ^ K + reversed K m)

      room : (m + 1) * 2 ^ L ≤ 2 ^ P
      room = rw (e, pow-add 2 L K) (omega (arith, mul-le-mul_right (2 ^ L) hm))

  -- ---- the even and the odd moments: two blocks before the last level

  half : (P d : ℕ) (x y : ℕ → ℤ) → d ≤ 1 → ((t : ℕ) → x (2 * t + d) ≡ y t) → (j : ℕ) → j < 2 ^ P →
      cell (levels R C S P (placed (suc P) x)) (d * 2 ^ P + j) ≡ lines P y j
  unfolding reversed
  half P d x y hd same j hj = block_lines_lem P 1 (suc P) (omega arith) x d j (omega arith) hj ∙ ap (λ (w : ℕ → ℤ). lines P w j) (fun_ext (λ t. ap x (moment t) ∙ same t))
    where
      moment : (t : ℕ) → t * 2 ^ 1 + reversed 1 d ≡ 2 * t + d
      moment t = omega arith

  pub even_odd : (P : ℕ) (x : ℕ → ℤ) (v : ℕ) → v < 2 ^ suc P → lines (suc P) x v ≡ line R C S (2 ^ P) (lines P (λ t. x (2 * t))) (lines P (λ t. x (2 * t + 1))) v
  even_odd P x v hv = levels-cell R C S P (placed (suc P) x) v (rw (length-tabulate (2 ^ suc P) (λ i. x (reversed (suc P) i))) hv)
      ∙ rw (mod-eq_of_lt below, div-eq_of_lt below)
      (line_cong R C S (2 ^ P) _ _ _ _ v (pow_pos P) (λ j hj. ap y (first j) ∙ half P 0 x _ (omega arith) (λ t. ap x (add-zero (2 * t))) j hj)
      (λ j hj. ap y (second j) ∙ half P 1 x _ (omega arith) (λ t. refl) j hj))
    where
      y : ℕ → ℤ
      y = cell (levels R C S P (placed (suc P) x))

      below : v < 2 * 2 ^ P
      below = omega (arith, two_pow P)

      first : (j : ℕ) → 0 * (2 * 2 ^ P) + j ≡ 0 * 2 ^ P + j
      first j = omega arith

      second : (j : ℕ) → 0 * (2 * 2 ^ P) + (2 ^ P + j) ≡ 1 * 2 ^ P + j
      second j = omega arith
