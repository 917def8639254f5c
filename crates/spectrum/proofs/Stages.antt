-- The stages of the transform cell by cell: the length stays, a cell after a level is the line that `joined` gives, and a cell after some
-- levels depends on the cells of its own block alone.
-- Example: `level-cell R C S 2 xs 3 h : cell (level R C S 2 xs) 3 ≡ joined R C S 2 (cell xs) 3`, with h : 3 < length xs.
use mathlib.Core.Path.{◌≡◌, refl, sym, ◌∙◌, ap}
use mathlib.Core.List.{List}
use Prim.Native.Nat.{ℕ, zero, suc, ◌+◌, ◌*◌, ◌-◌, ◌/◌, ◌%◌, ◌^◌, ◌≤◌, ◌<◌}
use native.Mathlib.Nat.{mul_assoc, mod-lt, mul-add-div_right, mul-add-mod_self_right, div-lt_iff_lt-mul, mul-le-mul_right}
use native.Mathlib.Omega.{arith}
use lib.IntN.{ℤ, pos, ◌+ℤ◌, ◌*ℤ◌}
use lib.ListN.{length}
use lib.Pow.{pow_pos}
use Rattle.ints.proofs.Powers.{two_pow}
use Rattle.ints.proofs.Tables.{get_d_tabulate, length-tabulate}
use Rattle.ints.specs.Cells.{cell}
use Rattle.spectrum.specs.Levels.{reversed, permuted, line, joined, level, levels}

pub length-permuted : (P : ℕ) (xs : List ℤ) → length (permuted P xs) ≡ 2 ^ P
unfolding permuted
length-permuted P xs = length-tabulate (2 ^ P) (λ i. cell xs (reversed P i))

module _ (R : ℤ → ℤ) (C S : ℕ → ℤ) where
  pub length-level : (n : ℕ) (xs : List ℤ) → length (level R C S n xs) ≡ length xs
  unfolding level
  length-level n xs = length-tabulate (length xs) (joined R C S n (cell xs))

  pub length-levels : (L : ℕ) (xs : List ℤ) → length (levels R C S L xs) ≡ length xs
  unfolding levels
  length-levels zero xs = refl
  length-levels (suc L) xs = length-level (2 ^ L) (levels R C S L xs) ∙ length-levels L xs

  pub level-cell : (n : ℕ) (xs : List ℤ) (i : ℕ) → i < length xs → cell (level R C S n xs) i ≡ joined R C S n (cell xs) i
  unfolding level
  level-cell n xs i h = get_d_tabulate (length xs) (joined R C S n (cell xs)) (pos 0) i h

  -- the same at the last of the levels
  pub levels-cell : (L : ℕ) (xs : List ℤ) (i : ℕ) → i < length xs → cell (levels R C S (suc L) xs) i ≡ joined R C S (2 ^ L) (cell (levels R C S L xs)) i
  unfolding levels
  levels-cell L xs i h = level-cell (2 ^ L) (levels R C S L xs) i (rw (length-levels L xs) h)

  -- ---- a line reads the n cells of each half, and no other

  combined : (c s : ℤ) {p q x y u w : ℤ} → p ≡ q → x ≡ y → u ≡ w → p +ℤ R (x *ℤ c +ℤ u *ℤ s) ≡ q +ℤ R (y *ℤ c +ℤ w *ℤ s)
  combined c s e f g = rw (e, f, g) refl

  pub line_cong : (n : ℕ) (a c b d : ℕ → ℤ) (v : ℕ) → zero < n → ((j : ℕ) → j < n → a j ≡ c j) → ((j : ℕ) → j < n → b j ≡ d j) →
      line R C S n a b v ≡ line R C S n c d v
  line_cong n a c b d v z h k = combined _ _ (h _ (mod-lt v z)) (k _ (mod-lt v z)) (k _ (omega (arith, mod-lt v z, mod-lt (n - v % n) z)))

  -- where x from cell m · 2n on has the cells of y, as far as k · 2n of them, it is so after the level too
  pub joined-within : (n m k : ℕ) (x y : ℕ → ℤ) → zero < n → ((j : ℕ) → j < k * (2 * n) → x (m * (2 * n) + j) ≡ y j) →
      (i : ℕ) → i < k * (2 * n) → joined R C S n x (m * (2 * n) + i) ≡ joined R C S n y i
  joined-within n m k x y z h i hi = rw (mul-add-mod_self_right m (2 * n) i, mul-add-div_right two m i)
      (line_cong n _ _ _ _ (i % (2 * n)) z (λ j hj. ap x (place j) ∙ h (i / (2 * n) * (2 * n) + j) (below j (omega arith)))
      (λ j hj. ap x (place (n + j)) ∙ h (i / (2 * n) * (2 * n) + (n + j)) (below (n + j) (omega arith))))
    where
      two : zero < 2 * n
      two = omega arith

      place : (j : ℕ) → (m + i / (2 * n)) * (2 * n) + j ≡ m * (2 * n) + (i / (2 * n) * (2 * n) + j)
      place j = omega arith

      below : (j : ℕ) → j < 2 * n → i / (2 * n) * (2 * n) + j < k * (2 * n)
      below j hj = omega (arith, mul-le-mul_right (2 * n) ((div-lt_iff_lt-mul two).1 hi))

  -- and after L levels, with blocks of 2^L cells
  pub levels-within : (L m k : ℕ) (xs ys : List ℤ) → (m + k) * 2 ^ L ≤ length xs → k * 2 ^ L ≤ length ys →
      ((j : ℕ) → j < k * 2 ^ L → cell xs (m * 2 ^ L + j) ≡ cell ys j) →
      (i : ℕ) → i < k * 2 ^ L → cell (levels R C S L xs) (m * 2 ^ L + i) ≡ cell (levels R C S L ys) i
  levels-within zero m k xs ys hx hy h i hi = unfold levels in h i hi
  levels-within (suc L) m k xs ys hx hy h i hi =
      levels-cell L xs (m * 2 ^ suc L + i) (omega arith) ∙ ap (λ (N : ℕ). joined R C S (2 ^ L) (cell (levels R C S L xs)) (m * N + i)) (two_pow L)
      ∙ joined-within (2 ^ L) m k (cell (levels R C S L xs)) (cell (levels R C S L ys)) (pow_pos L)
      (λ j hj. ap (λ (p : ℕ). cell (levels R C S L xs) (p + j)) (sym (mul_assoc m 2 (2 ^ L)))
      ∙ levels-within L (m * 2) (k * 2) xs ys (omega (arith, same m, same k)) (omega (arith, same k))
      (λ j hj. ap (λ (p : ℕ). cell xs (p + j)) (same m) ∙ h j (omega (arith, same k, hj))) j (omega (arith, hj)))
      i (omega (arith, same k)) ∙ sym (levels-cell L ys i (omega arith))
    where
      same : (m : ℕ) → m * 2 * 2 ^ L ≡ m * 2 ^ suc L
      same m = mul_assoc m 2 (2 ^ L) ∙ ap (λ (p : ℕ). m * p) (sym (two_pow L))
