-- The magnitude law, from the distance theorem: how large the lines of a spectrum are, and the cells between the levels. By it every sum of
-- two products stays in 64 bits, forward and backward.
-- Example: `level-size near M M-small L P few-levels few xs quiet i` says cell i after L levels is 2 (2^L M) + 2 bound at most.
use mathlib.Core.Path.{◌≡◌, sym, ◌∙◌, ap}
use mathlib.Core.Bool.{Bool, true, false, not}
use mathlib.Core.List.{List}
use Prim.Native.Nat.{ℕ, ◌+◌, ◌*◌, ◌-◌, ◌/◌, ◌%◌, ◌^◌, ◌≤◌, ◌<◌}
use native.Mathlib.Nat.{mod-lt, mod-eq_of_lt, mul_comm, div-add-mod', div-lt_iff_lt-mul, le_of_mul-le-mul_left}
use native.Mathlib.Omega.{arith}
use lib.Dec.{T, ltb, ltb→lt, nltb→le}
use lib.IntN.{ℤ, pos, nat_abs}
use lib.ListN.{get_or-eq_default}
use lib.Pow.{pow_pos, pow-add}
use Rattle.ints.specs.Cells.{cell}
use Rattle.spectrum.specs.Levels.{reversed, permuted, levels, transformed}
use Rattle.spectrum.specs.Distance.{bound}
use Rattle.spectrum.proofs.Stages.{length-permuted, length-levels}
use Rattle.spectrum.proofs.EvenOdd.{lines, placed, block_lines_lem}
use Rattle.spectrum.proofs.Step.{size_of_near, sizes}
use Rattle.spectrum.proofs.DirectSplit.{direct, direct_size, direct_pair_size}
use Rattle.spectrum.proofs.Nearest.{LARGEST_M, Nearest}
use Rattle.spectrum.proofs.Distance.{whole_turn, lines_near}

module _ {q : ℕ} {R : ℤ → ℤ} {C S : ℕ → ℤ} (near : Nearest q R C S) (M : ℕ) (M-small : M ≤ LARGEST_M) where
  -- ---- a line and its mirror together, and a line alone

  lines_and_mirrors : (P : ℕ) → P ≤ 10 → (x : ℕ → ℤ) → ((t : ℕ) → nat_abs (x t) ≤ M) → (v : ℕ) → v < 2 ^ P →
      nat_abs (lines R C S P x v) + nat_abs (lines R C S P x ((2 ^ P - v) % 2 ^ P)) ≤ 2 * (2 ^ P * M) + 2 * bound q M P
  lines_and_mirrors P few x quiet v h = let w = (2 ^ P - v) % 2 ^ P in
      sizes (2 ^ 60) (2 ^ P * M) (bound q M P) (lines R C S P x v) (lines R C S P x w) (direct (2 ^ P) x v) (direct (2 ^ P) x w) (omega arith)
      (lines_near near M M-small P few x quiet v h) (lines_near near M M-small P few x quiet w (mod-lt (2 ^ P - v) (pow_pos P)))
      (rw (mod-eq_of_lt h) at (direct_pair_size (2 ^ P) (2 ^ (10 - P)) (pow_pos P) (whole_turn P few) x M quiet v))

  pub line_and_mirror_size : (P : ℕ) → P ≤ 10 → (xs : List ℤ) → ((t : ℕ) → nat_abs (cell xs t) ≤ M) → (v : ℕ) → v < 2 ^ P →
      nat_abs (cell (transformed R C S P xs) v) + nat_abs (cell (transformed R C S P xs) ((2 ^ P - v) % 2 ^ P)) ≤ 2 * (2 ^ P * M) + 2 * bound q M P
  unfolding transformed permuted
  line_and_mirror_size P few xs quiet v h = lines_and_mirrors P few (cell xs) quiet v h

  pub line-size : (P : ℕ) → P ≤ 10 → (xs : List ℤ) → ((t : ℕ) → nat_abs (cell xs t) ≤ M) → (v : ℕ) → v < 2 ^ P →
      65536 * nat_abs (cell (transformed R C S P xs) v) ≤ 92682 * (2 ^ P * M) + 65536 * bound q M P
  unfolding transformed permuted
  line-size P few xs quiet v h = go (2 ^ 44) (bound q M P) (nat_abs (lines R C S P (cell xs) v)) _ _ (omega arith)
      (size_of_near (2 ^ 60) (lines R C S P (cell xs) v) (direct (2 ^ P) (cell xs) v)) (lines_near near M M-small P few (cell xs) quiet v h)
      (direct_size (2 ^ P) (cell xs) M quiet v)
    where
      go : (W B y d D : ℕ) → 0 < W → y * (65536 * W) ≤ d + D → d ≤ B * (65536 * W) → D ≤ 2 ^ P * (M * (92682 * W)) → 65536 * y ≤ 92682 * (2 ^ P * M) + 65536 * B
      go W B y d D z h1 h2 h3 = le_of_mul-le-mul_left {k = W} (omega arith) z

  -- ---- the cells between the levels: each block of 2^L cells is a spectrum; past the end of the list a cell is 0

  pub level-size : (L P : ℕ) → L ≤ P → P ≤ 10 → (xs : List ℤ) → ((t : ℕ) → nat_abs (cell xs t) ≤ M) → (i : ℕ) →
      nat_abs (cell (levels R C S L (permuted P xs)) i) ≤ 2 * (2 ^ L * M) + 2 * bound q M L
  unfolding permuted
  level-size L P le few xs quiet i = go (ltb i (2 ^ P)) (ltb→lt i (2 ^ P)) (nltb→le i (2 ^ P))
    where
      K : ℕ
      K = P - L

      y : ℕ → ℤ
      y t = cell xs (t * 2 ^ K + reversed K (i / 2 ^ L))

      block : i < 2 ^ P → cell (levels R C S L (permuted P xs)) i ≡ lines R C S L y (i % 2 ^ L)
      block h = ap (λ (k : ℕ). cell (levels R C S L (placed P (cell xs))) k) (sym (div-add-mod' i (2 ^ L)))
          ∙ block_lines_lem R C S L K P whole (cell xs) (i / 2 ^ L) (i % 2 ^ L)
          ((div-lt_iff_lt-mul (pow_pos L)).1 (rw (mul_comm (2 ^ K) (2 ^ L), ← pow-add 2 L K, ← whole) h)) (mod-lt i (pow_pos L))
        where
          whole : P ≡ L + K
          whole = omega arith

      go : (c : Bool) → (T c → i < 2 ^ P) → (T (not c) → 2 ^ P ≤ i) → nat_abs (cell (levels R C S L (permuted P xs)) i) ≤ 2 * (2 ^ L * M) + 2 * bound q M L
      go true f g = rw (block (f tt))
          (omega (arith, lines_and_mirrors L (omega arith) y (λ t. quiet (t * 2 ^ K + reversed K (i / 2 ^ L))) (i % 2 ^ L) (mod-lt i (pow_pos L))))
      go false f g = rw (get_or-eq_default (levels R C S L (permuted P xs)) (pos 0) {n = i} (rw (length-levels R C S L (permuted P xs) ∙ length-permuted P xs) (g tt)))
          (omega arith)
