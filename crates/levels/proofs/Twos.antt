-- Level 1: halves of one cell, whose two lines are the sum and the difference, at every scale.
use mathlib.Core.Path.{◌≡◌, refl, sym, ◌∙◌, ap, subst}
use mathlib.Core.List.{List, [], ◌∷◌}
use Prim.Native.Nat.{ℕ, zero, suc, ◌+◌, ◌*◌, ◌/◌, ◌%◌, ◌^◌, ◌≤◌, ◌<◌}
use native.Mathlib.Omega.{arith}
use lib.IntN.{ℤ, pos, neg_ℤ, nat_abs, ◌+ℤ◌, ◌-ℤ◌}
use lib.ListN.{length}
use lib.Pow.{pow_pos}
use lib.Seq.{ext_get_or}
use Rattle.ints.specs.Cells.{cell}
use Rattle.ints.specs.Quotient.{rounded}
use Rattle.ints.proofs.Abs.{abs_plus, abs_minus}
use Rattle.ints.proofs.Slices.{everywhere}
use Rattle.ints.proofs.Rounding.{rounded_odd}
use Rattle.ints.proofs.Tables.{get_d_tabulate, length-tabulate}
use Rattle.cosine.specs.Cosine.{quarter_table}
use Rattle.cosine.proofs.Turn.{cosine-half, sine-half}
use Rattle.cosine.proofs.TableNear.{table-end}
use Rattle.spectrum.specs.Levels.{levels}
use Rattle.spectrum.specs.Spectrum.{table_cosine, table_sine, levels_at}
use Rattle.spectrum.proofs.Pairs.{first-half, second-half}
use Rattle.pair.specs.Pair.{joined_pair, pair_line, split}
use Rattle.pair.proofs.Lines.{plain_start}
use Rattle.pair.proofs.Splitting.{split-long, split-first, split-second}
use Rattle.levels.specs.Ready.{NoneAbove}
use Rattle.levels.proofs.Blocks.{levels_keep, levels-within-block, pair_is-level, next_level}

module _ (s : ℕ) (least : 4 ≤ s) (most : s ≤ 22) where
  end : quarter_table s 256 ≡ 0
  end = table-end s (omega arith)

  first : (x : ℕ → ℤ) → pair_line s 1 x 0 ≡ x 0 +ℤ x 1
  first x = first-half (rounded (2 ^ s)) (table_cosine s) (table_sine s) 1 (omega arith) x (λ j. x (1 + j)) 512 (omega arith) 0 (omega arith) ∙ ap (λ (q : ℤ). x 0 +ℤ q) (plain_start s least most (x 1) (x 1))

  second : (x : ℕ → ℤ) → pair_line s 1 x 1 ≡ x 0 -ℤ x 1
  second x = second-half (rounded (2 ^ s)) (table_cosine s) (table_sine s) 1 (omega arith) x (λ j. x (1 + j)) 512 (omega arith) 0 (omega arith) (cosine-half (quarter_table s) end) (sine-half (quarter_table s) end)
      ∙ ap (λ (q : ℤ). x 0 +ℤ q) (rounded_odd (2 ^ s) (pow_pos s) _ ∙ ap neg_ℤ (plain_start s least most (x 1) (x 1)))

  pub two_joined : (xs : List ℤ) → length xs ≡ 2 → split xs 1 0 (cell xs (1 + 0)) ≡ levels_at s 1 xs
  two_joined xs long = ext_get_or (pos 0) after (joined_pair s xs) (split-long xs 1 0 (cell xs 1) ∙ sym (length-tabulate (length xs) _)) (λ i h. line i (omega (arith, split-long xs 1 0 (cell xs 1), long)) ∙ sym (listed i (omega (arith, split-long xs 1 0 (cell xs 1)))))
      ∙ pair_is-level s 1 xs (omega arith) long ∙ next_level s 0 xs xs (unfold levels in refl)
    where
      after : List ℤ
      after = split xs 1 0 (cell xs 1)

      listed : (i : ℕ) → i < length xs → cell (joined_pair s xs) i ≡ pair_line s 1 (cell xs) i
      listed i h = get_d_tabulate (length xs) _ (pos 0) i h ∙ ap (λ (n : ℕ). pair_line s n (cell xs) i) (omega arith)

      never : {i : ℕ} → suc (suc i) < 2 → ⊥
      never h = omega arith

      line : (i : ℕ) → i < 2 → cell after i ≡ pair_line s 1 (cell xs) i
      line zero h = split-first xs 1 0 (cell xs 1) long (omega arith) ∙ sym (first (cell xs))
      line (suc zero) h = split-second xs 1 0 (cell xs 1) long (omega arith) ∙ sym (second (cell xs))
      line (suc (suc i)) h = absurd (never h)

-- ---- level 1 doubles a cell at most

two_small : (b : ℕ) (xs : List ℤ) → length xs ≡ 2 → NoneAbove b xs → (i : ℕ) → i < 2 → nat_abs (cell (split xs 1 0 (cell xs 1)) i) ≤ 2 * b
two_small b xs long h zero k = rw (split-first xs 1 0 (cell xs 1) long (omega arith)) (omega (arith, abs_plus (cell xs 0) (cell xs 1), h 0, h 1))
two_small b xs long h (suc zero) k = rw (split-second xs 1 0 (cell xs 1) long (omega arith)) (omega (arith, abs_minus (cell xs 0) (cell xs 1), h 0, h 1))
two_small b xs long h (suc (suc i)) k = absurd (never k)
  where
    never : suc (suc i) < 2 → ⊥
    never k = omega arith

pub first-level-small : (s : ℕ) → 4 ≤ s → s ≤ 22 → (b : ℕ) (xs : List ℤ) → length xs % 2 ≡ 0 → NoneAbove b xs → NoneAbove (2 * b) (levels_at s 1 xs)
first-level-small s least most b xs whole h = everywhere (pos 0) (λ z. nat_abs z ≤ 2 * b) (omega arith) (levels_at s 1 xs) (λ i k. go i (omega (arith, levels_keep s 1 xs)))
  where
    -- the two cells in which i lies
    two : ℕ → List ℤ
    two m = cell xs (m * 2) ∷ cell xs (m * 2 + 1) ∷ []

    same : (m j : ℕ) → j < 2 → cell xs (m * 2 + j) ≡ cell (two m) j
    same m zero k = ap (cell xs) (omega arith)
    same m (suc zero) k = refl
    same m (suc (suc j)) k = absurd (never k)
      where
        never : suc (suc j) < 2 → ⊥
        never k = omega arith

    small : (m : ℕ) → NoneAbove b (two m)
    small m zero = h (m * 2)
    small m (suc zero) = h (m * 2 + 1)
    small m (suc (suc j)) = omega arith

    at : (i : ℕ) → i < length xs → cell (levels_at s 1 xs) (i / 2 * 2 + i % 2) ≡ cell (split (two (i / 2)) 1 0 (cell (two (i / 2)) 1)) (i % 2)
    at i k = levels-within-block s 1 (i / 2) xs (two (i / 2)) (omega arith) refl (same (i / 2)) (i % 2) (omega arith) ∙ ap (λ (l : List ℤ). cell l (i % 2)) (sym (two_joined s least most (two (i / 2)) refl))

    back : (i : ℕ) → i ≡ i / 2 * 2 + i % 2
    back i = omega arith

    go : (i : ℕ) → i < length xs → nat_abs (cell (levels_at s 1 xs) i) ≤ 2 * b
    go i k = subst (λ (j : ℕ). nat_abs (cell (levels_at s 1 xs) j) ≤ 2 * b) (sym (back i)) (rw (at i k) (two_small b (two (i / 2)) refl (small (i / 2)) (i % 2) (omega arith)))
