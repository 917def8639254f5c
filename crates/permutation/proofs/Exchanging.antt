-- What two cells hold that have been exchanged, and all others.
use mathlib.Core.Path.{◌≡◌, ◌∙◌}
use mathlib.Core.List.{List}
use Prim.Native.Nat.{ℕ, zero, suc, ◌<◌}
use native.Mathlib.Omega.{arith}
use lib.IntN.{ℤ, pos}
use lib.ListN.{length, set, length-set}
use lib.Seq.{get_or-set_same, get_or-set_other}
use Rattle.ints.specs.Cells.{cell}
use Rattle.ints.proofs.Filling.{filled_all}
use Rattle.spectrum.specs.Levels.{permuted, reversed}
use Rattle.permutation.specs.Inner.{exchanged}

module _ (xs : List ℤ) (i j : ℕ) (apart : i ≡ j → ⊥) (first : i < length xs) (second : j < length xs) where
  pub exchanged-first : cell (exchanged i j xs) i ≡ cell xs j
  exchanged-first = get_or-set_other (set xs i (cell xs j)) j i (cell xs i) (pos 0) apart ∙ get_or-set_same xs i (cell xs j) (pos 0) first

  pub exchanged-second : cell (exchanged i j xs) j ≡ cell xs i
  exchanged-second = get_or-set_same (set xs i (cell xs j)) j (cell xs i) (pos 0) (rw length-set second)

pub exchanged_other : (xs : List ℤ) (i j t : ℕ) → (t ≡ i → ⊥) → (t ≡ j → ⊥) → cell (exchanged i j xs) t ≡ cell xs t
exchanged_other xs i j t a b = get_or-set_other (set xs i (cell xs j)) j t (cell xs i) (pos 0) b ∙ get_or-set_other xs i t (cell xs j) (pos 0) a

-- ---- four cells: the middle two change places

pub four_permuted : (xs : List ℤ) → length xs ≡ 4 → exchanged 1 2 xs ≡ permuted 2 xs
unfolding permuted reversed
four_permuted xs long = filled_all (pos 0) (λ i. cell xs (reversed 2 i)) (exchanged 1 2 xs) 4 (rw (length-set, length-set) long) go
  where
    never : {i : ℕ} → suc (suc (suc (suc i))) < 4 → ⊥
    never h = omega arith

    go : (i : ℕ) → i < 4 → cell (exchanged 1 2 xs) i ≡ cell xs (reversed 2 i)
    go zero h = exchanged_other xs 1 2 0 (λ e. omega arith) (λ e. omega arith)
    go (suc zero) h = exchanged-first xs 1 2 (λ e. omega arith) (omega arith) (omega arith)
    go (suc (suc zero)) h = exchanged-second xs 1 2 (λ e. omega arith) (omega arith) (omega arith)
    go (suc (suc (suc zero))) h = exchanged_other xs 1 2 3 (λ e. omega arith) (λ e. omega arith)
    go (suc (suc (suc (suc i)))) h = absurd (never h)

-- ---- eight cells: two pairs change places

pub eight_permuted : (xs : List ℤ) → length xs ≡ 8 → exchanged 3 6 (exchanged 1 4 xs) ≡ permuted 3 xs
unfolding permuted reversed
eight_permuted xs long = filled_all (pos 0) (λ i. cell xs (reversed 3 i)) (exchanged 3 6 ys) 8 (rw (length-set, length-set) ys_long) go
  where
    ys : List ℤ
    ys = exchanged 1 4 xs

    ys_long : length ys ≡ 8
    ys_long = rw (length-set, length-set) long

    never : {i : ℕ} → suc (suc (suc (suc (suc (suc (suc (suc i))))))) < 8 → ⊥
    never h = omega arith

    kept : (i : ℕ) → (i ≡ 3 → ⊥) → (i ≡ 6 → ⊥) → cell (exchanged 3 6 ys) i ≡ cell ys i
    kept i a b = exchanged_other ys 3 6 i a b

    still : (i : ℕ) → (i ≡ 1 → ⊥) → (i ≡ 4 → ⊥) → cell ys i ≡ cell xs i
    still i a b = exchanged_other xs 1 4 i a b

    go : (i : ℕ) → i < 8 → cell (exchanged 3 6 ys) i ≡ cell xs (reversed 3 i)
    go zero h = kept 0 (λ e. omega arith) (λ e. omega arith) ∙ still 0 (λ e. omega arith) (λ e. omega arith)
    go (suc zero) h = kept 1 (λ e. omega arith) (λ e. omega arith) ∙ exchanged-first xs 1 4 (λ e. omega arith) (omega arith) (omega arith)
    go (suc (suc zero)) h = kept 2 (λ e. omega arith) (λ e. omega arith) ∙ still 2 (λ e. omega arith) (λ e. omega arith)
    go (suc (suc (suc zero))) h = exchanged-first ys 3 6 (λ e. omega arith) (omega (arith, ys_long)) (omega (arith, ys_long)) ∙ still 6 (λ e. omega arith) (λ e. omega arith)
    go (suc (suc (suc (suc zero)))) h = kept 4 (λ e. omega arith) (λ e. omega arith) ∙ exchanged-second xs 1 4 (λ e. omega arith) (omega arith) (omega arith)
    go (suc (suc (suc (suc (suc zero))))) h = kept 5 (λ e. omega arith) (λ e. omega arith) ∙ still 5 (λ e. omega arith) (λ e. omega arith)
    go (suc (suc (suc (suc (suc (suc zero)))))) h = exchanged-second ys 3 6 (λ e. omega arith) (omega (arith, ys_long)) (omega (arith, ys_long)) ∙ still 3 (λ e. omega arith) (λ e. omega arith)
    go (suc (suc (suc (suc (suc (suc (suc zero))))))) h = kept 7 (λ e. omega arith) (λ e. omega arith) ∙ still 7 (λ e. omega arith) (λ e. omega arith)
    go (suc (suc (suc (suc (suc (suc (suc (suc i)))))))) h = absurd (never h)
