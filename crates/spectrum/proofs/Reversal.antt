-- Reversed binary digits: the place at which the permutation puts a cell.
-- Example: `cell_goes 3 xs 6 h : cell (permuted 3 xs) (reversed 3 6) ≡ cell xs 6`, and reversed 3 6 is 3 (binary 110 and 011).
use mathlib.Core.Path.{◌≡◌, refl, sym, ◌∙◌, ap, ap₂}
use mathlib.Core.List.{List}
use Prim.Native.Nat.{ℕ, zero, suc, ◌+◌, ◌*◌, ◌/◌, ◌%◌, ◌^◌, ◌≤◌, ◌<◌}
use native.Mathlib.Nat.{mul-le-mul_right}
use native.Mathlib.Omega.{arith}
use lib.IntN.{ℤ, pos}
use lib.Pow.{pow-add}
use Rattle.ints.proofs.Powers.{two_pow}
use Rattle.ints.proofs.Tables.{get_d_tabulate}
use Rattle.ints.specs.Cells.{cell}
use Rattle.spectrum.specs.Levels.{reversed, permuted}

reversed_suc : (P t : ℕ) → reversed (suc P) t ≡ t % 2 * 2 ^ P + reversed P (t / 2)
unfolding reversed
reversed_suc P t = omega arith

pub reversed_zero : (P : ℕ) → reversed P 0 ≡ 0
unfolding reversed
reversed_zero zero = refl
reversed_zero (suc P) = omega (arith, reversed_zero P)

pub reversed-lt : (P t : ℕ) → reversed P t < 2 ^ P
unfolding reversed
reversed-lt zero t = omega arith
reversed-lt (suc P) t = omega (arith, reversed-lt P (t / 2), two_pow P, mul-le-mul_right (2 ^ P) (digit t))
  where
    digit : (t : ℕ) → t % 2 ≤ 1
    digit t = omega arith

-- ---- the last L of L + K digits come to lie above the K others

pub reversed-split : (L K P m j : ℕ) → P ≡ L + K → j < 2 ^ L → reversed P (m * 2 ^ L + j) ≡ reversed L j * 2 ^ K + reversed K m
reversed-split zero K P m j e h = ap₂ reversed same alone ∙ unfold reversed in omega arith
  where
    same : P ≡ K
    same = omega arith

    alone : m * 2 ^ 0 + j ≡ m
    alone = omega arith
reversed-split (suc L) K zero m j e h = absurd (never e)
  where
    never : zero ≡ suc L + K → ⊥
    never e = omega arith
reversed-split (suc L) K (suc P) m j e h = reversed_suc P (m * 2 ^ suc L + j) ∙ ap₂ (λ (a b : ℕ). a * 2 ^ P + reversed P b) low high
    ∙ ap (λ (r : ℕ). j % 2 * 2 ^ P + r) (reversed-split L K P m (j / 2) less (omega (arith, two_pow L)))
    ∙ regroup (2 ^ P) (j % 2) (2 ^ L) (2 ^ K) (reversed L (j / 2)) (ap (λ (n : ℕ). 2 ^ n) less ∙ pow-add 2 L K)
    ∙ ap (λ (r : ℕ). r * 2 ^ K + reversed K m) (sym (reversed_suc L j))
  where
    less : P ≡ L + K
    less = omega arith

    twice : m * 2 ^ suc L ≡ 2 * (m * 2 ^ L)
    twice = omega (arith, ap (λ (x : ℕ). m * x) (two_pow L))

    low : (m * 2 ^ suc L + j) % 2 ≡ j % 2
    low = omega (arith, twice)

    high : (m * 2 ^ suc L + j) / 2 ≡ m * 2 ^ L + j / 2
    high = omega (arith, twice)

    regroup : (p b l k r : ℕ) → p ≡ l * k → b * p + (r * k + reversed K m) ≡ (b * l + r) * k + reversed K m
    regroup p b l k r f = rw f (omega arith)

-- so the first digit is the last of the reversed
reversed-first : (P d i : ℕ) → d ≤ 1 → i < 2 ^ P → reversed (suc P) (d * 2 ^ P + i) ≡ 2 * reversed P i + d
unfolding reversed
reversed-first P d i hd hi = reversed-split P 1 (suc P) d i (omega arith) hi ∙ omega arith

-- ---- reversed twice is t, so cell t goes to place `reversed P t`

pub reversed-twice : (P t : ℕ) → t < 2 ^ P → reversed P (reversed P t) ≡ t
reversed-twice zero t h = unfold reversed in omega arith
reversed-twice (suc P) t h = ap (reversed (suc P)) (reversed_suc P t) ∙ reversed-first P (t % 2) (reversed P (t / 2)) (omega arith) (reversed-lt P (t / 2))
    ∙ ap (λ (r : ℕ). 2 * r + t % 2) (reversed-twice P (t / 2) (omega (arith, two_pow P))) ∙ whole t
  where
    whole : (t : ℕ) → 2 * (t / 2) + t % 2 ≡ t
    whole t = omega arith

pub cell_goes : (P : ℕ) (xs : List ℤ) (t : ℕ) → t < 2 ^ P → cell (permuted P xs) (reversed P t) ≡ cell xs t
unfolding permuted
cell_goes P xs t h = get_d_tabulate (2 ^ P) (λ i. cell xs (reversed P i)) (pos 0) (reversed P t) (reversed-lt P t) ∙ ap (cell xs) (reversed-twice P t h)
